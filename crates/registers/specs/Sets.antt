-- Which set of the register file a set is.
use Rattle.std.specs.Prelude.{ℕ}
use Rattle.registers.specs.declared.file.RegisterSet.{RegisterSet}
use Rattle.registers.specs.declared.file.RegisterSet.TheVariants.{First, Second}

abbrev pub set_number : RegisterSet → ℕ
set_number First = 0
set_number Second = 1
