-- The bytes of a halfword: the one at an odd address is the low one.
use Rattle.std.specs.Prelude.{Bool, ℕ, ◌%◌, eqb}

unfoldable pub is_odd : ℕ → Bool
is_odd a = eqb (a % 2) 1
