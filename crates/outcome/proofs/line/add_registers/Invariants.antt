use Rattle.std.proofs.Common.{◌≡◌, ◌++◌, take, vec_items}
use Rattle.outcome.specs.Texts.{registers_text}
use Rattle.outcome.proofs.line.add_registers.Given as goal

-- the text has the registers so far
abbrev pub invariant-loop-register : goal.invariant-loop-register
invariant-loop-register l = vec_items l.text ≡ vec_items l.initial.text ++ registers_text (take l.register-index l.registers)
