use Rattle.std.proofs.Common.{◌≡◌, ◌++◌, vec_items}
use Rattle.session.specs.Lines.{digits}
use Rattle.outcome.proofs.hex.add_hex.Given as goal

-- with the digits that are left, the text is what it is to be
abbrev pub invariant-loop-place : goal.invariant-loop-place
invariant-loop-place l = vec_items l.text ++ digits l.place l.value ≡ vec_items l.initial.text ++ digits l.places l.value
