use Rattle.std.proofs.Common.{◌≡◌, ◌++◌, replicate, vec_items}
use Rattle.outcome.proofs.panel.add_spaces.Given as goal

-- the text has the spaces so far
abbrev pub invariant-loop-place : goal.invariant-loop-place
invariant-loop-place l = vec_items l.text ≡ vec_items l.initial.text ++ replicate l._place 32
