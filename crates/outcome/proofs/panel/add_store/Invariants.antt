use Rattle.std.proofs.Common.{◌≡◌, ◌++◌, vec_items}
use Rattle.outcome.specs.PanelTexts.{rows_lines}
use Rattle.outcome.proofs.panel.add_store.Given as goal

-- the text has the rows so far
abbrev pub invariant-loop-number : goal.invariant-loop-number
invariant-loop-number l = vec_items l.text ≡ vec_items l.initial.text ++ rows_lines l.words l.number
