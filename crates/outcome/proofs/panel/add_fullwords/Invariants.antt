use Rattle.std.proofs.Common.{◌≡◌, ◌++◌, take, vec_items}
use Rattle.outcome.specs.PanelTexts.{spaced}
use Rattle.outcome.proofs.panel.add_fullwords.Given as goal

-- the text has the numbers so far
abbrev pub invariant-loop-word : goal.invariant-loop-word
invariant-loop-word l = vec_items l.text ≡ vec_items l.initial.text ++ spaced 8 (take l.word-index l.words)
