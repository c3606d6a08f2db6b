use Rattle.std.proofs.Common.{◌≡◌, ◌+◌, ◌<◌, ◌^◌, ◌++◌, length, vec_items}
use Rattle.std.specs.List.{enumerate_from}
use Rattle.queue.specs.Rows.{queued, unread}
use Rattle.outcome.specs.PanelTexts.{records_lines}
use Rattle.outcome.proofs.panel.add_trace.Given as goal

-- with the records that are left, the text is what it is to be
abbrev pub invariant-loop-number : goal.invariant-loop-number
invariant-loop-number l =
    (l.number + length (unread l.item-iterator) < 2 ^ 64)
    × (vec_items l.text ++ records_lines (enumerate_from l.number (unread l.item-iterator)) ≡ vec_items l.initial.text ++ records_lines (enumerate_from 0 (queued l.trace)))
