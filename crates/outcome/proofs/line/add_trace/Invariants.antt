use Rattle.std.proofs.Common.{◌≡◌, ◌++◌, vec_items}
use Rattle.queue.specs.Rows.{queued, unread}
use Rattle.outcome.specs.Texts.{records_text}
use Rattle.outcome.proofs.line.add_trace.Given as goal

-- with the records that are left, the text is what it is to be
abbrev pub invariant-loop-item : goal.invariant-loop-item
invariant-loop-item l =
    vec_items l.text ++ records_text (unread l.item-iterator) ≡ vec_items l.initial.text ++ records_text (queued l.trace)
