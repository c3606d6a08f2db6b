use Rattle.std.proofs.Common.{◌≡◌, length, take}
use Rattle.queue.specs.Rows.{queued, capacity}
use Rattle.outcome.proofs.trials.queue_of.Given as goal

-- of the keys so far those that fit wait
abbrev pub invariant-loop-key : goal.invariant-loop-key
invariant-loop-key l = record { size : capacity l.queue ≡ length l.fn.slots; waits : queued l.queue ≡ take (length l.fn.slots) (take l.key-index l.keys) }
