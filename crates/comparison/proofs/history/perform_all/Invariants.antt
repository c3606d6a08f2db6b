use Rattle.std.proofs.Common.{◌≤◌, length, take}
use Rattle.bus.specs.Touches.{Becomes}
use Rattle.queue.specs.Rows.{queued, capacity, SameSlots, Extended}
use Rattle.console.specs.View.{desk_of}
use Rattle.comparison.specs.Lists.{PerformsAll}
use Rattle.comparison.proofs.history.perform_all.Given as goal

-- the calls so far were made
abbrev pub invariant-loop-call : goal.invariant-loop-call
invariant-loop-call g l =
    record {
      made : PerformsAll (capacity l.initial.trace) (take l.call-index l.calls) (desk_of g.S.Store.meaning g.B.Bus.devices l.initial.machine) (queued l.initial.trace) (desk_of g.S.Store.meaning g.B.Bus.devices l.machine) (queued l.trace);
      within : l.call-index ≤ length l.calls;
      touches : Becomes g.B.Bus.touched l.initial.machine.core.bus l.machine.core.bus;
      same : SameSlots l.initial.trace l.trace;
      extended : Extended l.initial.trace l.trace;
    }
