use Rattle.std.proofs.Common.{◌≤◌, length, take, vec_items, vec_len, vec_capacity}
use Rattle.bus.specs.Touches.{Becomes}
use Rattle.queue.specs.Rows.{queued, capacity, SameSlots, Extended}
use Rattle.console.specs.View.{desk_of}
use Rattle.comparison.specs.Lists.{Followed}
use Rattle.comparison.proofs.follow.follow.Given as goal

-- the calls so far were made, and are answered so
abbrev pub invariant-loop-asking : goal.invariant-loop-asking
invariant-loop-asking g l =
    record {
      followed : Followed (capacity l.initial.trace) (take l.asking-index l.list) (desk_of g.S.Store.meaning g.B.Bus.devices l.initial.machine) (queued l.initial.trace) (vec_items l.answered.answers) (desk_of g.S.Store.meaning g.B.Bus.devices l.machine) (queued l.trace);
      part : vec_len l.answered.answers ≤ l.asking-index;
      within : l.asking-index ≤ length l.list;
      room : length l.list ≤ vec_capacity l.answered.answers;
      touches : Becomes g.B.Bus.touched l.initial.machine.core.bus l.machine.core.bus;
      same : SameSlots l.initial.trace l.trace;
      extended : Extended l.initial.trace l.trace;
    }
