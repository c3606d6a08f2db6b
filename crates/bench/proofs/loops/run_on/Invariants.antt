use Rattle.std.proofs.Common.{◌≡◌, ◌-◌, ◌<◌, ◌≤◌, None}
use Rattle.queue.specs.Rows.{queued, capacity, SameSlots, Extended}
use Rattle.model.specs.Runs.{Steps}
use Rattle.instructions.specs.Instructions.{instruction}
use Rattle.console.specs.View.{desk_of}
use Rattle.bench.specs.Loops.{start_denial}
use Rattle.bench.proofs.loops.run_on.Given as goal

-- the steps made so far, none of which stopped the run; before the first nothing has changed, and after it nothing denies the next
abbrev pub invariant-loop-made : goal.invariant-loop-made
invariant-loop-made g l =
    let w = desk_of g.S.Store.meaning g.B.Bus.devices l.initial.machine in
    let v = desk_of g.S.Store.meaning g.B.Bus.devices l.machine in
    record {
      within : l.made ≤ l.count;
      key : v.key ≡ w.key;
      goes : Steps instruction (capacity l.initial.trace) l.made w.core (queued l.initial.trace) v.core (queued l.trace);
      before : l.made ≡ 0 → (l.machine ≡ l.initial.machine) × (l.trace ≡ l.initial.trace);
      started : 0 < l.made → start_denial (capacity l.initial.trace) w (queued l.initial.trace) ≡ None;
      free : 0 < l.made → start_denial (capacity l.initial.trace) v (queued l.trace) ≡ None;
      same : SameSlots l.initial.trace l.trace;
      extended : Extended l.initial.trace l.trace;
    }

abbrev pub decreases-loop-made : goal.decreases-loop-made
decreases-loop-made g l = l.count - l.made
