use Rattle.std.proofs.Common.{◌-◌}
use Rattle.bus.specs.Touches.{Becomes}
use Rattle.queue.specs.Rows.{queued, capacity, HasRoom, SameSlots, Extended}
use Rattle.model.specs.Runs.{Steps}
use Rattle.processor.specs.View.{state_of}
use Rattle.instructions.specs.Instructions.{instruction}
use Rattle.steps.proofs.run.run_with_room.Given as goal

-- the steps made so far, none of which stopped the run
abbrev pub invariant-loop-steps : goal.invariant-loop-steps
invariant-loop-steps g l =
    record {
      onward :
          Steps instruction (capacity l.initial.trace) (l.steps - 1)
          (state_of g.S.Store.meaning g.B.Bus.devices l.initial.m) (queued l.initial.trace)
          (state_of g.S.Store.meaning g.B.Bus.devices l.m) (queued l.trace);
      touches : Becomes g.B.Bus.touched l.initial.m.bus l.m.bus;
      room : HasRoom l.trace;
      same : SameSlots l.initial.trace l.trace;
      extended : Extended l.initial.trace l.trace;
    }
