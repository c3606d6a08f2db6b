use Rattle.std.proofs.Common.{◌-◌, ◌+◌, ◌≤◌, List, length}
use Rattle.bus.specs.Touches.{Becomes}
use Rattle.queue.specs.Rows.{queued, capacity, SameSlots, Extended}
use Rattle.model.specs.declared.Record.{Record}
use Rattle.model.specs.Answers.{Answer}
use Rattle.model.specs.Console.{Desk}
use Rattle.model.specs.Tapes.{spell, spell_from, Playing}
use Rattle.instructions.specs.Instructions.{instruction}
use Rattle.console.specs.Tape.{on_desk}
use Rattle.console.proofs.tapes.obey_all.Given as goal

-- as the tape goes on from here, so it goes from its beginning
abbrev pub invariant-loop-rest : goal.invariant-loop-rest
invariant-loop-rest g l =
    record {
      goes :
          (x : Answer) (v : Desk) (p : List Record) →
          Playing instruction (capacity l.initial.trace) (spell_from l.rest 0 (length l.tape - length l.rest) l.address) l.obeyed
          (on_desk g.S.Store.meaning g.B.Bus.devices l.core) (queued l.trace) x v p →
          Playing instruction (capacity l.initial.trace) (spell l.tape) 0
          (on_desk g.S.Store.meaning g.B.Bus.devices l.initial.core) (queued l.initial.trace) x v p;
      part : l.obeyed + length l.rest ≤ length l.tape;
      touches : Becomes g.B.Bus.touched l.initial.core.bus l.core.bus;
      same : SameSlots l.initial.trace l.trace;
      extended : Extended l.initial.trace l.trace;
    }

abbrev pub decreases-loop-rest : goal.decreases-loop-rest
decreases-loop-rest g l = length l.rest
