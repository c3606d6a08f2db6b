use Rattle.std.proofs.Common.{rules}
use Rattle.bus.proofs.Touches.{becomes_same}
use Rattle.queue.proofs.Extensions.{extended_same}
use Rattle.instructions.specs.Instructions.{instruction}
use Rattle.console.specs.Tape.{on_desk}
use Rattle.console.proofs.TapeCalls.{play_off, play_made}
use Rattle.console.proofs.machine.Machine.play.Goals as goal

pub returns-in_err-unless_off : goal.returns-in_err-unless_off
returns-in_err-unless_off g c =
    record { says = play_off instruction _ 7 _ _ _ _ _ _ _ (search rules) (search rules) (search rules) (search rules); key = search rules; denied_at_off = search rules; touches = search (rules, becomes_same); same = search rules; extended = extended_same _ }

pub returns : goal.returns
returns g c =
    record {
      says = play_made instruction _ _ _ _ (on_desk g.S.Store.meaning g.B.Bus.devices c.play_on-answer.new.core) _ _ _ _ (search rules) c.play_on-answer.ensures.played (search rules);
      key = search rules;
      denied_at_off = search rules;
      touches = search rules;
      same = search rules;
      extended = search rules;
    }
