use Rattle.std.proofs.Common.{refl, rules}
use Rattle.bus.proofs.Touches.{becomes_same}
use Rattle.queue.proofs.Extensions.{extended_same}
use Rattle.model.specs.Answers.{number}
use Rattle.instructions.specs.Instructions.{instruction}
use Rattle.steps.proofs.Chains.{steps_split}
use Rattle.console.proofs.RunCalls.{run_denied, run_made}
use Rattle.console.proofs.machine.Machine.run.Goals as goal

pub returns-in_err-unless_off : goal.returns-in_err-unless_off
returns-in_err-unless_off g c =
    record {
      says = run_denied instruction _ 7 _ _ _ _ _ _ _ (search rules) (search rules) (search rules) (search rules);
      splits = steps_split instruction;
      denied = search rules;
      denied_trace = search rules;
      touches = search (rules, becomes_same);
      same = search rules;
      extended = extended_same _;
    }

pub returns-in_err-answer : goal.returns-in_err-answer
returns-in_err-answer g c =
    record {
      says = run_denied instruction _ (number c.in_err-answer.field-0.0) _ _ _ _ _ _ _ (search rules) (search rules) (search rules) (search rules);
      splits = steps_split instruction;
      denied = search rules;
      denied_trace = search rules;
      touches = c.run.ensures.touches;
      same = search rules;
      extended = c.run.ensures.extended;
    }

pub returns : goal.returns
returns g c =
    record {
      says = run_made instruction _ _ _ _ _ _ _ _ _ _ (search rules) refl refl c.in_ok-answer.ensures.does;
      splits = steps_split instruction;
      denied = search rules;
      denied_trace = search rules;
      touches = c.run.ensures.touches;
      same = search rules;
      extended = c.run.ensures.extended;
    }
