use Rattle.queue.proofs.Extensions.{extended_same}
use Rattle.console.proofs.machine.Machine.step.Goals as goal

pub returns-in_err-unless_off-clause-extended : goal.returns-in_err-unless_off-clause-extended
returns-in_err-unless_off-clause-extended g c = extended_same _
