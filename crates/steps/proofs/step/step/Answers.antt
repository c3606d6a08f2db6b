use Rattle.queue.proofs.Extensions.{extended_same}
use Rattle.steps.proofs.step.step.Goals as goal

pub returns-in_err-check_room-clause-extended : goal.returns-in_err-check_room-clause-extended
returns-in_err-check_room-clause-extended g c = extended_same _
