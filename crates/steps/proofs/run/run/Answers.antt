use Rattle.queue.proofs.Extensions.{extended_same}
use Rattle.steps.proofs.run.run.Goals as goal

pub returns-in_err-check_count-clause-extended : goal.returns-in_err-check_count-clause-extended
returns-in_err-check_count-clause-extended g c = extended_same _

pub returns-in_err-check_room-clause-extended : goal.returns-in_err-check_room-clause-extended
returns-in_err-check_room-clause-extended g c = extended_same _
