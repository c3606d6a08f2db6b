use Rattle.queue.proofs.Extensions.{extended_same}
use Rattle.steps.proofs.step.finish.Goals as goal

pub returns-in-Ok-2-clause-extended : goal.returns-in-Ok-2-clause-extended
returns-in-Ok-2-clause-extended g c = extended_same _

pub returns-in-Ok-2-2-clause-extended : goal.returns-in-Ok-2-2-clause-extended
returns-in-Ok-2-2-clause-extended g c = extended_same _
