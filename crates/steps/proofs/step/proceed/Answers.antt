use Rattle.queue.proofs.Extensions.{extended_same}
use Rattle.steps.proofs.step.proceed.Goals as goal

pub returns-then-waits-clause-extended : goal.returns-then-waits-clause-extended
returns-then-waits-clause-extended g c = extended_same _
