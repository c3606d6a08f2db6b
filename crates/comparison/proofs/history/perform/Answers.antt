use Rattle.queue.proofs.Extensions.{extended_same}
use Rattle.comparison.proofs.history.perform.Goals as goal

pub returns-in-TurnKey-clause-extended : goal.returns-in-TurnKey-clause-extended
returns-in-TurnKey-clause-extended g c = extended_same _

pub returns-in-Initialise-clause-extended : goal.returns-in-Initialise-clause-extended
returns-in-Initialise-clause-extended g c = extended_same _

pub returns-in-Examine-clause-extended : goal.returns-in-Examine-clause-extended
returns-in-Examine-clause-extended g c = extended_same _

pub returns-in-Deposit-clause-extended : goal.returns-in-Deposit-clause-extended
returns-in-Deposit-clause-extended g c = extended_same _

pub returns-in-Set-clause-extended : goal.returns-in-Set-clause-extended
returns-in-Set-clause-extended g c = extended_same _

pub returns-in-Show-clause-extended : goal.returns-in-Show-clause-extended
returns-in-Show-clause-extended g c = extended_same _
