use Rattle.cases.proofs.there_are_such_machines.Goals as goal
use Rattle.cases.proofs.Example.{example}

pub returns : goal.returns
returns c = example
