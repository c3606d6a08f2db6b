use Rattle.cases.proofs.two_alike_machines.Goals as goal
use Rattle.cases.proofs.Alike.{machines}

pub returns : goal.returns
returns c = machines
