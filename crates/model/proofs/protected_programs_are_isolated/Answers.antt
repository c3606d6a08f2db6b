use Rattle.model.proofs.protected_programs_are_isolated.Goals as goal
use Rattle.model.proofs.Whole.{isolation}

pub returns : goal.returns
returns c = isolation
