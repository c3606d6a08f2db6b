use Rattle.model.proofs.laws.first_denial_is_given.Goals as goal
use Rattle.model.proofs.Denials.{first_is_given as law}

pub returns : goal.returns
returns c = law
