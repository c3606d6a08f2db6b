use Rattle.model.proofs.laws.lowest_requester_is_taken.Goals as goal
use Rattle.model.proofs.Requests.{lowest_is_taken as law}

pub returns : goal.returns
returns c = law
