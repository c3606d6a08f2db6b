use Rattle.model.proofs.laws.unused_bits_stay_zero.Goals as goal
use Rattle.model.proofs.Histories.{unused_bits_stay_zero as law}

pub returns : goal.returns
returns c = law
