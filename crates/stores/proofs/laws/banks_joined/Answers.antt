use Rattle.stores.proofs.Banks.{banks_joined_lem}
use Rattle.stores.proofs.laws.banks_joined.Goals as goal

pub returns : goal.returns
returns c = banks_joined_lem
