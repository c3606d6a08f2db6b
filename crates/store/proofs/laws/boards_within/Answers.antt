use Rattle.store.proofs.Limits.{boards_within}
use Rattle.store.proofs.laws.boards_within.Goals as goal

pub returns : goal.returns
returns c = boards_within
