use Rattle.store.proofs.Limits.{boards_told_apart_lem}
use Rattle.store.proofs.laws.boards_told_apart.Goals as goal

pub returns : goal.returns
returns c = boards_told_apart_lem
