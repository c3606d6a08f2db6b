use Rattle.stores.proofs.Images.{images_told_apart_lem}
use Rattle.stores.proofs.laws.images_told_apart.Goals as goal

pub returns : goal.returns
returns c = images_told_apart_lem
