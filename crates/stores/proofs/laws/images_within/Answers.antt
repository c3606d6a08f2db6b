use Rattle.stores.proofs.Images.{images_within_lem}
use Rattle.stores.proofs.laws.images_within.Goals as goal

pub returns : goal.returns
returns c = images_within_lem
