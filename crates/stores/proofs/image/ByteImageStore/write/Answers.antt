use Rattle.std.proofs.Common.{arith, rules}
use Rattle.stores.proofs.Images.{image_stored}
use Rattle.stores.proofs.image.ByteImageStore.write.Goals as goal

pub returns-then-place-fitted-clause-written : goal.returns-then-place-fitted-clause-written
returns-then-place-fitted-clause-written c = image_stored _ _ _ _ _ (search rules) (rw c.to_be_bytes.ensures (omega arith))
