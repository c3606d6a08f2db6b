use Rattle.std.proofs.Common.{rules}
use Rattle.words.specs.Products.{divided, quotient, remainder}
use Rattle.words.proofs.products.divided.Goals as goal

pub returns : goal.returns
unfolding divided quotient remainder
returns c = search rules
