-- A location that is even and has 20 bits is loaded as it is.
use Rattle.std.proofs.Common.{◌≡◌, ℕ, ◌*◌, ◌/◌, ◌%◌, ◌^◌, ◌<◌, None, arith, rules}
use Rattle.model.specs.declared.Item.TheVariants.{Location}
use Rattle.model.specs.Status.{counter, address}
use Rattle.model.specs.Console.{strange, value_denial}

even : (v : ℕ) → v % 2 ≡ 0 → v < 2 ^ 20 → v % 2 ^ 20 % 2 ^ 20 / 2 * 2 ≡ v
even v e l = omega arith

pub location_same : (v : ℕ) → value_denial Location v ≡ None → counter (address v) ≡ v
unfolding counter address strange
location_same v h = search (rules, even)
