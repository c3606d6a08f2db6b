-- An address of 20 bits is its own low 20 bits.
use Rattle.std.proofs.Common.{◌≡◌, ℕ, ◌^◌, ◌<◌, arith}
use Rattle.model.specs.Status.{address}

pub address_same : (a : ℕ) → a < 2 ^ 20 → address a ≡ a
unfolding address
address_same a h = omega arith
