-- Addresses keep to 20 bits and to their multiples.
use Rattle.std.specs.Prelude.{◌≡◌, ℕ, ◌+◌, ◌*◌, ◌%◌, ◌^◌, ◌<◌, ◌≤◌}
use Rattle.model.specs.Status.{address, to_half, to_full, to_psw}
use Rattle.decode.specs.declared.operations.Form.TheVariants.{Indexed}
use Rattle.decode.specs.Forms.{size_of, address_of}
use Rattle.operands.specs.Operands.{next_of}

-- An address of 20 bits, with those of the halfword, the fullword and the PSW that hold it.
pub record Address (a : ℕ) : Type 0 where
  pub small : a < 2 ^ 20
  pub half : to_half a ≤ a
  pub full : to_full a ≤ a
  pub psw : to_psw a ≤ a
  pub halves : to_half a % 2 ≡ 0
  pub fulls : to_full a % 4 ≡ 0
  pub psws : to_psw a % 8 ≡ 0

-- Whatever the halfwords and the indexes, the address rule gives an address.
abbrev pub AddressesHold : Type 0
AddressesHold = (own w x i j : ℕ) → Address (address_of own w x i j)

-- The next instruction stands behind all halfwords of this one.
abbrev pub NextHolds : Type 0
NextHolds = (own w : ℕ) → next_of own w ≡ address (own + 2 * size_of Indexed w)
