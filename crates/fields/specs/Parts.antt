use Rattle.std.specs.Prelude.{ℕ, ◌+◌, ◌*◌, ◌/◌, ◌%◌, ◌^◌, Bool, cond}

-- The halfwords of a fullword, and the fullword of two halfwords.
unfoldable pub high_half : ℕ → ℕ
high_half v = v / 2 ^ 16

unfoldable pub low_half : ℕ → ℕ
low_half v = v % 2 ^ 16

unfoldable pub joined : ℕ → ℕ → ℕ
joined high low = high * 2 ^ 16 + low

-- A fullword with another low halfword, and one with its halfwords exchanged.
unfoldable pub with_low_half : ℕ → ℕ → ℕ
with_low_half v h = v / 2 ^ 16 * 2 ^ 16 + h

unfoldable pub halves_exchanged : ℕ → ℕ
halves_exchanged v = v % 2 ^ 16 * 2 ^ 16 + v / 2 ^ 16

-- The low byte of a fullword, and the fullword with another one.
unfoldable pub low_byte : ℕ → ℕ
low_byte v = v % 2 ^ 8

unfoldable pub with_low_byte : ℕ → ℕ → ℕ
with_low_byte v b = v / 2 ^ 8 * 2 ^ 8 + b

-- The low halfword of a fullword with its bytes exchanged.
unfoldable pub bytes_exchanged : ℕ → ℕ
bytes_exchanged v = v % 2 ^ 8 * 2 ^ 8 + v / 2 ^ 8 % 2 ^ 8

-- The byte of a halfword at an odd or an even address: the even one is the high byte. The halfword with another byte there.
unfoldable pub byte_at : Bool → ℕ → ℕ
byte_at odd h = cond odd (h % 2 ^ 8) (h / 2 ^ 8)

unfoldable pub with_byte : Bool → ℕ → ℕ → ℕ
with_byte odd h b = cond odd (h / 2 ^ 8 * 2 ^ 8 + b) (b * 2 ^ 8 + h % 2 ^ 8)

-- A register names a device by its low ten bits.
unfoldable pub device_number : ℕ → ℕ
device_number v = v % 2 ^ 10
