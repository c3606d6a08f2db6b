use Rattle.std.specs.Prelude.{ℕ, ◌+◌, ◌-◌, ◌*◌, ◌/◌, ◌%◌, ◌^◌, cond, ◌==◌}

-- A row of bits from an address on: bit n of it stands 2 * (n / 16) bytes further, at place n % 16 from the left of the halfword there.
unfoldable pub bit_offset : ℕ → ℕ
bit_offset n = 2 * (n / 16)

-- The weight in its halfword of bit n.
unfoldable pub bit_weight : ℕ → ℕ
bit_weight n = 2 ^ (15 - n % 16)

-- Bit n in its halfword h, 0 or 1.
unfoldable pub bit_of : ℕ → ℕ → ℕ
bit_of n h = h / bit_weight n % 2

-- The halfword with that bit 1, with it 0, with it complemented: the weight of the bit comes or goes.
unfoldable pub with_bit : ℕ → ℕ → ℕ
with_bit n h = cond (bit_of n h == 0) (h + bit_weight n) h

unfoldable pub without_bit : ℕ → ℕ → ℕ
without_bit n h = cond (bit_of n h == 0) h (h - bit_weight n)

unfoldable pub with_bit_flipped : ℕ → ℕ → ℕ
with_bit_flipped n h = cond (bit_of n h == 0) (h + bit_weight n) (h - bit_weight n)
