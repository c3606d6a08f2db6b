use Rattle.std.specs.Prelude.{◌≡◌, ℕ, ◌-◌, ◌%◌, ◌^◌, ◌<◌, ◌≢◌}
use Rattle.fields.specs.Parts.{joined, high_half, low_half, halves_exchanged}
use Rattle.fields.specs.Bits.{bit_of, with_bit, without_bit, with_bit_flipped}

-- A fullword is the join of its halfwords, and its halves exchanged twice give it again.
abbrev pub HalvesJoined : Type 0
HalvesJoined =
    ((v : ℕ) → joined (high_half v) (low_half v) ≡ v)
    × ((v : ℕ) → v < 2 ^ 32 → halves_exchanged (halves_exchanged v) ≡ v)

-- A bit that is set is 1, one that is cleared is 0, one that is complemented is the other one.
abbrev pub BitsWritten : Type 0
BitsWritten =
    ((n h : ℕ) → bit_of n (with_bit n h) ≡ 1)
    × ((n h : ℕ) → bit_of n (without_bit n h) ≡ 0)
    × ((n h : ℕ) → bit_of n (with_bit_flipped n h) ≡ 1 - bit_of n h)

-- The other bits of the halfword stay as they are.
abbrev pub BitsKept : Type 0
BitsKept =
    ((m n h : ℕ) → (m % 16 ≢ n % 16) → bit_of m (with_bit n h) ≡ bit_of m h)
    × ((m n h : ℕ) → (m % 16 ≢ n % 16) → bit_of m (without_bit n h) ≡ bit_of m h)
    × ((m n h : ℕ) → (m % 16 ≢ n % 16) → bit_of m (with_bit_flipped n h) ≡ bit_of m h)
