use Rattle.std.specs.Prelude.{ℕ, ◌+◌, ◌*◌, ◌/◌, ◌%◌, ◌^◌, Bool, true, cond, ℤ, ◌*ℤ◌, Some, None, Option, ◌==◌, int_div, int_rem}
use Rattle.std.proofs.Common.{to_z, of_z}
use Rattle.std.specs.Int.{w32, w64}
use Rattle.words.specs.Sums.{full, out_of_range}

-- The signed number in a pair of fullwords, the high one first.
abbrev pub pair : ℕ → ℕ → ℤ
pair hi lo = to_z w64 (hi * 2 ^ 32 + lo)

-- The 64 bits of the signed product of two fullwords, as two fullwords.
unfoldable pub product : ℕ → ℕ → ℕ
product x y = of_z w64 (full x *ℤ full y)

unfoldable pub product_high : ℕ → ℕ → ℕ
product_high x y = product x y / 2 ^ 32

unfoldable pub product_low : ℕ → ℕ → ℕ
product_low x y = product x y % 2 ^ 32

-- The signed quotient of a pair by a fullword, toward zero.
abbrev pub ratio : ℕ → ℕ → ℕ → ℤ
ratio hi lo d = int_div (pair hi lo) (full d)

-- What remains, with the sign of the dividend.
abbrev pub rest : ℕ → ℕ → ℕ → ℤ
rest hi lo d = int_rem (pair hi lo) (full d)

-- A division is refused by zero, and where a fullword does not hold the quotient.
abbrev pub refused : ℕ → ℕ → ℕ → Bool
refused hi lo d = cond (d == 0) true (out_of_range (ratio hi lo d))

unfoldable pub quotient : ℕ → ℕ → ℕ → ℕ
quotient hi lo d = of_z w32 (ratio hi lo d)

unfoldable pub remainder : ℕ → ℕ → ℕ → ℕ
remainder hi lo d = of_z w32 (rest hi lo d)

-- The quotient and the remainder, or nothing.
unfoldable pub divided : ℕ → ℕ → ℕ → Option (ℕ × ℕ)
divided hi lo d = cond (refused hi lo d) None (Some (quotient hi lo d, remainder hi lo d))
