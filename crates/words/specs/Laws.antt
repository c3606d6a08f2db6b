use Rattle.std.specs.Prelude.{◌≡◌, ℕ, ◌^◌, ◌<◌, false, ◌⊎◌, pos, ◌+ℤ◌, ◌-ℤ◌, ◌*ℤ◌, Some, None, ◌≢◌, unsigned_abs}
use Rattle.std.specs.Int.Signed.{non_neg}
use Rattle.words.specs.Sums.{half, full, out_of_range, marks, sum, sum_code, difference, difference_code, extended}
use Rattle.words.specs.Products.{pair, refused, product_high, product_low, quotient, remainder, divided}

-- What was added and is subtracted again leaves the number.
abbrev pub AddedBack : Type 0
AddedBack = (x y : ℕ) → x < 2 ^ 32 → y < 2 ^ 32 → difference (sum x y) y ≡ x

-- No number is marked both positive and negative; X'80000000' is marked negative.
abbrev pub MarkedOnce : Type 0
MarkedOnce = (marks 0x8000_0000 ≡ 1) × ((v : ℕ) → marks v ≢ 3)

-- Without overflow a fullword holds the signed sum, and the signed difference.
abbrev pub SumsExact : Type 0
SumsExact =
    ((x y : ℕ) → x < 2 ^ 32 → y < 2 ^ 32 → out_of_range (full x +ℤ full y) ≡ false → full (sum x y) ≡ full x +ℤ full y)
    × ((x y : ℕ) → x < 2 ^ 32 → y < 2 ^ 32 → out_of_range (full x -ℤ full y) ≡ false → full (difference x y) ≡ full x -ℤ full y)

-- The fullword of a halfword holds its signed number.
abbrev pub ExtensionExact : Type 0
ExtensionExact = (h : ℕ) → h < 2 ^ 16 → full (extended h) ≡ half h

-- The pair of a product holds the signed product.
abbrev pub ProductExact : Type 0
ProductExact = (x y : ℕ) → x < 2 ^ 32 → y < 2 ^ 32 → pair (product_high x y) (product_low x y) ≡ full x *ℤ full y

-- The dividend is the quotient times the divisor plus the remainder.
abbrev pub DivisionAddsUp : Type 0
DivisionAddsUp =
    (hi lo d : ℕ) →
    hi < 2 ^ 32 →
    lo < 2 ^ 32 →
    d < 2 ^ 32 →
    refused hi lo d ≡ false →
    pair hi lo ≡ full (quotient hi lo d) *ℤ full d +ℤ full (remainder hi lo d)

-- The remainder is smaller than the divisor, and is zero or has the sign of the dividend.
abbrev pub RemainderSmall : Type 0
RemainderSmall =
    (hi lo d : ℕ) →
    hi < 2 ^ 32 →
    lo < 2 ^ 32 →
    d < 2 ^ 32 →
    refused hi lo d ≡ false →
    (unsigned_abs (full (remainder hi lo d)) < unsigned_abs (full d))
    × ((full (remainder hi lo d) ≡ pos 0) ⊎ (non_neg (full (remainder hi lo d)) ≡ non_neg (pair hi lo)))

-- X'7FFFFFFF' and 1 make X'80000000', with V and L. 1 from 0 leaves X'FFFFFFFF', with C and L.
abbrev pub SumExamples : Type 0
SumExamples =
    (sum 0x7fff_ffff 1 ≡ 0x8000_0000)
    × (sum_code 0x7fff_ffff 1 ≡ 5)
    × (difference 0 1 ≡ 0xffff_ffff)
    × (difference_code 0 1 ≡ 9)

-- -2 times 3 is -6. -7 by 2 is -3, and -1 remains. A division by zero is refused.
abbrev pub ProductExamples : Type 0
ProductExamples =
    (product_high 0xffff_fffe 3 ≡ 0xffff_ffff)
    × (product_low 0xffff_fffe 3 ≡ 0xffff_fffa)
    × (divided 0xffff_ffff 0xffff_fff9 2 ≡ Some (0xffff_fffd, 0xffff_ffff))
    × ((hi lo : ℕ) → divided hi lo 0 ≡ None)
