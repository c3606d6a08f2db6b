use Rattle.std.specs.Prelude.{ℕ, ◌+◌, ◌-◌, ◌%◌, ◌^◌, Bool, cond, ℤ, pos, ◌+ℤ◌, ◌-ℤ◌, int_lt, nat_le, nat_lt}
use Rattle.std.specs.declared.cmp.Ordering.{Ordering}
use Rattle.std.specs.declared.cmp.Ordering.TheVariants.{Less, Equal, Greater}
use Rattle.std.specs.Int.Signed.{mag}
use Rattle.std.proofs.Common.{to_z, of_z}
use Rattle.std.specs.Int.{w16, w32}

-- The signed number that a halfword holds, and a fullword.
abbrev pub half : ℕ → ℤ
half h = to_z w16 h

abbrev pub full : ℕ → ℤ
full v = to_z w32 v

-- A bit of the condition code, of the given weight: C is 8, V is 4, G is 2, L is 1.
abbrev pub flag : ℕ → Bool → ℕ
flag weight b = cond b weight 0

-- G of a positive result, L of a negative one, neither of zero.
unfoldable pub marks : ℕ → ℕ
marks v = flag 2 (int_lt (pos 0) (full v)) + flag 1 (int_lt (full v) (pos 0))

-- A signed result is out of range below -2^31 and from 2^31 on. (mag z is z, and -1 - z of a negative z.)
abbrev pub out_of_range : ℤ → Bool
out_of_range z = nat_le (2 ^ 31) (mag z)

-- The sum of two fullwords. C: a carry out of bit 0. V: the signed sum is out of range.
unfoldable pub sum : ℕ → ℕ → ℕ
sum x y = (x + y) % 2 ^ 32

unfoldable pub sum_code : ℕ → ℕ → ℕ
sum_code x y = flag 8 (nat_le (2 ^ 32) (x + y)) + flag 4 (out_of_range (full x +ℤ full y)) + marks (sum x y)

-- The difference. C: a borrow. V: the signed difference is out of range.
unfoldable pub difference : ℕ → ℕ → ℕ
difference x y = (2 ^ 32 + x - y) % 2 ^ 32

unfoldable pub difference_code : ℕ → ℕ → ℕ
difference_code x y = flag 8 (nat_lt x y) + flag 4 (out_of_range (full x -ℤ full y)) + marks (difference x y)

-- The condition code of a comparison: C and L if less, G if greater, 0 if equal.
abbrev pub compared : Ordering → ℕ
compared Less = 9
compared Equal = 0
compared Greater = 2

-- Comparison as signed numbers, and as numbers from 0 on: C and L if less, G if greater, 0 if equal.
unfoldable pub compare_code : ℕ → ℕ → ℕ
compare_code x y = cond (int_lt (full x) (full y)) 9 (cond (int_lt (full y) (full x)) 2 0)

unfoldable pub compare_logical_code : ℕ → ℕ → ℕ
compare_logical_code x y = cond (nat_lt x y) 9 (cond (nat_lt y x) 2 0)

-- The fullword that holds a halfword's signed number.
unfoldable pub extended : ℕ → ℕ
extended h = of_z w32 (half h)
