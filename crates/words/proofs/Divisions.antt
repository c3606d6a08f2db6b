use Rattle.std.proofs.Common.{◌≡◌, ℕ, zero, suc, ◌^◌, ◌%◌, ◌<◌, ◌≤◌, Bool, true, false, cond, eqb, ◌⊎◌, ℤ, pos, negsuc, ◌+ℤ◌, ◌*ℤ◌, neg_ℤ, nat_abs, sym, refl, ◌∙◌, subst, ap₂, inl, inr, arith, w32, SFits, leb-false}
use borrow.Author.Tests.{eqb-false}
use lib.Signed.{mag, rem_z, non_neg}
use Rattle.std.proofs.lemmas.Int.{ints, to_z-of_z, quot-rem, rem_below}
use Rattle.std.proofs.lemmas.Bool.Decides.{nat_tests}
use Rattle.words.specs.Sums.{full, out_of_range}
use Rattle.words.specs.Products.{pair, ratio, rest, refused, quotient, remainder}
use Rattle.words.specs.Laws.{DivisionAddsUp, RemainderSmall}

-- What remains is zero or has the dividend's sign.
neg_sign : (r : ℕ) → (neg_ℤ (pos r) ≡ pos 0) ⊎ (non_neg (neg_ℤ (pos r)) ≡ false)
neg_sign zero = inl refl
neg_sign (suc r) = inr refl

same_sign : (n d : ℤ) → (rem_z n d ≡ pos 0) ⊎ (non_neg (rem_z n d) ≡ non_neg n)
same_sign (pos a) d = inr refl
same_sign (negsuc a) d = neg_sign (suc a % nat_abs d)

-- A fullword's number: its magnitude, and that it is not zero.
full_range : (d : ℕ) → d < 2 ^ 32 → nat_abs (full d) ≤ 2 ^ 31
full_range d h = grind (arith, ints)

full_nonzero : (d : ℕ) → d < 2 ^ 32 → (d ≡ 0 → ⊥) → 0 < nat_abs (full d)
full_nonzero d h z = grind (arith, ints)

mag_below : (z : ℤ) (k : ℕ) → nat_abs z < k → mag z < k
mag_below (pos n) k h = h
mag_below (negsuc n) k h = omega arith

-- Neither of two tests held.
neither : (a b : Bool) → cond a true b ≡ false → (a ≡ false) × (b ≡ false)
neither a b e = (grind (arith, nat_tests), grind (arith, nat_tests))

module _ (hi lo d : ℕ) (bound : d < 2 ^ 32) (done : refused hi lo d ≡ false) where
  by_something : d ≡ 0 → ⊥
  by_something = eqb-false d 0 (neither (eqb d 0) (out_of_range (ratio hi lo d)) done).0

  quotient_fits : SFits w32 (ratio hi lo d)
  quotient_fits = record { sfits = leb-false (2 ^ 31) (mag (ratio hi lo d)) (neither (eqb d 0) (out_of_range (ratio hi lo d)) done).1 }

  rest_smaller : nat_abs (rest hi lo d) < nat_abs (full d)
  rest_smaller = rem_below (pair hi lo) (full d) (full_nonzero d bound by_something)

  rest_fits : SFits w32 (rest hi lo d)
  rest_fits =
      let a : nat_abs (full d) ≤ 2 ^ 31 = full_range d bound in
      let b : nat_abs (rest hi lo d) < nat_abs (full d) = rest_smaller in
      record { sfits = mag_below (rest hi lo d) (2 ^ 31) (omega (arith, a, b)) }

  quotient_is : full (quotient hi lo d) ≡ ratio hi lo d
  unfolding quotient
  quotient_is = to_z-of_z w32 (ratio hi lo d) quotient_fits

  remainder_is : full (remainder hi lo d) ≡ rest hi lo d
  unfolding remainder
  remainder_is = to_z-of_z w32 (rest hi lo d) rest_fits

pub division_adds_up_lem : DivisionAddsUp
division_adds_up_lem hi lo d p q b e = sym (ap₂ (λ x y. x *ℤ full d +ℤ y) (quotient_is hi lo d b e) (remainder_is hi lo d b e) ∙ quot-rem (pair hi lo) (full d))

pub remainder_small : RemainderSmall
remainder_small hi lo d p q b e =
    let Stands : ℤ → Type 0 = λ r. (nat_abs r < nat_abs (full d)) × ((r ≡ pos 0) ⊎ (non_neg r ≡ non_neg (pair hi lo))) in
    subst Stands (sym (remainder_is hi lo d b e)) (rest_smaller hi lo d b e, same_sign (pair hi lo) (full d))
