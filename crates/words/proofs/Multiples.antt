use Rattle.std.proofs.Common.{◌≡◌, ℕ, ◌^◌, ◌<◌, ℤ, ◌*ℤ◌, ap, ◌∙◌, subst, ap₂, w32, w64, SFits, to_z, of_z, rules}
use borrow.Author.Numbers.{signed_product}
use Rattle.std.proofs.lemmas.Nat.{div-add-mod'}
use Rattle.std.proofs.lemmas.Int.{to_z-of_z}
use Rattle.words.specs.Sums.{full}
use Rattle.words.specs.Products.{product, product_high, product_low}
use Rattle.words.specs.Laws.{ProductExact}

-- A number of 32 bits, through 64 bits and back.
pub through : (x : ℤ) → SFits w32 x → to_z w64 (of_z w64 (to_z w32 (of_z w32 x))) ≡ x
through x f = search rules

-- 64 bits hold the product of two such numbers.
times_fits : (x y : ℤ) → SFits w32 x → SFits w32 y → SFits w64 (x *ℤ y)
times_fits x y p q = subst (SFits w64) (ap₂ ◌*ℤ◌ (through x p) (through y q)) (signed_product w64 w32 w32 x y p q tt)

full_fits : (x : ℕ) → x < 2 ^ 32 → SFits w32 (full x)
full_fits x h = search rules

pub product_exact_lem : ProductExact
unfolding product product_high product_low
product_exact_lem x y p q = ap (to_z w64) (div-add-mod' (product x y) (2 ^ 32)) ∙ to_z-of_z w64 (full x *ℤ full y) (times_fits (full x) (full y) (full_fits x p) (full_fits y q))
