-- What a write to a byte image leaves, and byte images within the limit.
use Rattle.std.proofs.Common.{◌≡◌, ◌∙◌, refl, ap, subst, ⊎_elim, ℕ, ◌+◌, ◌*◌, ◌/◌, ◌%◌, ◌^◌, ◌<◌, ◌≤◌, true, false, List, eqb, ltb, min, cond, length, take, get_or, set, length-set, arith, rules}
use Rattle.std.proofs.lemmas.List.{length-take-le, get_or-take}
use Rattle.std.proofs.lemmas.Grind.{same_number_lists}
use Rattle.std.proofs.lemmas.Bool.{ltb-true, cases_lt}
use Rattle.std.proofs.lemmas.Bool.Decides.{nat_tests}
use Rattle.model.specs.declared.Kind.TheVariants.{Writable, Unfitted}
use Rattle.model.specs.Stores.{Store, store_limit, stored}
use Rattle.store.proofs.Limits.{same_store}
use Rattle.stores.specs.Layers.{image_places, image_word, byte_image}
use Rattle.stores.specs.Laws.{AllUsed}

-- the bytes of a place replaced by two others, the high one first
abbrev pub put : List ℕ → ℕ → ℕ → ℕ → List ℕ
put bs p h l = set (set bs (2 * p) h) (2 * p + 1) l

word_put : (bs : List ℕ) (p h l q n : ℕ) → 2 * n ≤ length bs → p < n → q < n → image_word (put bs p h l) q ≡ cond (eqb q p) (h * 256 + l) (image_word bs q)
word_put bs p h l q n room hp hq = search rules

pub image_stored : (bs : List ℕ) (p h l v : ℕ) → p < image_places bs → h * 256 + l ≡ v → byte_image (put bs p h l) ≡ stored (byte_image bs) p v
image_stored bs p h l v inside halves = let same : length (put bs p h l) ≡ length bs = simp length-set in search (rules, word_put)

-- as many bytes as the halfwords within the limit n have
used : (n : ℕ) (bs : List ℕ) → length (take (2 * min (length bs / 2) n) bs) ≡ 2 * min (length bs / 2) n
used n bs = length-take-le (2 * min (length bs / 2) n) bs (omega arith)

places_used : (n : ℕ) (bs : List ℕ) → min (length (take (2 * min (length bs / 2) n) bs) / 2) n ≡ min (length bs / 2) n
places_used n bs = rw (used n bs) (omega arith)

-- what a place reads is there
word_used : (k : ℕ) (bs : List ℕ) (p : ℕ) → cond (ltb p k) (image_word (take (2 * k) bs) p) 0 ≡ cond (ltb p k) (image_word bs p) 0
word_used k bs p =
    elim (ltb p k) as (λ b. ltb p k ≡ b → cond b (image_word (take (2 * k) bs) p) 0 ≡ cond b (image_word bs p) 0) [
      | true ↦ λ e.
          let inside : p < k = ltb-true p k e in
          let high = get_or-take (2 * k) bs (2 * p) 0 (omega arith) in
          let low = get_or-take (2 * k) bs (2 * p + 1) 0 (omega arith) in
          cc
      | false ↦ λ e. refl
    ] refl

pub images_within_lem : (bs : List ℕ) → byte_image (take (2 * image_places bs) bs) ≡ byte_image bs
images_within_lem bs =
    let fitted = places_used store_limit bs in
    same_store (byte_image (take (2 * image_places bs) bs)) (byte_image bs) fitted
    (λ p. ap (λ (n : ℕ). cond (ltb p n) Writable Unfitted) fitted)
    (λ p. ap (λ (n : ℕ). cond (ltb p n) (image_word (take (2 * image_places bs) bs) p) 0) fitted ∙ word_used (image_places bs) bs p)

-- what a place of a byte image reads, within the limit n
word_at : (n : ℕ) (bs : List ℕ) (p : ℕ) → length bs ≤ 2 * n → 2 * p + 1 < length bs → cond (ltb p (min (length bs / 2) n)) (image_word bs p) 0 ≡ image_word bs p
word_at n bs p within below = let inside : p < min (length bs / 2) n = omega arith in grind (arith, nat_tests)

-- a halfword tells its two bytes
halves : (a b c d : ℕ) → b < 2 ^ 8 → d < 2 ^ 8 → a * 256 + b ≡ c * 256 + d → (a ≡ c) × (b ≡ d)
halves a b c d p q e = (omega arith, omega arith)

pair_same : (xs ys : List ℕ) → AllUsed xs → AllUsed ys → length xs ≡ length ys → byte_image xs ≡ byte_image ys → (p : ℕ) → 2 * p + 1 < length xs → (get_or xs (2 * p) 0 ≡ get_or ys (2 * p) 0) × (get_or xs (2 * p + 1) 0 ≡ get_or ys (2 * p + 1) 0)
pair_same xs ys x y long same p below =
    let word : (byte_image xs).word p ≡ (byte_image ys).word p = ap (λ (m : Store). m.word p) same in
    let at-x = word_at store_limit xs p x.within below in
    let at-y = word_at store_limit ys p y.within (omega arith) in
    let joined : image_word xs p ≡ image_word ys p = cc in
    halves (get_or xs (2 * p) 0) (get_or xs (2 * p + 1) 0) (get_or ys (2 * p) 0) (get_or ys (2 * p + 1) 0) (x.small (2 * p + 1) below) (y.small (2 * p + 1) (omega arith)) joined

pub images_told_apart_lem : (xs ys : List ℕ) → AllUsed xs → AllUsed ys → byte_image xs ≡ byte_image ys → xs ≡ ys
images_told_apart_lem xs ys x y same =
    let fitted : image_places xs ≡ image_places ys = ap (λ (m : Store). m.fitted) same in
    let long : length xs ≡ length ys = omega arith in
    same_number_lists xs ys long (λ k below.
    ⊎_elim
    (λ even. let at : 2 * (k / 2) ≡ k = omega arith in subst (λ (j : ℕ). get_or xs j 0 ≡ get_or ys j 0) at (pair_same xs ys x y long same (k / 2) (omega (arith, x.even))).0)
    (λ odd. let at : 2 * (k / 2) + 1 ≡ k = omega arith in subst (λ (j : ℕ). get_or xs j 0 ≡ get_or ys j 0) at (pair_same xs ys x y long same (k / 2) (omega arith)).1)
    (cases_lt (k % 2) 1))
