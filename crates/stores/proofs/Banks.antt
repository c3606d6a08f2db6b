-- Two banks of core boards as one.
use Rattle.std.proofs.Common.{◌≡◌, ◌∙◌, refl, sym, ℕ, ◌+◌, ◌-◌, ◌<◌, ◌≤◌, List, ◌++◌, min, ltb, cond, length, get_or, ap, arith, ⊎_elim, length-append}
use Rattle.std.proofs.lemmas.List.{get_or_append_left, get_or-append_right}
use Rattle.std.proofs.lemmas.Bool.{cases_lt}
use Rattle.std.proofs.lemmas.Bool.Decides.{nat_tests}
use Rattle.model.specs.declared.Kind.TheVariants.{Writable, Unfitted}
use Rattle.model.specs.Stores.{store_limit}
use Rattle.store.specs.Boards.{core_boards}
use Rattle.store.proofs.Limits.{same_store}
use Rattle.stores.specs.Layers.{behind}

counts_joined : (n x y : ℕ) → min (min x n + min y n) n ≡ min (x + y) n
counts_joined n x y = omega arith

kinds_joined : (n x y p : ℕ) → cond (ltb p (min x n)) (cond (ltb p (min x n)) Writable Unfitted) (cond (ltb p n) (cond (ltb (p - min x n) (min y n)) Writable Unfitted) Unfitted) ≡ cond (ltb p (min (x + y) n)) Writable Unfitted
kinds_joined n x y p = grind (arith, nat_tests)

-- f, then g, up to the limit n
words_joined : (n x y p : ℕ) (f g h : ℕ → ℕ) → ((k : ℕ) → k < x → h k ≡ f k) → ((k : ℕ) → x ≤ k → h k ≡ g (k - x)) → cond (ltb p (min x n)) (cond (ltb p (min x n)) (f p) 0) (cond (ltb p n) (cond (ltb (p - min x n) (min y n)) (g (p - min x n)) 0) 0) ≡ cond (ltb p (min (x + y) n)) (h p) 0
words_joined n x y p f g h low high =
    ⊎_elim
    (λ (below : p < x). let here : h p ≡ f p = low p below in grind (arith, nat_tests))
    (λ (past : x ≤ p). let here : h p ≡ g (p - x) = high p past in ⊎_elim
    (λ (room : x < n). let all : min x n ≡ x = omega arith in rw all (grind (arith, nat_tests)))
    (λ (full : n ≤ x). grind (arith, nat_tests))
    (cases_lt x n))
    (cases_lt p x)

pub banks_joined_lem : (xs ys : List ℕ) → behind (core_boards xs) (core_boards ys) ≡ core_boards (xs ++ ys)
banks_joined_lem xs ys =
    let long = length-append xs ys in
    same_store (behind (core_boards xs) (core_boards ys)) (core_boards (xs ++ ys))
    (counts_joined store_limit (length xs) (length ys) ∙ ap (λ (n : ℕ). min n store_limit) (sym long))
    (λ p. kinds_joined store_limit (length xs) (length ys) p ∙ ap (λ (n : ℕ). cond (ltb p (min n store_limit)) Writable Unfitted) (sym long))
    (λ p. words_joined store_limit (length xs) (length ys) p (λ k. get_or xs k 0) (λ k. get_or ys k 0) (λ k. get_or (xs ++ ys) k 0) (λ k below. get_or_append_left xs ys 0 k below) (λ k past. get_or-append_right xs ys (length xs) k 0 refl past)
    ∙ ap (λ (n : ℕ). cond (ltb p (min n store_limit)) (get_or (xs ++ ys) p 0) 0) (sym long))
