-- Core boards within the limit.
use Rattle.std.proofs.Common.{◌≡◌, ◌∙◌, rules, set, length-set, true, false, ℕ, ◌<◌, ◌≤◌, List, min, ltb, cond, length, take, get_or, refl, ap, arith}
use Rattle.std.proofs.lemmas.List.{length-take, get_or-take, take_min}
use Rattle.std.proofs.lemmas.Grind.{same_number_lists}
use Rattle.std.proofs.lemmas.Bool.{ltb-true}
use Rattle.std.proofs.lemmas.Bool.Decides.{nat_tests}
use Rattle.model.specs.declared.Kind.TheVariants.{Writable, Unfitted}
use Rattle.model.specs.Stores.{Store, store_limit, stored}
use Rattle.store.specs.Boards.{board_places, core_boards, boards_after}

-- as many as the smaller of a limit and their number
pub take_within : {X : Type 0} (n k : ℕ) (xs : List X) → k ≡ min n (length xs) → take k xs ≡ take n xs
take_within n k xs e = rw e (take_min n xs)

length_within : (n : ℕ) (words : List ℕ) → min (length (take n words)) n ≡ min (length words) n
length_within n words = simp length-take (omega arith)

word_within : (n : ℕ) (words : List ℕ) (p : ℕ) → cond (ltb p (min (length words) n)) (get_or (take n words) p 0) 0 ≡ cond (ltb p (min (length words) n)) (get_or words p 0) 0
word_within n words p =
    elim (ltb p (min (length words) n)) as (λ b. ltb p (min (length words) n) ≡ b → cond b (get_or (take n words) p 0) 0 ≡ cond b (get_or words p 0) 0) [
      | true ↦ λ e. get_or-take n words p 0 (omega (arith, ltb-true))
      | false ↦ λ e. refl
    ] refl

-- stores that show the same at each place
pub same_store : (m n : Store) → m.fitted ≡ n.fitted → ((p : ℕ) → m.kind p ≡ n.kind p) → ((p : ℕ) → m.word p ≡ n.word p) → m ≡ n
same_store m n fitted kind word = λ i. record { fitted = fitted i; kind = λ p. kind p i; word = λ p. word p i }

pub boards_within : (words : List ℕ) → core_boards (take store_limit words) ≡ core_boards words
boards_within words =
    let fitted = length_within store_limit words in
    same_store (core_boards (take store_limit words)) (core_boards words) fitted
    (λ p. ap (λ (n : ℕ). cond (ltb p n) Writable Unfitted) fitted)
    (λ p. ap (λ (n : ℕ). cond (ltb p n) (get_or (take store_limit words) p 0) 0) fitted ∙ word_within store_limit words p)

-- what a place of core boards reads, within the limit
word_at : (n : ℕ) (words : List ℕ) (k : ℕ) → length words ≤ n → k < length words → cond (ltb k (min (length words) n)) (get_or words k 0) 0 ≡ get_or words k 0
word_at n words k within below = grind (arith, nat_tests)

pub boards_told_apart_lem : (xs ys : List ℕ) → length xs ≤ store_limit → length ys ≤ store_limit → core_boards xs ≡ core_boards ys → xs ≡ ys
boards_told_apart_lem xs ys p q same =
    let fitted : board_places xs ≡ board_places ys = ap (λ (m : Store). m.fitted) same in
    let long : length xs ≡ length ys = omega arith in
    same_number_lists xs ys long (λ k below.
    let word : (core_boards xs).word k ≡ (core_boards ys).word k = ap (λ (m : Store). m.word k) same in
    let at-x = word_at store_limit xs k p below in
    let at-y = word_at store_limit ys k q (omega arith) in
    cc)

-- a written halfword is one of the halfwords, as many as before
pub length_after : (words : List ℕ) (p v : ℕ) → length (boards_after words p v) ≡ length words
length_after words p v = elim (ltb p (board_places words)) as (λ b. length (cond b (set words p v) words) ≡ length words) [ true ↦ simp length-set | false ↦ refl ]

pub boards_stored : (words : List ℕ) (p v : ℕ) → core_boards (boards_after words p v) ≡ stored (core_boards words) p v
boards_stored words p v = search rules
