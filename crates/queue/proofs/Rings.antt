-- What a queue holds, item by item, and what a push and a pop do to it.
use Rattle.std.proofs.Common.{◌≡◌, ℕ, ◌+◌, ◌-◌, ◌%◌, ◌<◌, ◌≤◌, min, ◌⊎◌, inl, inr, sym, List, [], ◌∷◌, ◌++◌, length, get_or, take, drop, set, ap, ap₂, refl, ◌∙◌, arith, length-append, length-drop, length-set, length-take}
use Rattle.std.proofs.lemmas.List.{places, same_lists, drop_more, take_at}
use Rattle.std.proofs.lemmas.Grind.{get_or-set_at}
use Rattle.std.proofs.Math.Nat.{add-mod_left}
use Rattle.queue.specs.Rows.{held}

module _ {X : Type 0} where
  pub held_length : (xs : List X) (h m : ℕ) → length (held xs h m) ≡ min m (length xs)
  unfolding held
  held_length xs h m = simp (length-take, length-drop, length-append) (omega arith)

  pub held_item : (xs : List X) (h m k : ℕ) (d : X) → k < min m (length xs) → get_or (held xs h m) k d ≡ get_or (xs ++ xs) (min h (length xs) + k) d
  unfolding held
  held_item xs h m k d l = grind (arith, places)

-- A queue of n items from place i on.
module _ {X : Type 0} (xs : List X) (h m i n : ℕ) (start : i ≡ min h (length xs)) (count : n ≡ length (held xs h m)) where
  slots_count : n ≡ min m (length xs)
  slots_count = count ∙ held_length xs h m

  -- item k is in the slot i + k, or past the end in that less the number of slots
  pub held_at : (k at : ℕ) (d : X) → k < n → at < length xs → (at ≡ i + k) ⊎ (at + length xs ≡ i + k) → get_or (held xs h m) k d ≡ get_or xs at d
  held_at k at d l inside turned = grind (arith, places, slots_count, held_item xs h m k d)

  pub held_push : (at : ℕ) (v : X) → n < length xs → at < length xs → (at ≡ i + n) ⊎ (at + length xs ≡ i + n) → held (set xs at v) i (n + 1) ≡ held xs h m ++ v ∷ []
  held_push at v room inside turned =
      let ys = set xs at v in
      let same_length = length-set xs at v in
      let old_length = held_length xs h m in
      let new_length = held_length ys i (n + 1) in
      same_lists _ _ (simp length-append (omega arith))
      (λ k d l. grind (arith, places, get_or-set_at, held_item ys i (n + 1) k d, held_item xs h m k d))

  pub taken_push : (at : ℕ) (v : X) → n < length xs → at < length xs → (at ≡ i + n) ⊎ (at + length xs ≡ i + n) → take (length (held xs h m)) (held (set xs at v) i (n + 1)) ≡ held xs h m
  taken_push at v room inside turned =
      ap (λ (l : List X). take (length (held xs h m)) l) (held_push at v room inside turned) ∙ take_at (held xs h m) (v ∷ []) (length (held xs h m)) refl

  -- All slots after a push, from the oldest item's on: what waits, and behind it what they held.
  pub turned_push :
      (at : ℕ) (v : X) → n < length xs → at < length xs → (at ≡ i + n) ⊎ (at + length xs ≡ i + n) →
      held (set xs at v) i (length (set xs at v)) ≡ held (set xs at v) i (n + 1) ++ drop (length (held (set xs at v) i (n + 1))) (held xs h (length xs))
  turned_push at v room inside turned =
      let ys = set xs at v in
      let same_length = length-set xs at v in
      let old_length = held_length xs h (length xs) in
      let all_length = held_length ys i (length ys) in
      let new_length = held_length ys i (n + 1) in
      same_lists _ _ (simp (length-append, length-drop) (omega arith))
      (λ k d l. grind (arith, places, get_or-set_at, held_item ys i (length ys) k d, held_item ys i (n + 1) k d, held_item xs h (length xs) k d))

  pub held_pop : (at : ℕ) (d : X) → 0 < n → at < length xs → (at ≡ i + 0) ⊎ (at + length xs ≡ i + 0) → held xs h m ≡ get_or xs at d ∷ held xs (at + 1) (n - 1)
  held_pop at d some inside turned =
      let old_length = held_length xs h m in
      let new_length = held_length xs (at + 1) (n - 1) in
      drop_more (held xs h m) 0 d (omega arith)
      ∙ ap₂ ◌∷◌ (held_at 0 at d some inside turned)
      (same_lists _ _ (simp length-drop (omega arith))
      (λ k e l. grind (arith, places, held_item xs h m (k + 1) e, held_item xs (at + 1) (n - 1) k e)))

  -- the two parts of the slots that hold them
  pub held_parts : (k : ℕ) → k ≡ min n (length xs - i) → take k (drop i xs) ++ take (n - k) (take i xs) ≡ held xs h m
  held_parts k part =
      let length_held = held_length xs h m in
      same_lists _ _ (simp (length-append, length-take, length-drop) (omega arith)) (λ j d l. grind (arith, places, held_item xs h m j d))

-- the slot behind the newest item stays where it is when the oldest is taken
pub free_kept :
    (i n at c size : ℕ) → i ≤ c → 1 ≤ n → at < c → (at ≡ i + 0) ⊎ (at + c ≡ i + 0) → size ≡ n - 1 →
    (min (at + 1) c + size) % c ≡ (i + n) % c
free_kept i n at c size whole some inside (inl e) less =
    let same : min (at + 1) c + size ≡ i + n = omega arith in
    ap (λ (k : ℕ). k % c) same
free_kept i n at c size whole some inside (inr e) less =
    let here : min (at + 1) c + size ≡ n = omega arith in
    let there : i + n ≡ c + n = omega arith in
    ap (λ (k : ℕ). k % c) here ∙ sym (add-mod_left c n) ∙ sym (ap (λ (k : ℕ). k % c) there)
