-- Queues to which items are added: what all their slots hold.
use Rattle.std.proofs.Common.{◌≡◌, ◌≤◌, List, ◌++◌, length, take, drop, sym, ap, refl, ◌∙◌, arith, length-take}
use Rattle.std.proofs.lemmas.List.{places, same_lists, take-append-drop, take-take, take_all}
use Rattle.std.proofs.lemmas.Slice.{drop-append-drop}
use Rattle.queue.specs.declared.Queue.{Queue}
use Rattle.queue.specs.Rows.{queued, capacity, first_slot, turned, Extended}
use Rattle.queue.proofs.Rings.{held_length, held_item}

module _ {X : Type 0} where
  -- Those that wait stand in the first of the slots.
  waiting_first : (q : Queue X) → take (length (queued q)) (turned q) ≡ queued q
  waiting_first q =
      let waiting = held_length q.slots.now q.head q.count in
      let all = held_length q.slots.now q.head (capacity q) in
      same_lists _ _ (simp length-take (omega arith))
      (λ k d l. grind (arith, places, held_item q.slots.now q.head q.count k d, held_item q.slots.now q.head (capacity q) k d))

  -- The slots themselves, where the oldest item stands in slot 0.
  turned_first : (q : Queue X) → first_slot q ≡ 0 → turned q ≡ q.slots.now
  turned_first q first =
      let all = held_length q.slots.now q.head (capacity q) in
      same_lists _ _ (omega arith) (λ k d l. grind (arith, places, held_item q.slots.now q.head (capacity q) k d))

  pub extended_same : (q : Queue X) → Extended q q
  extended_same q =
      record {
        first = refl;
        front = take_all (length (queued q)) (queued q) (omega arith);
        slots = sym (take-append-drop (length (queued q)) (turned q)) ∙ ap (λ (l : List X). l ++ drop (length (queued q)) (turned q)) (waiting_first q);
      }

  pub extended_twice : (p q r : Queue X) → Extended p q → Extended q r → Extended p r
  extended_twice p q r a b =
      let m = length (queued q) in
      let n = length (queued r) in
      let fewer : length (queued p) ≤ m = omega (arith, ap length a.front, length-take (length (queued p)) (queued q)) in
      let more : m ≤ n = omega (arith, ap length b.front, length-take m (queued r)) in
      record {
        first = b.first ∙ a.first;
        front = sym (take-take (length (queued p)) m (queued r) fewer) ∙ ap (λ (l : List X). take (length (queued p)) l) b.front ∙ a.front;
        slots = b.slots ∙ ap (λ (l : List X). queued r ++ l) (ap (λ (l : List X). drop n l) a.slots ∙ drop-append-drop m (turned p) (queued q) n more refl);
      }

  -- What the slots that a queue was made over hold, after items were added to it.
  pub slots_extended : (slots : List X) (made now : Queue X) → made.slots.now ≡ slots → first_slot made ≡ 0 → Extended made now → now.slots.now ≡ queued now ++ drop (length (queued now)) slots
  slots_extended slots made now same first e =
      sym (turned_first now (e.first ∙ first)) ∙ e.slots ∙ ap (λ (l : List X). queued now ++ drop (length (queued now)) l) (turned_first made first ∙ same)
