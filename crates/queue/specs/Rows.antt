use Rattle.std.specs.Prelude.{◌≡◌, ℕ, ◌+◌, ◌%◌, ◌<◌, min, List, ◌++◌, length, take, drop}
use Rattle.queue.specs.declared.Queue.{Queue}
use Rattle.queue.specs.declared.Iter.{Iter}

-- n elements of the ring xs, from place i on, round its end.
abbrev pub ring : {X : Type 0} → List X → ℕ → ℕ → List X
ring xs i n = take n (drop i (xs ++ xs))

-- The same; a place or a number past the length of the ring counts as that length.
unfoldable pub held : {X : Type 0} → List X → ℕ → ℕ → List X
held xs i n = ring xs (min i (length xs)) (min n (length xs))

-- What waits in a queue, the oldest first.
abbrev pub queued : {X : Type 0} → Queue X → List X
queued q = held q.slots.now q.head q.count

-- How many items a queue can hold.
abbrev pub capacity : {X : Type 0} → Queue X → ℕ
capacity q = length q.slots.now

-- Whether one more item fits.
abbrev pub HasRoom : {X : Type 0} → Queue X → Type 0
HasRoom q = length (queued q) < capacity q

-- Whether two queues lie over the same lent slots: one loan, and as many slots.
pub record SameSlots {X : Type 0} (old new : Queue X) : Type 0 where
  pub loan : new.slots.ghost_name ≡ old.slots.ghost_name
  pub size : capacity new ≡ capacity old

-- The slot of the oldest item; where that is the number of slots, slot 0.
abbrev pub first_slot : {X : Type 0} → Queue X → ℕ
first_slot q = min q.head (capacity q)

-- The slot behind the newest item, round the end of the slots.
abbrev pub free_slot : {X : Type 0} → Queue X → ℕ
free_slot q = (first_slot q + length (queued q)) % capacity q

-- What all slots hold, from the oldest item's on, round their end.
abbrev pub turned : {X : Type 0} → Queue X → List X
turned q = held q.slots.now q.head (capacity q)

-- What items that come and do not go make of a queue: those that waited still wait before them, and the slots behind them hold what
-- they held.
pub record Extended {X : Type 0} (old new : Queue X) : Type 0 where
  pub first : first_slot new ≡ first_slot old
  pub front : take (length (queued old)) (queued new) ≡ queued old
  pub slots : turned new ≡ queued new ++ drop (length (queued new)) (turned old)

-- The items that an iterator over a queue has still to give, in this order.
abbrev pub unread : {X : Type 0} → Iter X → List X
unread it = it.first.now ++ it.second.now
