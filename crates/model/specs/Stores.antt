-- The store: what each place is, and the halfword that it holds.
use Rattle.std.specs.Prelude.{◌≡◌, ℕ, ◌+◌, ◌*◌, ◌/◌, ◌^◌, ◌<◌, ◌≤◌, cond, ◌==◌, ◌≢◌}
use Rattle.model.specs.declared.Kind.{Kind}
use Rattle.model.specs.declared.Kind.TheVariants.{Writable, Fixed, Unfitted}

-- A store has at most this many places.
abbrev pub store_limit : ℕ
store_limit = 524288

-- The meaning of a store: how many places are fitted, the kind of each place, and what reading it gives.
pub record Store : Type 0 where
  pub fitted : ℕ
  pub kind : ℕ → Kind
  pub word : ℕ → ℕ

-- What a place shows: its kind, and what reading it gives.
pub data Place : Type 0 where
  shows : Kind → ℕ → Place

abbrev pub at : Store → ℕ → Place
at m p = shows (m.kind p) (m.word p)

-- What a place of a kind holds after the halfword new was sent to it.
abbrev pub taken : Kind → ℕ → ℕ → ℕ
taken Writable old new = new
taken Fixed old new = old
taken Unfitted old new = old

-- The store m after the halfword v was written to the place p: that one halfword is replaced, if the place is writable.
abbrev pub stored : Store → ℕ → ℕ → Store
stored m p v = record { fitted = m.fitted; kind = m.kind; word = λ q. cond (q == p) (taken (m.kind p) (m.word q) v) (m.word q) }

-- The same where the new halfword is made of the old one.
abbrev pub revised : Store → ℕ → (ℕ → ℕ) → Store
revised m p f = stored m p (f (m.word p))

-- The halfword and the fullword at a real address: the high half first.
abbrev pub half_at : Store → ℕ → ℕ
half_at m r = m.word (r / 2)

unfoldable pub full_at : Store → ℕ → ℕ
full_at m r = m.word (r / 2) * 2 ^ 16 + m.word (r / 2 + 1)

-- What every store has: the fitted places come first and are no more than the limit, and an unfitted one reads 0.
pub record Sound (m : Store) : Type 0 where
  pub limited : m.fitted ≤ store_limit
  pub first : (p : ℕ) → p < m.fitted → m.kind p ≢ Unfitted
  pub rest : (p : ℕ) → m.fitted ≤ p → at m p ≡ shows Unfitted 0
