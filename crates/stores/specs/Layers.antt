-- What each kind of store means, by what it is made of.
use Rattle.std.specs.Prelude.{Bool, false, cond, List, ℕ, ◌+◌, ◌-◌, ◌*◌, ◌/◌, ◌%◌, min, leb, ltb, length, get_or, set}
use Rattle.model.specs.declared.Kind.TheVariants.{Writable, Fixed, Unfitted}
use Rattle.model.specs.Stores.{Store, store_limit, stored}

-- A byte image has a place for every two bytes, up to the limit; a last odd byte is not used.
abbrev pub image_places : List ℕ → ℕ
image_places bytes = min (length bytes / 2) store_limit

-- The halfword of a byte image at place p: the bytes 2p and 2p + 1, the high one first.
abbrev pub image_word : List ℕ → ℕ → ℕ
image_word bytes p = get_or bytes (2 * p) 0 * 256 + get_or bytes (2 * p + 1) 0

-- A byte image: every place is writable.
abbrev pub byte_image : List ℕ → Store
byte_image bytes =
    record {
      fitted = image_places bytes;
      kind = λ p. cond (ltb p (image_places bytes)) Writable Unfitted;
      word = λ p. cond (ltb p (image_places bytes)) (image_word bytes p) 0;
    }

-- The bytes of a byte image after v was written to the place p.
abbrev pub image_after : List ℕ → ℕ → ℕ → List ℕ
image_after bytes p v = cond (ltb p (image_places bytes)) (set (set bytes (2 * p) (v / 256)) (2 * p + 1) (v % 256)) bytes

-- The store b behind the store a, up to the limit: place p is the first's while it has one, then place p - n of the second,
-- where n places are the first's.
abbrev pub behind : Store → Store → Store
behind a b =
    record {
      fitted = min (a.fitted + b.fitted) store_limit;
      kind = λ p. cond (ltb p a.fitted) (a.kind p) (cond (ltb p store_limit) (b.kind (p - a.fitted)) Unfitted);
      word = λ p. cond (ltb p a.fitted) (a.word p) (cond (ltb p store_limit) (b.word (p - a.fitted)) 0);
    }

-- The first of two stores after v was written to the place p of the two.
abbrev pub first_after : Store → ℕ → ℕ → Store
first_after a p v = cond (ltb p a.fitted) (stored a p v) a

-- The second of them.
abbrev pub second_after : Store → Store → ℕ → ℕ → Store
second_after a b p v = cond (ltb p a.fitted) b (cond (ltb p store_limit) (stored b (p - a.fitted) v) b)

-- Whether a loader strip covers the place p of a store with so many fitted places: a fitted one among 40 to 63.
abbrev pub in_strip : ℕ → ℕ → Bool
in_strip fitted p = cond (ltb p fitted) (cond (leb 40 p) (ltb p 64) false) false

-- The store m under a loader strip: the places that it covers are fixed, and hold its halfwords.
abbrev pub stripped : Store → List ℕ → Store
stripped m strip =
    record {
      fitted = m.fitted;
      kind = λ p. cond (in_strip m.fitted p) Fixed (m.kind p);
      word = λ p. cond (in_strip m.fitted p) (get_or strip (p - 40) 0) (m.word p);
    }

-- The store under the strip after v was written to the place p: what the strip covers does not reach it.
abbrev pub under_after : Store → ℕ → ℕ → Store
under_after m p v = cond (in_strip m.fitted p) m (stored m p v)
