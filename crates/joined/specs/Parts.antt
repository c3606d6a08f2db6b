-- What two buses joined mean, by what they are.
use Rattle.std.specs.Prelude.{◌≡◌, ◌⊎◌, ℕ, min, cond, Some, None, Option}
use Rattle.model.specs.Buses.{Bus}

-- A device that answers on the first is the first's, any other the second's.
abbrev pub joined : Bus → Bus → Bus
joined a b = λ n. cond (a n).answers (a n) (b n)

-- The lower of two device numbers, where there is one.
abbrev pub lower_of : Option ℕ → Option ℕ → Option ℕ
lower_of None b = b
lower_of (Some a) None = Some a
lower_of (Some a) (Some b) = Some (min a b)

-- Two buses of which one was touched: the other is the same value.
abbrev pub OneTouched : {A B : Type 0} → (A → A → Type 0) → (B → B → Type 0) → A → A → B → B → Type 0
OneTouched first second a a' b b' = (first a a' × (b' ≡ b)) ⊎ ((a' ≡ a) × second b b')
