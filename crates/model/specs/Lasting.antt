-- What no call alters, in any machine that calls lead to from a new one.
use Rattle.std.specs.Prelude.{◌≡◌, ℕ, ◌<◌, ◌≤◌, false, length, ◌≢◌, slice_index}
use Rattle.model.specs.declared.Kind.TheVariants.{Writable}
use Rattle.model.specs.Stores.{Store, Sound}
use Rattle.model.specs.Buses.{Bus}
use Rattle.model.specs.Status.{bit, register_count}
use Rattle.model.specs.Controller.{used}
use Rattle.model.specs.Effects.{Prog}
use Rattle.model.specs.Console.{Desk}
use Rattle.model.specs.Calls.{Reached}

-- The store n has the places of m: as many are fitted, each is of its kind, and one that is not writable reads what it read.
pub record SamePlaces (m n : Store) : Type 0 where
  pub fitted : n.fitted ≡ m.fitted
  pub kind : (p : ℕ) → n.kind p ≡ m.kind p
  pub word : (p : ℕ) → m.kind p ≢ Writable → n.word p ≡ m.word p

-- The eight bits of a segmentation register that nothing uses, 0 to 3 and 28 to 31, are zero: it is what is used of it.
pub record UnusedAreZero (g : ℕ) : Type 0 where
  pub left : (i : ℕ) → i < 4 → bit i g ≡ false
  pub right : (i : ℕ) → 28 ≤ i → i < 32 → bit i g ≡ false
  pub whole : used g ≡ g

-- A machine that calls lead to from a new one over the store m.
abbrev pub InEveryMachine : (Store → Desk → Type 0) → Type 0
InEveryMachine P = (meaning : ℕ → Prog) (m : Store) (b : Bus) (w : Desk) → Reached meaning m b w → P m w

abbrev pub PlacesStay : Type 0
PlacesStay = InEveryMachine (λ m w. SamePlaces m w.core.store)

abbrev pub StoresStaySound : Type 0
StoresStaySound = InEveryMachine (λ m w. Sound m → Sound w.core.store)

abbrev pub RegistersStay : Type 0
RegistersStay = InEveryMachine (λ m w. length w.core.registers ≡ register_count)

abbrev pub SegmentsStay : Type 0
SegmentsStay = InEveryMachine (λ m w. length w.core.segments ≡ 16)

abbrev pub UnusedBitsStayZero : Type 0
UnusedBitsStayZero = InEveryMachine (λ m w. (n : ℕ) → UnusedAreZero (slice_index w.core.segments n))
