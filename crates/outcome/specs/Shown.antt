-- What the console shows of a processor.
use Rattle.std.specs.Prelude.{◌≡◌, ℕ, List, map}
use Rattle.std.specs.List.{range_with_len}
use Rattle.model.specs.declared.Item.{Item}
use Rattle.model.specs.declared.Item.TheVariants.{General, Segment}
use Rattle.model.specs.States.{State}
use Rattle.model.specs.Console.{item_of}
use Rattle.outcome.specs.declared.shown.Bank.{Bank}
use Rattle.outcome.specs.declared.shown.Bank.TheVariants.{Lower, Upper, Segments}
use Rattle.outcome.specs.declared.shown.Shown.{Shown}

-- The numbers in sixteen registers, which item gives by their numbers 0 to 15.
abbrev pub sixteen : (ℕ → Item) → State → List ℕ
sixteen item s = map (λ number. item_of (item number) s) (range_with_len 0 16)

-- The PSW, register sets 0 and 15, the segmentation registers and the interrupt status are shown as they are.
pub record Shows (shown : Shown) (s : State) : Type 0 where
  pub location : shown.location ≡ s.location
  pub status : shown.status ≡ s.status
  pub lower : shown.lower ≡ sixteen (General 0) s
  pub upper : shown.upper ≡ sixteen (General 15) s
  pub segments : shown.segments ≡ sixteen Segment s
  pub interrupt_status : shown.interrupt_status ≡ s.faults

-- The register of a bank that has a number.
abbrev pub register : Bank → ℕ → Item
register Lower = General 0
register Upper = General 15
register Segments = Segment
