-- Steps and runs of the code as the definitions see them.
use Rattle.std.specs.Prelude.{◌≡◌, ℕ, Some, None, Ok, Err, Option, Result}
use Rattle.queue.specs.declared.Queue.{Queue}
use Rattle.queue.specs.Rows.{queued, capacity}
use Rattle.model.specs.declared.Denial.{Denial}
use Rattle.model.specs.declared.Record.{Record}
use Rattle.model.specs.declared.StepAnswer.{StepAnswer}
use Rattle.model.specs.declared.Reason.{Reason}
use Rattle.model.specs.Stores.{Store}
use Rattle.model.specs.Buses.{Bus}
use Rattle.model.specs.Answers.{number}
use Rattle.model.specs.Steps.{Ending, over, over_with, stepped}
use Rattle.model.specs.Runs.{Ran}
use Rattle.processor.specs.declared.cpu.Core.{Core}
use Rattle.processor.specs.View.{state_of}
use Rattle.instructions.specs.Instructions.{instruction}

-- The number of a denial, if there is one.
abbrev pub refusal : {X : Type 0} → Result X Denial → Option ℕ
refusal (Ok v) = None
refusal (Err d) = Some (number d)

module _ {S B : Type 0} (meaning : S → Store) (devices : B → Bus) where
  -- An ending is told by the answer, the core n and the trace u, after the trace t.
  abbrev pub Ends : Ending → Queue Record → StepAnswer → Core S B → Queue Record → Type 0
  Ends e t a n u = over_with (queued t) e ≡ over a (state_of meaning devices n) (queued u)

  -- One step leads from m and t to n and u; a device that it touches then is what it is at n.
  abbrev pub Steps : Core S B → Queue Record → StepAnswer → Core S B → Queue Record → Type 0
  Steps m t a n u = Ends (stepped instruction (devices n.bus) (state_of meaning devices m)) t a n u

  -- A run of made steps, which stopped for a reason.
  abbrev pub Runs : ℕ → ℕ → Reason → Core S B → Queue Record → Core S B → Queue Record → Type 0
  Runs count made why m t n u = Ran instruction (capacity t) count made why (state_of meaning devices m) (queued t) (state_of meaning devices n) (queued u)
