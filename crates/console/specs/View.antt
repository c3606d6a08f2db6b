-- The console's code as the definitions see it.
use Rattle.std.specs.Prelude.{◌≡◌, ℕ, ◌-◌, length, Ok, Err, Result}
use Rattle.queue.specs.declared.Queue.{Queue}
use Rattle.queue.specs.Rows.{queued, capacity}
use Rattle.model.specs.declared.Denial.{Denial}
use Rattle.model.specs.declared.Record.{Record}
use Rattle.model.specs.declared.StepAnswer.{StepAnswer}
use Rattle.model.specs.Stores.{Store}
use Rattle.model.specs.Buses.{Bus}
use Rattle.model.specs.Answers.{number, Answer, denied, done, shown, stepped, ran}
use Rattle.model.specs.Console.{Desk, Act, step, call, gives, told, tell}
use Rattle.model.specs.Runs.{Runs as RunsBy}
use Rattle.processor.specs.View.{state_of}
use Rattle.instructions.specs.Instructions.{instruction}
use Rattle.steps.specs.declared.run.RunAnswer.{RunAnswer}
use Rattle.console.specs.declared.machine.Machine.{Machine}
use Rattle.console.specs.Keys.{number_of}

-- The answers of the calls: of those that only do something, show a number, step, or run.
abbrev pub done_by : Result (Unit {0}) Denial → Answer
done_by (Ok u) = done
done_by (Err d) = denied (number d)

abbrev pub shown_by : Result ℕ Denial → Answer
shown_by (Ok v) = shown v
shown_by (Err d) = denied (number d)

abbrev pub stepped_by : Result StepAnswer Denial → Answer
stepped_by (Ok a) = stepped a
stepped_by (Err d) = denied (number d)

abbrev pub ran_by : Result RunAnswer Denial → Answer
ran_by (Ok a) = ran a.steps a.reason
ran_by (Err d) = denied (number d)

module _ {S B : Type 0} (meaning : S → Store) (devices : B → Bus) where
  abbrev pub desk_of : Machine S B → Desk
  desk_of m = record { key = number_of m.key.position; core = state_of meaning devices m.core }

  -- A call that adds nothing to the trace: what it answers, and the machine n after it.
  abbrev pub Says : Act → Machine S B → Answer → Machine S B → Type 0
  Says c m a n = call instruction c (desk_of m) ≡ gives a (desk_of n)

  -- A step with the trace t, which is u after it; a device that it touches then is what it is at n.
  abbrev pub Steps : Machine S B → Queue Record → Answer → Machine S B → Queue Record → Type 0
  Steps m t a n u = tell (queued t) (call instruction (step (capacity t - length (queued t)) (devices n.core.bus)) (desk_of m)) ≡ told a (desk_of n) (queued u)

  -- A run with the trace t, which is u after it.
  abbrev pub Runs : ℕ → Machine S B → Queue Record → Answer → Machine S B → Queue Record → Type 0
  Runs count m t a n u = RunsBy instruction (capacity t) count (desk_of m) (queued t) a (desk_of n) (queued u)
