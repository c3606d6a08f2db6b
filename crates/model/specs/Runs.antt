-- A run: steps until one waits, the trace is full or the count is reached.
use Rattle.std.specs.Prelude.{◌≡◌, ℕ, zero, suc, ◌+◌, ◌-◌, ◌≤◌, Bool, false, cond, ◌||◌, ◌↔◌, List, length, Some, None, Option, ◌==◌, nat_le, nat_lt}
use Rattle.model.specs.declared.Record.{Record}
use Rattle.model.specs.declared.StepAnswer.{StepAnswer}
use Rattle.model.specs.declared.StepAnswer.TheVariants.{Done, Waiting, Interrupted}
use Rattle.model.specs.declared.Reason.{Reason}
use Rattle.model.specs.declared.Reason.TheVariants.{Waited, Filled, Counted}
use Rattle.model.specs.Buses.{Bus}
use Rattle.model.specs.States.{State}
use Rattle.model.specs.Effects.{Prog}
use Rattle.model.specs.Steps.{stepped, over, over_with}
use Rattle.model.specs.Answers.{Answer, denied, ran}
use Rattle.model.specs.Console.{Desk, or_else, deny_if, off_denial, room_denial, Leaves}

-- Why a run stops after a step, if it does: by its answer, by whether the trace is now full, and by whether the count is reached.
abbrev pub unless_waiting : Bool → Bool → Option Reason
unless_waiting full counted = cond full (Some Filled) (cond counted (Some Counted) None)

abbrev pub stops_by : StepAnswer → Bool → Bool → Option Reason
stops_by Done full counted = unless_waiting full counted
stops_by Waiting full counted = Some Waited
stops_by (Interrupted c) full counted = unless_waiting full counted

module _ (meaning : ℕ → Prog) where
  -- One step leads from s and the trace q to t and p, with an answer; what a touched device then shows is not told.
  pub record Moves (s : State) (q : List Record) (a : StepAnswer) (t : State) (p : List Record) : Type 0 where
    pub reply : Bus
    pub does : over_with q (stepped meaning reply s) ≡ over a t p

  -- .. and does not stop a run: it does not wait, and leaves room in a trace of capacity cap.
  pub record Onward (cap : ℕ) (s : State) (q : List Record) (t : State) (p : List Record) : Type 0 where
    pub answer : StepAnswer
    pub moves : Moves s q answer t p
    pub goes : stops_by answer (nat_le cap (length p)) false ≡ None

  -- n steps, none of which stops a run, lead from s and q to t and p.
  unfoldable pub Steps : ℕ → ℕ → State → List Record → State → List Record → Type 0
  Steps cap zero s q t p = (t ≡ s) × (p ≡ q)
  Steps cap (suc n) s q t p = (u : State) × (r : List Record) × Steps cap n s q u r × Onward cap u r t p

  -- A run of n steps: all but the last go on, and the last stops it.
  pub record Ran (cap count n : ℕ) (why : Reason) (s : State) (q : List Record) (t : State) (p : List Record) : Type 0 where
    pub before : ℕ
    pub state : State
    pub line : List Record
    pub answer : StepAnswer
    pub made : n ≡ before + 1
    pub within : n ≤ count
    pub goes : Steps cap before s q state line
    pub last : Moves state line answer t p
    pub stops : stops_by answer (nat_le cap (length p)) (nat_le count n) ≡ Some why

  -- Steps that nothing stops: m + n of them are m of them and then n of them.
  abbrev pub StepsSplit : Type 0
  StepsSplit =
      (cap m n : ℕ) (s t : State) (q p : List Record) →
      Steps cap (m + n) s q t p ↔ ((u : State) × (r : List Record) × Steps cap m s q u r × Steps cap n u r t p)

  -- ── The call ──
  -- 4: a count of 0 or over 1,000,000.
  abbrev pub count_denial : ℕ → Option ℕ
  count_denial count = deny_if (count == 0 || nat_lt 1_000_000 count) 4

  abbrev pub run_denial : ℕ → ℕ → Desk → Option ℕ
  run_denial count room w = or_else (off_denial w) (or_else (count_denial count) (room_denial room))

  pub record RanOn (cap count : ℕ) (w : Desk) (q : List Record) (a : Answer) (v : Desk) (p : List Record) : Type 0 where
    pub steps : ℕ
    pub why : Reason
    pub answer : a ≡ ran steps why
    pub key : v.key ≡ w.key
    pub ran : Ran cap count steps why w.core q v.core p

  abbrev pub RunsUnless : Option ℕ → ℕ → ℕ → Desk → List Record → Answer → Desk → List Record → Type 0
  RunsUnless (Some n) cap count w q a v p = Leaves (denied n) a w v q p
  RunsUnless None cap count w q a v p = RanOn cap count w q a v p

  -- A run with a count, on the machine w with a trace q of capacity cap.
  abbrev pub Runs : ℕ → ℕ → Desk → List Record → Answer → Desk → List Record → Type 0
  Runs cap count w q a v p = RunsUnless (run_denial count (cap - length q) w) cap count w q a v p
