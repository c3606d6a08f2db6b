-- Histories and lists of calls, as the code performs them. Each is told with the trace: q before, p after, of capacity cap.
use Rattle.std.specs.Prelude.{◌≡◌, ℕ, Bool, true, false, List, [], ◌∷◌, ◌++◌, map, length, ◌-◌, take, drop, slice_get, Some, None, Option}
use Rattle.model.specs.declared.Record.{Record}
use Rattle.model.specs.declared.StepAnswer.{StepAnswer}
use Rattle.model.specs.declared.StepAnswer.TheVariants.{Done, Waiting, Interrupted}
use Rattle.model.specs.Stores.{Store}
use Rattle.model.specs.Buses.{Bus}
use Rattle.model.specs.Answers.{Answer, stepped}
use Rattle.model.specs.Console.{Desk, Act, made, call, told, tell, onto}
use Rattle.model.specs.Runs.{Runs}
use Rattle.model.specs.Tapes.{Plays}
use Rattle.instructions.specs.Instructions.{instruction}
use Rattle.model.specs.Windows.{LookAlike}
use Rattle.model.specs.Calls.{Reached, Continued, key, examine, deposit, show, step, Event, unseen, answered, interrupted, Course, quiet, broken, did, after, event, course}
use Rattle.model.specs.Isolation.{Allowed, Isolated}
use Rattle.console.specs.View.{desk_of}
use Rattle.comparison.specs.declared.sides.Side.{Side}
use Rattle.comparison.specs.declared.sides.Finished.{Finished}
use Rattle.comparison.specs.declared.calls.Call.{Call}
use Rattle.comparison.specs.declared.calls.Call.TheVariants.{TurnKey, Initialise, Examine, Deposit, Set, Show, Step, Run, Play}
use Rattle.comparison.specs.declared.calls.Continued.{Continued as Asking}
use Rattle.comparison.specs.declared.calls.Continued.TheVariants.{TurnKey as ask_key, Examine as ask_examine, Deposit as ask_deposit, Show as ask_show, Step as ask_step}

-- ── Histories ──
-- A call of a history that is no step, run or tape: the trace stays.
abbrev pub Called : Act → Desk → List Record → Desk → List Record → Type 0
Called c w q v p = ((call instruction c w).after ≡ v) × (p ≡ q)

-- A call of a history, by the definitions of the calls, whatever it answers; a device that a step touches shows some reply.
abbrev pub Performs : ℕ → Call → Desk → List Record → Desk → List Record → Type 0
Performs cap (TurnKey n) w q v p = Called (Act.turn_key n) w q v p
Performs cap Initialise w q v p = Called Act.initialise w q v p
Performs cap (Examine a) w q v p = Called (Act.examine a) w q v p
Performs cap (Deposit a x) w q v p = Called (Act.deposit a x) w q v p
Performs cap (Set i x) w q v p = Called (Act.set_item i x) w q v p
Performs cap (Show i) w q v p = Called (Act.show_item i) w q v p
Performs cap Step w q v p = (reply : Bus) × (a : Answer) × (tell q (call instruction (Act.step (cap - length q) reply) w) ≡ told a v p)
Performs cap (Run count) w q v p = (a : Answer) × Runs instruction cap count w q a v p
Performs cap (Play tape) w q v p = (a : Answer) × Plays instruction cap tape.now w q a v p

-- All calls of a list, one after the other.
unfoldable pub PerformsAll : ℕ → List Call → Desk → List Record → Desk → List Record → Type 0
PerformsAll cap [] w q v p = (v ≡ w) × (p ≡ q)
PerformsAll cap (c ∷ cs) w q v p = (u : Desk) × (r : List Record) × Performs cap c w q u r × PerformsAll cap cs u r v p

-- ── Lists that follow ──
-- A call that is asked, as it happens: a step finds the room that the trace has, and some reply.
abbrev pub AskedAs : ℕ → Asking → Continued → Type 0
AskedAs room (ask_key n) c = c ≡ key n
AskedAs room (ask_examine a) c = c ≡ examine a
AskedAs room (ask_deposit a v) c = c ≡ deposit a v
AskedAs room (ask_show i) c = c ≡ show i
AskedAs room ask_step c = (reply : Bus) × (c ≡ step room reply)

-- The trace after a call, and after all calls of a list.
abbrev pub with_added : Continued → Desk → List Record → List Record
with_added c w q = onto q (did instruction c w).added

abbrev pub with_all_added : List Continued → Desk → List Record → List Record
with_all_added [] w q = q
with_all_added (c ∷ l) w q = with_all_added l (after instruction c w) (with_added c w q)

abbrev pub AllAsked : ℕ → List Asking → List Continued → Desk → List Record → Type 0
AllAsked cap [] [] w q = Unit {0}
AllAsked cap [] (c ∷ l) w q = ⊥
AllAsked cap (a ∷ more) [] w q = ⊥
AllAsked cap (a ∷ more) (c ∷ l) w q = AskedAs (cap - length q) a c × AllAsked cap more l (after instruction c w) (with_added c w q)

-- What a call tells of the program: nothing, or the answer of an accepted step, which may be an interrupt's.
abbrev pub is_interrupt : StepAnswer → Bool
is_interrupt Done = false
is_interrupt Waiting = false
is_interrupt (Interrupted c) = true

abbrev pub Reports : Event → Option StepAnswer → Type 0
Reports unseen r = r ≡ None
Reports (answered a) r = (s : StepAnswer) × (a ≡ stepped s) × (r ≡ Some s) × (is_interrupt s ≡ false)
Reports (interrupted a k) r = (s : StepAnswer) × (a ≡ stepped s) × (r ≡ Some s) × (is_interrupt s ≡ true)

-- One call that is asked, made on the machine w, leads to v and tells r.
pub record FollowedOne (cap : ℕ) (asking : Asking) (w : Desk) (q : List Record) (r : Option StepAnswer) (v : Desk) (p : List Record) : Type 0 where
  pub what : Continued
  pub each : AskedAs (cap - length q) asking what
  pub leads : after instruction what w ≡ v
  pub adds : with_added what w q ≡ p
  pub tells : Reports (event instruction what w) r

-- Whether the last answer, where there is one, is an interrupt's.
abbrev pub tells_interrupt : Option StepAnswer → Bool
tells_interrupt None = false
tells_interrupt (Some s) = is_interrupt s

abbrev pub ends_interrupted : List StepAnswer → Bool
ends_interrupted ys = tells_interrupt (slice_get ys (length ys - 1))

-- The machine after all calls of a list.
abbrev pub after_all : List Continued → Desk → Desk
after_all [] w = w
after_all (c ∷ l) w = after_all l (after instruction c w)

-- The answers of the accepted steps up to and including the first interrupt, which is the last where there is one.
abbrev pub Tells : Course → List StepAnswer → Type 0
Tells (quiet xs s) ys = (xs ≡ map stepped ys) × (ends_interrupted ys ≡ false)
Tells (broken xs r s) ys = (xs ≡ map stepped ys) × (ends_interrupted ys ≡ true)

-- The calls asked, made on the machine w, lead to v, and are answered so.
pub record Followed (cap : ℕ) (asked : List Asking) (w : Desk) (q : List Record) (ys : List StepAnswer) (v : Desk) (p : List Record) : Type 0 where
  pub list : List Continued
  pub each : AllAsked cap asked list w q
  pub leads : after_all list w ≡ v
  pub adds : with_all_added list w q ≡ p
  pub tells : Tells (course instruction list w) ys

-- ── Two machines ──
-- What one machine is made over, its lent slots, its history and its list.
pub record Given : Type 0 where
  pub store : Store
  pub bus : Bus
  pub slots : List Record
  pub past : List Call
  pub list : List Asking

-- What it answered to its list, what it is afterwards, and what its slots hold then.
pub record Left : Type 0 where
  pub answers : List StepAnswer
  pub machine : Desk
  pub slots : List Record

module _ {S B : Type 0} (meaning : S → Store) (devices : B → Bus) where
  abbrev pub given : Side S B → List Record → Given
  given s slots = record { store = meaning s.store; bus = devices s.bus; slots = slots; past = s.past.now; list = s.list.now }

  abbrev pub left : Finished S B → List Record → Left
  left f slots = record { answers = f.answered.answers.items; machine = desk_of meaning devices f.machine; slots = slots }

-- A machine is made, with an empty trace over its slots, has its history, and then its list, which is answered so. The slots hold the
-- trace then, the oldest record first, and behind it what they held.
pub record Gone (g : Given) (l : Left) : Type 0 where
  pub start : Desk
  pub trace : List Record
  pub pasts : PerformsAll (length g.slots) g.past (made g.store g.bus) [] start trace
  pub reached : Reached instruction g.store g.bus start
  pub last : List Record
  pub followed : Followed (length g.slots) g.list start trace l.answers l.machine last
  pub slots : l.slots ≡ last ++ drop (length last) g.slots

-- Two machines go so; and any two first parts of the lists, i and j calls of them, are isolated if they are allowed and the two look
-- alike at their start.
pub record Compared (g h : Given) (l r : Left) : Type 0 where
  pub one : Gone g l
  pub other : Gone h r
  pub isolated :
      LookAlike one.start.core other.start.core → (i j : ℕ) →
      Allowed instruction one.start (take i one.followed.list) → Allowed instruction other.start (take j other.followed.list) →
      Isolated instruction one.start other.start (take i one.followed.list) (take j other.followed.list)
