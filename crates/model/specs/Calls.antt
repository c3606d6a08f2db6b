-- The calls that lead to a machine, and those that it is given from then on.
use Rattle.std.specs.Prelude.{◌≡◌, ℕ, ◌/◌, true, cond, List, [], ◌∷◌, ◌==◌}
use Rattle.model.specs.declared.Kind.TheVariants.{Writable}
use Rattle.model.specs.declared.Cause.TheVariants.{DeviceRequest}
use Rattle.model.specs.declared.Item.{Item}
use Rattle.model.specs.declared.Record.{Record}
use Rattle.model.specs.Stores.{Store, Place, shows}
use Rattle.model.specs.Buses.{Bus}
use Rattle.model.specs.States.{State}
use Rattle.model.specs.Effects.{Prog}
use Rattle.model.specs.Answers.{Answer, accepted}
use Rattle.model.specs.Console.{Desk, Act, Did, made, call}
use Rattle.model.specs.Runs.{Runs}
use Rattle.model.specs.Tapes.{Plays}
use Rattle.model.specs.Windows.{InWindow}

-- ── Histories ──
-- The machines that a new one over the store m and the bus b becomes by calls, denied ones included, each with any trace: called by key,
-- initialise, examine, deposit, set, show and step; ran by run; played by play.
pub data Reached (meaning : ℕ → Prog) (m : Store) (b : Bus) : Desk → Type 0 where
  new : Reached meaning m b (made m b)
  called : {w : Desk} (c : Act) → Reached meaning m b w → Reached meaning m b (call meaning c w).after
  ran :
      {w v : Desk} (cap count : ℕ) (q p : List Record) (a : Answer) →
      Reached meaning m b w → Runs meaning cap count w q a v p → Reached meaning m b v
  played :
      {w v : Desk} (cap : ℕ) (tape : List ℕ) (q p : List Record) (a : Answer) →
      Reached meaning m b w → Plays meaning cap tape w q a v p → Reached meaning m b v

-- ── From now on ──
-- The calls that a machine is given while a protected program runs on it: all but initialise, set, run and play. A step finds room in
-- the trace, and a device that it touches then shows what it shows in the reply.
pub data Continued : Type 0 where
  key : ℕ → Continued
  examine : ℕ → Continued
  deposit : ℕ → ℕ → Continued
  show : Item → Continued
  step : ℕ → Bus → Continued

-- Each as a call of the console.
abbrev pub act : Continued → Act
act (key n) = Act.turn_key n
act (examine a) = Act.examine a
act (deposit a v) = Act.deposit a v
act (show i) = Act.show_item i
act (step room reply) = Act.step room reply

-- What a call is to the program: nothing, or a step with its answer, which may take an interrupt.
pub data Event : Type 0 where
  unseen : Event
  answered : Answer → Event
  interrupted : Answer → Record → Event

-- A step that is denied is nothing; one that adds a record to the trace takes an interrupt.
abbrev pub seen : Answer → List Record → Event
seen a [] = cond (accepted a) (answered a) unseen
seen a (r ∷ rs) = interrupted a r

-- A list of calls up to and including its first interrupt: the answers of its accepted steps, the record of that interrupt if there
-- was one, and the processor then.
pub data Course : Type 0 where
  quiet : List Answer → State → Course
  broken : List Answer → Record → State → Course

-- The answers and the processor in the end, interrupt or not.
abbrev pub answers : Course → List Answer
answers (quiet xs s) = xs
answers (broken xs r s) = xs

abbrev pub final : Course → State
final (quiet xs s) = s
final (broken xs r s) = s

-- The first interrupt, if there was one, was not a device's.
abbrev pub NoDeviceInterrupt : Course → Type 0
NoDeviceInterrupt (quiet xs s) = Unit {0}
NoDeviceInterrupt (broken xs r s) = r.cause ≡ DeviceRequest → ⊥

-- A course with one more answer ahead; and the course of a call, which left s, and the rest.
abbrev pub ahead : Answer → Course → Course
ahead a (quiet xs s) = quiet (a ∷ xs) s
ahead a (broken xs r s) = broken (a ∷ xs) r s

abbrev pub joined : Event → State → Course → Course
joined unseen s rest = rest
joined (answered a) s rest = ahead a rest
joined (interrupted a r) s rest = broken (a ∷ []) r s

-- What a place shows in the end: what it showed after a call that took an interrupt, else what the rest of the list makes of it.
abbrev pub held_through : Event → Place → Place → Place
held_through unseen x rest = rest
held_through (answered a) x rest = rest
held_through (interrupted a r) x rest = x

module _ (meaning : ℕ → Prog) where
  -- What a call does, the machine after it, and what it is to the program: of the calls only a step is anything.
  abbrev pub did : Continued → Desk → Did
  did c w = call meaning (act c) w

  abbrev pub after : Continued → Desk → Desk
  after c w = (did c w).after

  abbrev pub event : Continued → Desk → Event
  event (key n) w = unseen
  event (examine a) w = unseen
  event (deposit a v) w = unseen
  event (show i) w = unseen
  event (step room reply) w = let d = did (step room reply) w in seen d.answer d.added

  -- The course of a list from the machine w on.
  abbrev pub course : List Continued → Desk → Course
  course [] w = quiet [] w.core
  course (c ∷ l) w = joined (event c w) (after c w).core (course l (after c w))

  -- A deposit that is not denied goes to a place outside the window that these segmentation registers give.
  abbrev pub Outside : List ℕ → Continued → Desk → Type 0
  Outside segments (key n) w = Unit {0}
  Outside segments (examine a) w = Unit {0}
  Outside segments (deposit a v) w = accepted (did (deposit a v) w).answer ≡ true → InWindow segments (a / 2) → ⊥
  Outside segments (show i) w = Unit {0}
  Outside segments (step room reply) w = Unit {0}

  -- .. and so does each deposit of a list.
  abbrev pub AllOutside : List ℕ → List Continued → Desk → Type 0
  AllOutside segments [] w = Unit {0}
  AllOutside segments (c ∷ l) w = Outside segments c w × AllOutside segments l (after c w)

  -- What the place p, which showed x, shows after a call if only deposits alter it: an accepted one fills a writable place.
  abbrev pub by_deposit : ℕ → Continued → Desk → Place → Place
  by_deposit p (key n) w x = x
  by_deposit p (examine a) w x = x
  by_deposit p (deposit a v) w x = cond (accepted (did (deposit a v) w).answer) (cond (p == a / 2) (shows Writable v) x) x
  by_deposit p (show i) w x = x
  by_deposit p (step room reply) w x = x

  -- .. and after a list up to and including its first interrupt: the last deposit accepted there, else x.
  abbrev pub by_deposits : ℕ → List Continued → Desk → Place → Place
  by_deposits p [] w x = x
  by_deposits p (c ∷ l) w x = held_through (event c w) (by_deposit p c w x) (by_deposits p l (after c w) (by_deposit p c w x))
