-- The console: every call but run and play, with its denials in their order and what it does.
use Rattle.std.specs.Prelude.{◌≡◌, ℕ, ◌/◌, ◌%◌, ◌^◌, Bool, true, false, cond, not, ◌||◌, List, [], ◌∷◌, ◌++◌, replicate, Some, None, Option, ◌==◌, nat_le, nat_lt, slice_index, slice_set}
use Rattle.model.specs.declared.Kind.{Kind}
use Rattle.model.specs.declared.Kind.TheVariants.{Writable, Fixed, Unfitted}
use Rattle.model.specs.declared.Item.{Item}
use Rattle.model.specs.declared.Item.TheVariants.{General, Segment, Status, Location}
use Rattle.model.specs.declared.Record.{Record}
use Rattle.model.specs.declared.StepAnswer.TheVariants.{Done, Waiting, Interrupted}
use Rattle.model.specs.Stores.{Store, stored, half_at}
use Rattle.model.specs.Buses.{Bus}
use Rattle.model.specs.States.{State, with_status, with_location, with_registers, with_segments, with_store}
use Rattle.model.specs.Status.{register_count, no_set, file_of, slot}
use Rattle.model.specs.Controller.{used}
use Rattle.model.specs.Effects.{Prog}
use Rattle.model.specs.Steps.{Ending, finished, waiting, took, stepped as step_of}
use Rattle.model.specs.Answers.{off, on, lock, Answer, denied, done, shown, stepped}

-- The whole machine: the position of the key, and the processor with its store and its bus.
pub record Desk : Type 0 where
  pub key : ℕ
  pub core : State

abbrev pub with_core : State → Desk → Desk
with_core s w = record { key = w.key; core = s }

abbrev pub with_key : ℕ → Desk → Desk
with_key n w = record { key = n; core = w.core }

-- A processor at its start: waiting, and all else but store and bus 0.
abbrev pub fresh : Store → Bus → State
fresh m b = record { status = 0x8000; location = 0; faults = 0; pending = false; registers = replicate register_count 0; segments = replicate 16 0; store = m; bus = b }

-- A new machine: its key is ON.
abbrev pub made : Store → Bus → Desk
made m b = record { key = on; core = fresh m b }

-- A call as it happens. A step finds room in the trace, and a device that it touches then shows what it shows in the reply.
pub data Act : Type 0 where
  turn_key : ℕ → Act
  initialise : Act
  examine : ℕ → Act
  deposit : ℕ → ℕ → Act
  set_item : Item → ℕ → Act
  show_item : Item → Act
  step : ℕ → Bus → Act

-- ── Denials ──
-- The first of two.
abbrev pub or_else : Option ℕ → Option ℕ → Option ℕ
or_else (Some n) d = Some n
or_else None d = d

abbrev pub deny_if : Bool → ℕ → Option ℕ
deny_if b n = cond b (Some n) None

-- 7 at OFF; 8 at LOCK.
abbrev pub off_denial : Desk → Option ℕ
off_denial w = deny_if (w.key == off) 7

abbrev pub lock_denial : Desk → Option ℕ
lock_denial w = deny_if (w.key == lock) 8

abbrev pub key_denial : Desk → Option ℕ
key_denial w = or_else (off_denial w) (lock_denial w)

abbrev pub is_unfitted : Kind → Bool
is_unfitted Writable = false
is_unfitted Fixed = false
is_unfitted Unfitted = true

abbrev pub is_fixed : Kind → Bool
is_fixed Writable = false
is_fixed Fixed = true
is_fixed Unfitted = false

-- An address that is odd or over X'FFFFF'.
unfoldable pub strange : ℕ → Bool
strange a = a % 2 == 1 || nat_le (2 ^ 20) a

-- 1: an address that is odd, over X'FFFFF' or unfitted. 2: a fixed place.
abbrev pub place_denial : ℕ → Store → Option ℕ
place_denial a m = deny_if (strange a || is_unfitted (m.kind (a / 2))) 1

abbrev pub fixed_denial : ℕ → Store → Option ℕ
fixed_denial a m = deny_if (is_fixed (m.kind (a / 2))) 2

-- 3: a register or segment number over 15, or a set that is not there.
abbrev pub item_denial : Item → Option ℕ
item_denial (General k n) = deny_if (no_set k || nat_le 16 n) 3
item_denial (Segment n) = deny_if (nat_le 16 n) 3
item_denial Status = None
item_denial Location = None

-- 4: an unused bit of a segmentation register, or a location that is odd or over X'FFFFF'.
abbrev pub value_denial : Item → ℕ → Option ℕ
value_denial (General k n) v = None
value_denial (Segment n) v = deny_if (not (used v == v)) 4
value_denial Status v = None
value_denial Location v = deny_if (strange v) 4

-- 4: a key position over 2. 9: no room in the trace.
abbrev pub position_denial : ℕ → Option ℕ
position_denial n = deny_if (nat_lt lock n) 4

abbrev pub room_denial : ℕ → Option ℕ
room_denial room = deny_if (room == 0) 9

abbrev pub denial : Act → Desk → Option ℕ
denial (turn_key n) w = position_denial n
denial initialise w = off_denial w
denial (examine a) w = or_else (key_denial w) (place_denial a w.core.store)
denial (deposit a v) w = or_else (key_denial w) (or_else (place_denial a w.core.store) (fixed_denial a w.core.store))
denial (set_item i v) w = or_else (key_denial w) (or_else (item_denial i) (value_denial i v))
denial (show_item i) w = or_else (key_denial w) (item_denial i)
denial (step room reply) w = or_else (off_denial w) (room_denial room)

-- ── What a call that is not denied does ──
-- The answer, the records added to the trace, and the machine afterwards.
pub record Did : Type 0 where
  pub answer : Answer
  pub added : List Record
  pub after : Desk

abbrev pub gives : Answer → Desk → Did
gives a w = record { answer = a; added = []; after = w }

abbrev pub item_of : Item → State → ℕ
item_of (General k n) s = slice_index s.registers (slot (file_of k) n)
item_of (Segment n) s = slice_index s.segments n
item_of Status s = s.status
item_of Location s = s.location

abbrev pub with_item : Item → ℕ → State → State
with_item (General k n) v s = with_registers (slice_set s.registers (slot (file_of k) n) v) s
with_item (Segment n) v s = with_segments (slice_set s.segments n v) s
with_item Status v s = with_status v s
with_item Location v s = with_location v s

abbrev pub did_step : Desk → Ending → Did
did_step w (finished s) = gives (stepped Done) (with_core s w)
did_step w (waiting s) = gives (stepped Waiting) (with_core s w)
did_step w (took r s) = record { answer = stepped (Interrupted r.cause); added = r ∷ []; after = with_core s w }

-- A denied call alters nothing.
abbrev pub unless_denied : Option ℕ → Desk → Did → Did
unless_denied (Some n) w d = gives (denied n) w
unless_denied None w d = d

-- The answer a is this refusal, and the machine and the trace are as they were.
pub record Leaves (refusal a : Answer) (w v : Desk) (q p : List Record) : Type 0 where
  pub answer : a ≡ refusal
  pub machine : v ≡ w
  pub trace : p ≡ q

module _ (meaning : ℕ → Prog) where
  abbrev pub obeyed : Act → Desk → Did
  obeyed (turn_key n) w = gives done (with_key n w)
  obeyed initialise w = gives done (with_core (fresh w.core.store w.core.bus) w)
  obeyed (examine a) w = gives (shown (half_at w.core.store a)) w
  obeyed (deposit a v) w = gives done (with_core (with_store (stored w.core.store (a / 2) v) w.core) w)
  obeyed (set_item i v) w = gives done (with_core (with_item i v w.core) w)
  obeyed (show_item i) w = gives (shown (item_of i w.core)) w
  obeyed (step room reply) w = did_step w (step_of meaning reply w.core)

  abbrev pub call : Act → Desk → Did
  call c w = unless_denied (denial c w) w (obeyed c w)

-- What a caller gets: the answer, the machine, and the trace with the added records behind it.
pub data Told : Type 0 where
  told : Answer → Desk → List Record → Told

abbrev pub onto : List Record → List Record → List Record
onto q [] = q
onto q (r ∷ rs) = onto (q ++ r ∷ []) rs

abbrev pub tell : List Record → Did → Told
tell q d = told d.answer d.after (onto q d.added)
