-- When a call is denied: each denial by itself, and the order in which they are looked for.
use Rattle.std.specs.Prelude.{◌≡◌, ℕ, ◌+◌, ◌-◌, ◌/◌, ◌%◌, ◌^◌, Bool, true, false, not, ◌&&◌, ◌||◌, List, [], ◌∷◌, length, Some, None, Option, ◌==◌, nat_le, nat_lt, find}
use Rattle.std.specs.Option.{option_map}
use Rattle.model.specs.declared.Denial.{Denial}
use Rattle.model.specs.declared.Denial.TheVariants.{NoPlace, FixedPlace, NoRegister, OutOfRange, UnknownLetter, CutShort, KeyOff, KeyLocked, TraceFull}
use Rattle.model.specs.declared.Item.{Item}
use Rattle.model.specs.declared.Item.TheVariants.{General, Segment, Status, Location}
use Rattle.model.specs.declared.Record.{Record}
use Rattle.model.specs.Stores.{Store}
use Rattle.model.specs.Effects.{Prog}
use Rattle.model.specs.Answers.{number, off, on, lock, Answer, denied, faulted, accepted}
use Rattle.model.specs.Console.{Desk, Act, turn_key, initialise, examine, deposit, set_item, show_item, step, is_unfitted, is_fixed, call, Leaves}
use Rattle.model.specs.Runs.{Runs}
use Rattle.model.specs.Tapes.{Order, point, obey, go, Command, unknown, known, Spelling, spelled, Obeys, Playing, PlayedOn, Plays}

-- ── What is asked of the machine ──
-- A call of the console; a run with a count, and so much room in its trace; a tape; or nothing that could be denied, as the address that
-- a tape sets.
pub data Call : Type 0 where
  act : Act → Call
  run : ℕ → ℕ → Call
  tape : Call
  nothing : Call

-- A call, or while a tape is played a letter's command, with so many bytes behind the letter, and so much room in the trace.
pub data Asked : Type 0 where
  plain : Call → Asked
  command : Command → ℕ → ℕ → Asked

-- The call of an order, and what is called in the end.
abbrev pub call_of_order : Order → ℕ → Call
call_of_order point room = nothing
call_of_order (obey c) room = act c
call_of_order (go count) room = run count room

abbrev pub call_of : Asked → Call
call_of (plain c) = c
call_of (command unknown left room) = nothing
call_of (command (known size o next) left room) = call_of_order o room

-- ── Each denial by itself ──
-- 7: the key is OFF, for all but a turn of the key.
abbrev pub turns_key : Call → Bool
turns_key (act (turn_key n)) = true
turns_key _ = false

-- 8: the key is at LOCK, for all but a turn of the key, initialise, step, run and play.
abbrev pub goes_at_lock : Call → Bool
goes_at_lock (act (turn_key n)) = true
goes_at_lock (act initialise) = true
goes_at_lock (act (step room reply)) = true
goes_at_lock (run count room) = true
goes_at_lock tape = true
goes_at_lock _ = false

-- 5: the letter is unknown.
abbrev pub is_unknown : Asked → Bool
is_unknown (command unknown left room) = true
is_unknown _ = false

-- 6: the operand is cut short.
abbrev pub is_cut_short : Asked → Bool
is_cut_short (command (known size o next) left room) = nat_lt left size
is_cut_short _ = false

-- 1: the address of an examine or a deposit is odd, over X'FFFFF' or of an unfitted place.
abbrev pub is_no_place : ℕ → Store → Bool
is_no_place a m = a % 2 == 1 || nat_lt 0xfffff a || is_unfitted (m.kind (a / 2))

abbrev pub has_no_place : Call → Store → Bool
has_no_place (act (examine a)) m = is_no_place a m
has_no_place (act (deposit a v)) m = is_no_place a m
has_no_place _ m = false

-- 2: a deposit is in a fixed place.
abbrev pub is_at_fixed : Call → Store → Bool
is_at_fixed (act (deposit a v)) m = is_fixed (m.kind (a / 2))
is_at_fixed _ m = false

-- 3: of a set or a show, the register or segment number is over 15, or the set is neither 0 nor 15.
abbrev pub is_no_item : Item → Bool
is_no_item (General k n) = not (k == 0 || k == 15) || nat_lt 15 n
is_no_item (Segment n) = nat_lt 15 n
is_no_item Status = false
is_no_item Location = false

abbrev pub has_no_item : Call → Bool
has_no_item (act (set_item i v)) = is_no_item i
has_no_item (act (show_item i)) = is_no_item i
has_no_item _ = false

-- 4: a key position is over 2; a location is odd or over X'FFFFF'; one of bits 0 to 3 or 28 to 31 of a segmentation register is set; a
-- run's count is 0 or over 1,000,000.
abbrev pub is_out_of_range : Call → Bool
is_out_of_range (act (turn_key n)) = nat_lt 2 n
is_out_of_range (act (set_item (Segment n) v)) = nat_le (2 ^ 28) v || not (v % 2 ^ 4 == 0)
is_out_of_range (act (set_item Location v)) = v % 2 == 1 || nat_lt 0xfffff v
is_out_of_range (run count room) = count == 0 || nat_lt 1_000_000 count
is_out_of_range _ = false

-- 9: a step or a run finds its trace full.
abbrev pub has_no_room : Call → Bool
has_no_room (act (step room reply)) = room == 0
has_no_room (run count room) = room == 0
has_no_room _ = false

-- Whether a denial applies to what is asked of the machine w.
abbrev pub applies : Denial → Asked → Desk → Bool
applies KeyOff q w = not (turns_key (call_of q)) && w.key == off
applies KeyLocked q w = not (goes_at_lock (call_of q)) && w.key == lock
applies UnknownLetter q w = is_unknown q
applies CutShort q w = is_cut_short q
applies NoPlace q w = has_no_place (call_of q) w.core.store
applies FixedPlace q w = is_at_fixed (call_of q) w.core.store
applies NoRegister q w = has_no_item (call_of q)
applies OutOfRange q w = is_out_of_range (call_of q)
applies TraceFull q w = has_no_room (call_of q)

-- ── The order ──
-- 7, 8, 5, 6, 1, 2, 3, 4, 9.
abbrev pub in_order : List Denial
in_order =
    KeyOff ∷ KeyLocked ∷ UnknownLetter ∷ CutShort ∷ NoPlace ∷ FixedPlace ∷ NoRegister ∷ OutOfRange ∷ TraceFull ∷ []

-- The number of the first that applies.
abbrev pub first_denial : Asked → Desk → Option ℕ
first_denial q w = option_map number (find (λ d. applies d q w) in_order)

-- ── The laws ──
-- A call that is denied with n, or by nothing, and so accepted.
abbrev pub Given : Option ℕ → Answer → Desk → Desk → List Record → List Record → Type 0
Given (Some n) a w v q p = Leaves (denied n) a w v q p
Given None a w v q p = accepted a ≡ true

-- A command that is obeyed, after which the rest of the tape is played.
pub record GoesOn
    (meaning : ℕ → Prog) (cap : ℕ) (o : Order) (rest : Spelling) (n : ℕ) (w : Desk) (q : List Record) (a : Answer) (v : Desk)
    (p : List Record) : Type 0 where
  pub answer : Answer
  pub machine : Desk
  pub trace : List Record
  pub obeys : Obeys meaning cap o w q answer machine trace
  pub accepts : accepted answer ≡ true
  pub plays : Playing meaning cap rest (n + 1) machine trace a v p

module _ (meaning : ℕ → Prog) (cap : ℕ) where
  -- A tape on the machine w, which is denied with n, or played.
  abbrev pub GivenTape : Option ℕ → List ℕ → Desk → List Record → Answer → Desk → List Record → Type 0
  GivenTape (Some n) bytes w q a v p = Leaves (faulted n 0 None) a w v q p
  GivenTape None bytes w q a v p = PlayedOn meaning cap bytes w q a v p

  -- A letter's command, which is denied with d at its place, or obeyed.
  abbrev pub GivenLetter :
      Option ℕ → Command → ℕ → ℕ → (ℕ → ℕ → Spelling) → ℕ → Desk → List Record → Answer → Desk → List Record → Type 0
  GivenLetter (Some d) c letter place more n w q a v p = Leaves (faulted d place (Some letter)) a w v q p
  GivenLetter None unknown letter place more n w q a v p = ⊥
  GivenLetter None (known size o next) letter place more n w q a v p = GoesOn meaning cap o (more size next) n w q a v p

-- Each call is denied by the first denial that applies, and by none just when none applies: calls of the console, runs, tapes, and
-- the letters of a tape that is played, for which the key is ON.
pub record FirstIsGiven : Type 0 where
  pub calls :
      (meaning : ℕ → Prog) (c : Act) (w : Desk) → let d = call meaning c w in
      Given (first_denial (plain (act c)) w) d.answer w d.after [] d.added
  pub runs :
      (meaning : ℕ → Prog) (cap count : ℕ) (w : Desk) (q : List Record) (a : Answer) (v : Desk) (p : List Record) →
      Runs meaning cap count w q a v p → Given (first_denial (plain (run count (cap - length q))) w) a w v q p
  pub tapes :
      (meaning : ℕ → Prog) (cap : ℕ) (bytes : List ℕ) (w : Desk) (q : List Record) (a : Answer) (v : Desk) (p : List Record) →
      Plays meaning cap bytes w q a v p → GivenTape meaning cap (first_denial (plain tape) w) bytes w q a v p
  pub letters :
      (meaning : ℕ → Prog) (cap : ℕ) (c : Command) (letter place : ℕ) (rest : List ℕ) (more : ℕ → ℕ → Spelling) (n : ℕ) (w : Desk)
      (q : List Record) (a : Answer) (v : Desk) (p : List Record) → w.key ≡ on →
      Playing meaning cap (spelled c letter place rest more) n w q a v p →
      GivenLetter meaning cap (first_denial (command c (length rest) (cap - length q)) w) c letter place more n w q a v p
