-- Two machines that look alike to a protected program and differ in all else. The program is one of the machine's own instructions: it
-- adds, stores the sum in its window, loads it again, and calls the supervisor.
use Rattle.std.specs.Prelude.{◌≡◌, ℕ, Bool, true, false, cond, List, [], ◌∷◌, ◌==◌, nat_lt, slice_index}
use Rattle.model.specs.declared.Kind.TheVariants.{Writable, Unfitted}
use Rattle.model.specs.declared.Cause.TheVariants.{SupervisorCall}
use Rattle.model.specs.declared.StepAnswer.TheVariants.{Done, Interrupted}
use Rattle.model.specs.declared.Item.TheVariants.{General, Segment, Status}
use Rattle.model.specs.Stores.{Store, shows, at}
use Rattle.model.specs.Buses.{Bus}
use Rattle.model.specs.Status.{slot}
use Rattle.model.specs.Answers.{stepped}
use Rattle.model.specs.Console.{Desk, Act, set_item, made, call}
use Rattle.model.specs.Windows.{InWindow, InWritableWindow, LookAlike}
use Rattle.model.specs.Calls.{Reached, Continued, key, examine, deposit, step, Course, answers, final, course, by_deposits}
use Rattle.model.specs.Isolation.{Allowed}
use Rattle.instructions.specs.Instructions.{instruction}

-- The halfword at the place p, which has the real address 2p. From X'200' on stands the program: AIS 1,5; STH 1,X'40'; LH 2,X'40'; SVC 1,7.
-- At X'9E' is the supervisor's Location Counter for call 1, and its status, at X'98', is 0. At X'190', which the program does not
-- reach, is x.
abbrev pub halfword : ℕ → ℕ → ℕ
halfword x p =
    cond (p == 0x4f) 0x120
    (cond (p == 0xc8) x
    (cond (p == 0x100) 0x2615
    (cond (p == 0x101) 0x4010
    (cond (p == 0x102) 0x40
    (cond (p == 0x103) 0x4820
    (cond (p == 0x104) 0x40
    (cond (p == 0x105) 0xe110
    (cond (p == 0x106) 7
    0))))))))

-- 512 writable places.
abbrev pub board : ℕ → Store
board x = record { fitted = 512; kind = λ p. cond (nat_lt p 512) Writable Unfitted; word = halfword x }

-- Devices that all answer and request, or all do not.
abbrev pub devices : Bool → Bus
devices b =
    λ n. record { answers = b; status = 0; offer = 0; requests = b; latest = 0; command = 0; reads = 0; writes = 0; commands = 0 }

-- The machine after some calls.
abbrev pub obeying : List Act → Desk → Desk
obeying [] w = w
obeying (c ∷ l) w = obeying l (call instruction c w).after

-- The program's addresses 0 to X'FF' are the block from X'200' on; it is present and may be written.
abbrev pub first_segment : ℕ
first_segment = 0x210

-- Bits 21 and 23 are on, and register set 15 is selected.
abbrev pub program_status : ℕ
program_status = 0x510

abbrev pub one : Desk
one = obeying (set_item (Segment 0) first_segment ∷ set_item Status program_status ∷ []) (made (board 5) (devices false))

abbrev pub other : Desk
other =
    obeying (set_item (Segment 0) first_segment ∷ set_item (General 0 3) 7 ∷ set_item Status program_status ∷ []) (made (board 6) (devices true))

-- One list is of four steps; the other has a step without room, an accepted deposit outside the window, and at LOCK a denied one in it.
abbrev pub plain : List Continued
plain = step 1 (devices true) ∷ step 1 (devices true) ∷ step 1 (devices true) ∷ step 1 (devices true) ∷ []

abbrev pub mixed : List Continued
mixed =
    step 0 (devices false) ∷ step 1 (devices false) ∷ deposit 0x190 9 ∷ step 1 (devices false) ∷
    key 2 ∷ deposit 0x240 3 ∷ examine 0x240 ∷ step 1 (devices false) ∷ step 1 (devices false) ∷
    []

-- Three steps are done, and the fourth takes the supervisor call. The sum is at the place X'120', which is the program's address X'40',
-- and in register 2 of set 15; the supervisor goes on at the address X'120' with status 0.
pub record Calls (c : Course) : Type 0 where
  pub gives : answers c ≡ (stepped Done ∷ stepped Done ∷ stepped Done ∷ stepped (Interrupted SupervisorCall) ∷ [])
  pub stored : at (final c).store 0x120 ≡ shows Writable 5
  pub loaded : slice_index (final c).registers (slot 1 2) ≡ 5
  pub status : (final c).status ≡ 0
  pub location : (final c).location ≡ 0x120

-- Both are reached by calls, look alike, differ in registers, store and bus, have lists as asked, and call the supervisor. The place of the
-- sum is in the writable window, and the one that differs, where the deposit goes, is outside the window.
pub record AlikeMachines : Type 0 where
  pub one_reached : Reached instruction (board 5) (devices false) one
  pub other_reached : Reached instruction (board 6) (devices true) other
  pub alike : LookAlike one.core other.core
  pub registers_differ : slice_index one.core.registers (slot 0 3) ≡ slice_index other.core.registers (slot 0 3) → ⊥
  pub stores_differ : one.core.store.word 0xc8 ≡ other.core.store.word 0xc8 → ⊥
  pub buses_differ : (one.core.bus 1).requests ≡ (other.core.bus 1).requests → ⊥
  pub sum_inside : InWritableWindow one.core.segments 0x120
  pub difference_outside : InWindow one.core.segments 0xc8 → ⊥
  pub one_allowed : Allowed instruction one plain
  pub other_allowed : Allowed instruction other mixed
  pub deposit_accepted : by_deposits instruction 0xc8 mixed other (at other.core.store 0xc8) ≡ shows Writable 9
  pub one_calls : Calls (course instruction plain one)
  pub other_calls : Calls (course instruction mixed other)
