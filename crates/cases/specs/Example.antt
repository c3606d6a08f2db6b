-- Two machines that look alike to a protected program and differ in all else, with a meaning of halfwords made up for it; the program goes on for
-- one step and then calls the supervisor.
use Rattle.std.specs.Prelude.{◌≡◌, ℕ, ◌+◌, true, false, cond, List, [], ◌∷◌, ◌==◌, nat_lt, slice_index, slice_index_or}
use Rattle.model.specs.declared.Kind.TheVariants.{Writable, Unfitted}
use Rattle.model.specs.declared.Trap.TheVariants.{Supervisor}
use Rattle.model.specs.declared.Cause.TheVariants.{SupervisorCall}
use Rattle.model.specs.declared.StepAnswer.TheVariants.{Done, Interrupted}
use Rattle.model.specs.declared.Item.TheVariants.{General, Segment, Status}
use Rattle.model.specs.Stores.{Store, shows, at}
use Rattle.model.specs.Effects.{Prog, stop, get_location, jump, seq}
use Rattle.model.specs.Answers.{stepped}
use Rattle.model.specs.Console.{Desk, Act, set_item, made, call}
use Rattle.model.specs.Windows.{LookAlike}
use Rattle.model.specs.Calls.{Reached, Continued, key, examine, deposit, step, answers, course, by_deposits}
use Rattle.model.specs.Isolation.{Allowed}
use Rattle.cases.specs.Alike.{devices}

-- The halfword 0 goes on to the next; any other calls the supervisor.
abbrev pub meaning : ℕ → Prog
meaning h = cond (h == 0) (seq get_location (λ a. jump (a + 2))) (stop (Supervisor 0 0))

-- 256 writable places; the one that the program reads second holds 1, and the one at X'190', which it does not reach, holds x.
abbrev pub board : ℕ → Store
board x = record { fitted = 256; kind = λ p. cond (nat_lt p 256) Writable Unfitted; word = λ p. cond (p == 1) 1 (cond (p == 200) x 0) }

-- The machine after some calls.
abbrev pub obeying : List Act → Desk → Desk
obeying [] w = w
obeying (c ∷ l) w = obeying l (call meaning c w).after

-- The program reaches one block, from X'0' on; status bits 21 and 23 are on, and register set 15 is selected.
abbrev pub one : Desk
one = obeying (set_item (Segment 0) 0x10 ∷ set_item Status 0x510 ∷ []) (made (board 5) (devices false))

abbrev pub other : Desk
other = obeying (set_item (Segment 0) 0x10 ∷ set_item (General 0 3) 7 ∷ set_item Status 0x510 ∷ []) (made (board 6) (devices true))

-- One list is of two steps; the other has a step without room, an accepted deposit outside the window, and at LOCK a denied one in it.
abbrev pub plain : List Continued
plain = step 1 (devices true) ∷ step 1 (devices true) ∷ []

abbrev pub mixed : List Continued
mixed =
    step 0 (devices false) ∷ step 1 (devices false) ∷ deposit 0x190 9 ∷ key 2 ∷ deposit 0 5 ∷ examine 0 ∷ step 1 (devices false) ∷ []

-- Both are reached by calls, look alike, differ in registers, store and bus, have lists as asked, and take the interrupt.
pub record Example : Type 0 where
  pub one_reached : Reached meaning (board 5) (devices false) one
  pub other_reached : Reached meaning (board 6) (devices true) other
  pub alike : LookAlike one.core other.core
  pub registers_differ : slice_index_or one.core.registers 3 0 ≡ slice_index other.core.registers 3 → ⊥
  pub stores_differ : one.core.store.word 200 ≡ other.core.store.word 200 → ⊥
  pub buses_differ : (one.core.bus 1).requests ≡ (other.core.bus 1).requests → ⊥
  pub one_allowed : Allowed meaning one plain
  pub other_allowed : Allowed meaning other mixed
  pub deposit_accepted : by_deposits meaning 200 mixed other (at other.core.store 200) ≡ shows Writable 9
  pub one_answers : answers (course meaning plain one) ≡ (stepped Done ∷ stepped (Interrupted SupervisorCall) ∷ [])
  pub other_answers : answers (course meaning mixed other) ≡ (stepped Done ∷ stepped (Interrupted SupervisorCall) ∷ [])
