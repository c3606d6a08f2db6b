-- What an instruction can do to the machine: single effects, and one after the other. An instruction is a tree of effects.
use Rattle.std.specs.Prelude.{ℕ, ◌/◌, Bool, true, false, cond, Ok, Err, bit_or, slice_index, slice_set}
use Rattle.model.specs.declared.Access.{Access}
use Rattle.model.specs.declared.Access.TheVariants.{Fetch, Read, Write}
use Rattle.model.specs.declared.Grant.TheVariants.{Plain, Reported}
use Rattle.model.specs.declared.Trap.{Trap}
use Rattle.model.specs.declared.Trap.TheVariants.{Illegal, Refusal}
use Rattle.model.specs.Stores.{revised, half_at}
use Rattle.model.specs.Buses.{Bus, changed, was_read, was_written, was_commanded}
use Rattle.model.specs.States.{State, with_status, with_location, with_faults, with_pending, with_registers, with_segments, with_store, with_bus}
use Rattle.model.specs.Status.{relocated, protected, code_of, recoded, selected, slot, counter, address}
use Rattle.model.specs.Controller.{real, Verdict, verdict, fault_bit, write_report, is_controller, controller_half, segments_after, faults_after_read}

-- How a tree of effects ends: it goes on with a number, or it stops.
pub data Out : Type 0 where
  went : ℕ → State → Out
  stopped : Trap → State → Out

abbrev pub and_then : Out → (ℕ → State → Out) → Out
and_then (went v s) f = f v s
and_then (stopped c s) f = stopped c s

-- ret, stop: goes on with a number, stops. privileged: stops as illegal under protection. reg, set_reg: a register of the selected
-- set. get_code, set_code: the condition code. get_location, jump: the Location Counter. fetch, load, store: a halfword at a program
-- address; a store makes the new halfword of the old, in one write. check: the checks of an access, and no more. get_status,
-- set_status, answers, sense, read_from, write_to, command_to: the status and the devices; all privileged. seq: one after the other.
pub data Prog : Type 0 where
  ret : ℕ → Prog
  stop : Trap → Prog
  privileged : Prog
  reg : ℕ → Prog
  set_reg : ℕ → ℕ → Prog
  get_code : Prog
  set_code : ℕ → Prog
  get_location : Prog
  jump : ℕ → Prog
  fetch : ℕ → Prog
  load : ℕ → Prog
  store : ℕ → (ℕ → ℕ) → Prog
  check : Access → ℕ → Prog
  get_status : Prog
  set_status : ℕ → Prog
  answers : ℕ → Prog
  sense : ℕ → Prog
  read_from : ℕ → Prog
  write_to : ℕ → ℕ → Prog
  command_to : ℕ → ℕ → Prog
  seq : Prog → (ℕ → Prog) → Prog

-- ── Accesses ──
-- The real address of an access that the controller has judged. A refused one sets its interrupt status bit and stops the
-- instruction; a reported one sets its bit and leaves the report for later.
abbrev pub admitted : Verdict → ℕ → State → Out
admitted (Err v) r s = stopped Refusal (with_faults (bit_or s.faults (fault_bit v)) s)
admitted (Ok Plain) r s = went r s
admitted (Ok Reported) r s = went r (with_pending true (with_faults (bit_or s.faults write_report) s))

-- With relocation off, both addresses are equal, and nothing is checked.
abbrev pub translated : Access → ℕ → State → Out
translated u a s = cond (relocated s.status) (admitted (verdict u s.segments a) (real s.segments a) s) (went a s)

-- The checks alone: nothing is reported, since nothing is written.
abbrev pub inspected : Verdict → State → Out
inspected (Err v) s = stopped Refusal (with_faults (bit_or s.faults (fault_bit v)) s)
inspected (Ok g) s = went 0 s

abbrev pub checked : Access → ℕ → State → Out
checked u a s = cond (relocated s.status) (inspected (verdict u s.segments a) s) (went 0 s)

-- With relocation off only, X'300' to X'3FF' reach the controller, and not the store.
abbrev pub reaches_controller : ℕ → State → Bool
reaches_controller r s = cond (relocated s.status) false (is_controller r)

-- The halfword at a real address, as a program reads it.
abbrev pub read_at : ℕ → State → Out
read_at r s =
    cond (reaches_controller r s)
    (went (controller_half s.segments s.faults r) (with_faults (faults_after_read s.faults r) s))
    (went (half_at s.store r) s)

-- A write at a real address, as a program makes it.
abbrev pub written_at : ℕ → (ℕ → ℕ) → State → State
written_at r f s =
    cond (reaches_controller r s)
    (with_segments (segments_after s.segments r (f (controller_half s.segments s.faults r))) s)
    (with_store (revised s.store (r / 2) f) s)

-- ── Privilege ──
abbrev pub unless_protected : State → Out → Out
unless_protected s o = cond (protected s.status) (stopped Illegal s) o

abbrev pub as_number : Bool → ℕ
as_number b = cond b 1 0

-- A read, a write and a command are sent only to a device that answers.
abbrev pub if_answers : ℕ → State → Out → Out
if_answers n s o = cond (s.bus n).answers o (went 0 s)

-- ── What a tree of effects does ──
-- A device that is read, written or commanded then shows the status, offer and request that it has in reply.
module _ (reply : Bus) where
  abbrev pub run : Prog → State → Out
  run (ret v) s = went v s
  run (stop c) s = stopped c s
  run privileged s = unless_protected s (went 0 s)
  run (reg n) s = went (slice_index s.registers (slot (selected s.status) n)) s
  run (set_reg n v) s = went 0 (with_registers (slice_set s.registers (slot (selected s.status) n) v) s)
  run get_code s = went (code_of s.status) s
  run (set_code c) s = went 0 (with_status (recoded s.status c) s)
  run get_location s = went s.location s
  run (jump a) s = went 0 (with_location (counter a) s)
  run (fetch a) s = and_then (translated Fetch (address a) s) read_at
  run (load a) s = and_then (translated Read (address a) s) read_at
  run (store a f) s = and_then (translated Write (address a) s) (λ r t. went 0 (written_at r f t))
  run (check u a) s = checked u (address a) s
  run get_status s = unless_protected s (went s.status s)
  run (set_status v) s = unless_protected s (went 0 (with_status v s))
  run (answers n) s = unless_protected s (went (as_number (s.bus n).answers) s)
  run (sense n) s = unless_protected s (went (s.bus n).status s)
  run (read_from n) s =
      unless_protected s (if_answers n s (went (s.bus n).offer (with_bus (changed s.bus n (was_read (reply n) (s.bus n))) s)))
  run (write_to n v) s =
      unless_protected s (if_answers n s (went 0 (with_bus (changed s.bus n (was_written v (reply n) (s.bus n))) s)))
  run (command_to n v) s =
      unless_protected s (if_answers n s (went 0 (with_bus (changed s.bus n (was_commanded v (reply n) (s.bus n))) s)))
  run (seq p k) s = and_then (run p s) (λ v t. run (k v) t)
