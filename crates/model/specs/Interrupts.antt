-- What an interrupt does to the machine, in the words of the manual.
use Rattle.std.specs.Prelude.{◌≡◌, ℕ, ◌+◌, ◌*◌, ◌%◌, ◌^◌, ◌<◌, true, false, List, [], ◌∷◌, length, Contains, slice_index}
use Rattle.model.specs.declared.Trap.TheVariants.{Illegal, Arithmetic, Refusal, Supervisor}
use Rattle.model.specs.declared.Cause.{Cause}
use Rattle.model.specs.declared.Cause.TheVariants.{IllegalInstruction, ArithmeticFault, AccessFault, SupervisorCall, DeviceRequest}
use Rattle.model.specs.declared.Record.{Record}
use Rattle.model.specs.Stores.{half_at, full_at}
use Rattle.model.specs.Buses.{Bus}
use Rattle.model.specs.Requests.{IsLowestRequester}
use Rattle.model.specs.States.{State}
use Rattle.model.specs.Status.{polls, arithmetic_on, register_count, slot, counter, to_half}
use Rattle.model.specs.Effects.{went, stopped, Prog}
use Rattle.model.specs.Steps.{Ending, finished, waiting, took, ended, stepped}

-- The registers of set 0 that an interrupt fills, by its cause: 14 and 15, in which it saves the PSW; at a supervisor call 13 too, with
-- the address; at a device's request 0 to 4 instead.
abbrev pub filled_registers : Cause → List ℕ
filled_registers IllegalInstruction = 14 ∷ 15 ∷ []
filled_registers ArithmeticFault = 14 ∷ 15 ∷ []
filled_registers AccessFault = 14 ∷ 15 ∷ []
filled_registers SupervisorCall = 13 ∷ 14 ∷ 15 ∷ []
filled_registers DeviceRequest = 0 ∷ 1 ∷ 2 ∷ 3 ∷ 4 ∷ []

-- Register n of set k of the file is one of them.
abbrev pub Fills : Cause → ℕ → ℕ → Type 0
Fills c k n = (k ≡ 0) × Contains (filled_registers c) (n % 16)

-- Register n of set 0.
abbrev pub of_zero : ℕ → State → ℕ
of_zero n s = slice_index s.registers (slot 0 n)

-- What an interrupt of this cause leaves as it was: all other registers, the segmentation registers, the interrupt status, whether a
-- write is to be reported, the store and the bus.
pub record LeavesRest (c : Cause) (s t : State) : Type 0 where
  pub registers : (k n : ℕ) → (Fills c k n → ⊥) → slice_index t.registers (slot k n) ≡ slice_index s.registers (slot k n)
  pub segments : t.segments ≡ s.segments
  pub faults : t.faults ≡ s.faults
  pub pending : t.pending ≡ s.pending
  pub store : t.store ≡ s.store
  pub bus : t.bus ≡ s.bus

-- The record of an interrupt that saves the status of s and the address own.
pub record Records (c : Cause) (own : ℕ) (s : State) (r : Record) : Type 0 where
  pub cause : r.cause ≡ c
  pub status : r.status ≡ s.status
  pub location : r.location ≡ own
  pub faults : r.faults ≡ s.faults

-- An interrupt finds the processor as s, leaves it as t, and has the record r.
-- By way of the PSW at the real address v, with own as the address to save: an illegal instruction, an arithmetic fault, an access fault.
pub record ByVector (c : Cause) (v own : ℕ) (s : State) (r : Record) (t : State) : Type 0 where
  pub old_status : of_zero 14 t ≡ s.status
  pub old_location : of_zero 15 t ≡ own
  pub new_status : t.status ≡ full_at s.store v
  pub new_location : t.location ≡ counter (full_at s.store (v + 4))
  pub rest : LeavesRest c s t
  pub records : Records c own s r

-- A supervisor call with the number n and the address a.
pub record BySupervisor (n a : ℕ) (s : State) (r : Record) (t : State) : Type 0 where
  pub call_address : of_zero 13 t ≡ a
  pub old_status : of_zero 14 t ≡ s.status
  pub old_location : of_zero 15 t ≡ s.location
  pub new_status : t.status ≡ full_at s.store 0x98
  pub new_location : half_at s.store (0x9c + 2 * n) < 2 ^ 16 → t.location ≡ to_half (half_at s.store (0x9c + 2 * n))
  pub rest : LeavesRest SupervisorCall s t
  pub records : Records SupervisorCall s.location s r

-- The request of device n.
pub record ByDevice (n : ℕ) (s : State) (r : Record) (t : State) : Type 0 where
  pub old_status : of_zero 0 t ≡ s.status
  pub old_location : of_zero 1 t ≡ s.location
  pub device_number : of_zero 2 t ≡ n
  pub device_status : of_zero 3 t ≡ (s.bus n).status
  pub table_entry : of_zero 4 t ≡ half_at s.store (0xd0 + 2 * n)
  pub new_status : t.status ≡ 0x2800
  pub new_location : half_at s.store (0xd0 + 2 * n) < 2 ^ 16 → t.location ≡ to_half (half_at s.store (0xd0 + 2 * n))
  pub rest : LeavesRest DeviceRequest s t
  pub records : Records DeviceRequest s.location s r

-- The step took an interrupt, of which this is so.
abbrev pub Took : Ending → (Record → State → Type 0) → Type 0
Took (finished s) P = ⊥
Took (waiting s) P = ⊥
Took (took r t) P = P r t

-- What each interrupt does to a machine with all its registers. If requests are taken, a step takes that of the lowest device that
-- requests. Of an instruction that stood at own, an illegal one and one whose access is refused save its own address, the others the next.
-- None is taken, and nothing more changes, at an arithmetic fault that is not enabled, and after an instruction with no write to report.
pub record InterruptsInWords : Type 0 where
  pub device :
      (meaning : ℕ → Prog) (reply : Bus) (n : ℕ) (s : State) → length s.registers ≡ register_count → polls s.status ≡ true →
      IsLowestRequester s.bus n → Took (stepped meaning reply s) (ByDevice n s)
  pub supervisor_call :
      (own n a : ℕ) (s : State) → length s.registers ≡ register_count → Took (ended own (stopped (Supervisor n a) s)) (BySupervisor n a s)
  pub illegal :
      (own : ℕ) (s : State) → length s.registers ≡ register_count →
      Took (ended own (stopped Illegal s)) (ByVector IllegalInstruction 0x30 own s)
  pub arithmetic :
      (own : ℕ) (s : State) → length s.registers ≡ register_count → arithmetic_on s.status ≡ true →
      Took (ended own (stopped Arithmetic s)) (ByVector ArithmeticFault 0x48 s.location s)
  pub refused :
      (own : ℕ) (s : State) → length s.registers ≡ register_count →
      Took (ended own (stopped Refusal s)) (ByVector AccessFault 0x90 own s)
  pub reported :
      (own v : ℕ) (s : State) → length s.registers ≡ register_count → s.pending ≡ true →
      Took (ended own (went v s)) (ByVector AccessFault 0x90 s.location s)
  pub masked : (own : ℕ) (s : State) → arithmetic_on s.status ≡ false → ended own (stopped Arithmetic s) ≡ finished s
  pub unreported : (own v : ℕ) (s : State) → s.pending ≡ false → ended own (went v s) ≡ finished s
