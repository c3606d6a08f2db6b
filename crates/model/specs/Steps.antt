-- A step: a device's request, or a wait, or one instruction with the interrupt that it takes.
use Rattle.std.specs.Prelude.{ℕ, ◌+◌, ◌*◌, false, cond, List, [], ◌∷◌, ◌++◌, Some, None, Option, slice_set}
use Rattle.model.specs.declared.Trap.TheVariants.{Illegal, Arithmetic, Refusal, Supervisor}
use Rattle.model.specs.declared.Cause.{Cause}
use Rattle.model.specs.declared.Cause.TheVariants.{IllegalInstruction, ArithmeticFault, AccessFault, SupervisorCall, DeviceRequest}
use Rattle.model.specs.declared.Record.{Record}
use Rattle.model.specs.declared.StepAnswer.{StepAnswer}
use Rattle.model.specs.declared.StepAnswer.TheVariants.{Done, Waiting, Interrupted}
use Rattle.model.specs.Stores.{half_at, full_at}
use Rattle.model.specs.Buses.{Bus, lowest}
use Rattle.model.specs.States.{State, with_status, with_location, with_pending, with_registers}
use Rattle.model.specs.Status.{waits, polls, arithmetic_on, slot, counter}
use Rattle.model.specs.Effects.{Out, went, stopped, Prog, get_location, fetch, seq, run}

-- How a step ends: it is done, it waits, or it took an interrupt, of which there is a record.
pub data Ending : Type 0 where
  finished : State → Ending
  waiting : State → Ending
  took : Record → State → Ending

-- The record of an interrupt: its cause, the status and the address that it saves, and the interrupt status.
abbrev pub recorded : Cause → ℕ → State → Record
recorded c own s = record { cause = c; status = s.status; location = own; faults = s.faults }

-- Register n of set 0 takes the number v.
abbrev pub into_zero : ℕ → ℕ → List ℕ → List ℕ
into_zero n v registers = slice_set registers (slot 0 n) v

-- Status and address go to registers 14 and 15 of set 0.
abbrev pub saved : ℕ → ℕ → List ℕ → List ℕ
saved status own registers = into_zero 15 own (into_zero 14 status registers)

-- A PSW is loaded: all its status bits, and the low 20 bits of the counter, the last cleared.
abbrev pub loaded : ℕ → ℕ → List ℕ → State → State
loaded status location registers s = with_status status (with_location (counter location) (with_registers registers s))

-- An interrupt by way of the PSW at the real address v.
abbrev pub interrupted : Cause → ℕ → ℕ → State → Ending
interrupted c v own s =
    took (recorded c own s) (loaded (full_at s.store v) (full_at s.store (v + 4)) (saved s.status own s.registers) s)

-- A supervisor call with the number n and the address a: register 13 of set 0 takes the address; the new status is at X'98',
-- and the new Location Counter the n-th halfword from X'9C' on.
abbrev pub supervised : ℕ → ℕ → State → Ending
supervised n a s =
    took (recorded SupervisorCall s.location s)
    (loaded (full_at s.store 0x98) (half_at s.store (0x9c + 2 * n)) (saved s.status s.location (into_zero 13 a s.registers)) s)

-- The request of device n: registers 0 to 4 of set 0 take the old PSW, the device's number and status, and the halfword at
-- X'D0' plus twice the number, which becomes the Location Counter.
abbrev pub requested : ℕ → State → Ending
requested n s =
    let h = half_at s.store (0xd0 + 2 * n) in
    took (recorded DeviceRequest s.location s)
    (loaded 0x2800 h (into_zero 4 h (into_zero 3 (s.bus n).status (into_zero 2 n (into_zero 1 s.location (into_zero 0 s.status s.registers))))) s)

-- The interrupt that follows an instruction, which stood at own. Illegal and abandoned ones save their own address, the others
-- the next. An arithmetic fault that is not enabled changes nothing more.
abbrev pub ended : ℕ → Out → Ending
ended own (went v s) = cond s.pending (interrupted AccessFault 0x90 s.location s) (finished s)
ended own (stopped Illegal s) = interrupted IllegalInstruction 0x30 own s
ended own (stopped Arithmetic s) = cond (arithmetic_on s.status) (interrupted ArithmeticFault 0x48 s.location s) (finished s)
ended own (stopped Refusal s) = interrupted AccessFault 0x90 own s
ended own (stopped (Supervisor n a) s) = supervised n a s

-- The device whose request is taken first: the lowest, if requests are taken.
abbrev pub poll : State → Option ℕ
poll s = cond (polls s.status) (lowest s.bus) None

-- What an instruction does is given by its first halfword.
module _ (meaning : ℕ → Prog) where
  abbrev pub cycle : Prog
  cycle = seq get_location (λ own. seq (fetch own) meaning)

  -- A step in which no device is taken.
  abbrev pub proceeded : Bus → State → Ending
  proceeded reply s = cond (waits s.status) (waiting s) (ended s.location (run reply cycle (with_pending false s)))

  abbrev pub served : Bus → Option ℕ → State → Ending
  served reply (Some n) s = requested n s
  served reply None s = proceeded reply s

  abbrev pub stepped : Bus → State → Ending
  stepped reply s = served reply (poll s) s

-- An ending as a caller has it: the answer, the state, and the trace with the record of an interrupt behind it.
pub data Over : Type 0 where
  over : StepAnswer → State → List Record → Over

abbrev pub over_with : List Record → Ending → Over
over_with q (finished s) = over Done s q
over_with q (waiting s) = over Waiting s q
over_with q (took r s) = over (Interrupted r.cause) s (q ++ r ∷ [])
