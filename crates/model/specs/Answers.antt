-- The numbers of denials, step answers, run reasons and key positions, and what a call answers.
use Rattle.std.specs.Prelude.{ℕ, Bool, true, false, Option}
use Rattle.model.specs.declared.Cause.{Cause}
use Rattle.model.specs.declared.Cause.TheVariants.{IllegalInstruction, ArithmeticFault, AccessFault, SupervisorCall, DeviceRequest}
use Rattle.model.specs.declared.StepAnswer.{StepAnswer}
use Rattle.model.specs.declared.StepAnswer.TheVariants.{Done, Waiting, Interrupted}
use Rattle.model.specs.declared.Reason.{Reason}
use Rattle.model.specs.declared.Reason.TheVariants.{Waited, Filled, Counted}
use Rattle.model.specs.declared.Denial.{Denial}
use Rattle.model.specs.declared.Denial.TheVariants.{NoPlace, FixedPlace, NoRegister, OutOfRange, UnknownLetter, CutShort, KeyOff, KeyLocked, TraceFull}

abbrev pub number : Denial → ℕ
number NoPlace = 1
number FixedPlace = 2
number NoRegister = 3
number OutOfRange = 4
number UnknownLetter = 5
number CutShort = 6
number KeyOff = 7
number KeyLocked = 8
number TraceFull = 9

abbrev pub cause_number : Cause → ℕ
cause_number IllegalInstruction = 2
cause_number ArithmeticFault = 3
cause_number AccessFault = 4
cause_number SupervisorCall = 5
cause_number DeviceRequest = 6

abbrev pub step_number : StepAnswer → ℕ
step_number Done = 0
step_number Waiting = 1
step_number (Interrupted c) = cause_number c

abbrev pub reason_number : Reason → ℕ
reason_number Waited = 0
reason_number Filled = 1
reason_number Counted = 2

-- Key positions.
abbrev pub off : ℕ
off = 0

abbrev pub on : ℕ
on = 1

abbrev pub lock : ℕ
lock = 2

-- What a call answers: the number of its denial, nothing more than that it is done, a number shown, what a step answers, the
-- steps that a run made and why it stopped, the commands that a tape had obeyed, or the number, the place and the letter of
-- a tape's fault.
pub data Answer : Type 0 where
  denied : ℕ → Answer
  done : Answer
  shown : ℕ → Answer
  stepped : StepAnswer → Answer
  ran : ℕ → Reason → Answer
  played : ℕ → Answer
  faulted : ℕ → ℕ → Option ℕ → Answer

-- A call is accepted if it is not denied.
abbrev pub accepted : Answer → Bool
accepted (denied n) = false
accepted done = true
accepted (shown n) = true
accepted (stepped a) = true
accepted (ran n r) = true
accepted (played n) = true
accepted (faulted n place letter) = true
