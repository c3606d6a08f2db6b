-- A denial and the cause of an interrupt, in words.
use Rattle.std.specs.Prelude.{ℕ, List, codes}
use Rattle.model.specs.declared.Cause.{Cause}
use Rattle.model.specs.declared.Cause.TheVariants.{IllegalInstruction, ArithmeticFault, AccessFault, SupervisorCall, DeviceRequest}
use Rattle.model.specs.declared.Denial.{Denial}
use Rattle.model.specs.declared.Denial.TheVariants.{NoPlace, FixedPlace, NoRegister, OutOfRange, UnknownLetter, CutShort, KeyOff, KeyLocked, TraceFull}

abbrev pub denial_words : Denial → List ℕ
denial_words NoPlace = codes "no such place in the store"
denial_words FixedPlace = codes "the place is fixed"
denial_words NoRegister = codes "no such register"
denial_words OutOfRange = codes "the number is out of range"
denial_words UnknownLetter = codes "the letter is unknown"
denial_words CutShort = codes "the operand is cut short"
denial_words KeyOff = codes "the key is OFF"
denial_words KeyLocked = codes "the key is at LOCK"
denial_words TraceFull = codes "the trace is full"

abbrev pub cause_words : Cause → List ℕ
cause_words IllegalInstruction = codes "illegal instruction"
cause_words ArithmeticFault = codes "arithmetic fault"
cause_words AccessFault = codes "access fault"
cause_words SupervisorCall = codes "supervisor call"
cause_words DeviceRequest = codes "device request"
