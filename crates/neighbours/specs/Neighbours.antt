-- The histories of the two machines, what is shown of a machine afterwards, and answers in words.
use Rattle.std.specs.Prelude.{◌≡◌, ℕ, ◌+◌, List, [], ◌∷◌, ◌++◌, codes}
use Rattle.model.specs.declared.Cause.{Cause}
use Rattle.model.specs.declared.Cause.TheVariants.{IllegalInstruction, ArithmeticFault, AccessFault, SupervisorCall, DeviceRequest}
use Rattle.model.specs.declared.StepAnswer.{StepAnswer}
use Rattle.model.specs.declared.StepAnswer.TheVariants.{Done, Waiting, Interrupted}
use Rattle.comparison.specs.declared.calls.Call.{Call}
use Rattle.comparison.specs.declared.calls.Call.TheVariants.{Deposit}

-- A deposit for each halfword, the first at real address a.
abbrev pub deposits : ℕ → List ℕ → List Call
deposits a [] = []
deposits a (h ∷ hs) = Deposit a h ∷ deposits (a + 2) hs

-- A program deposited from real address a on, then the calls for its neighbours, then its beginning.
abbrev pub history : ℕ → List ℕ → List Call → List Call → List Call
history a program neighbours beginning = deposits a program ++ neighbours ++ beginning

-- The word for an answer.
abbrev pub word_of_cause : Cause → List ℕ
word_of_cause IllegalInstruction = codes "illegal"
word_of_cause ArithmeticFault = codes "arithmetic"
word_of_cause AccessFault = codes "access"
word_of_cause SupervisorCall = codes "supervisor"
word_of_cause DeviceRequest = codes "device"

abbrev pub word_of : StepAnswer → List ℕ
word_of Done = codes "done"
word_of Waiting = codes "waiting"
word_of (Interrupted c) = word_of_cause c
