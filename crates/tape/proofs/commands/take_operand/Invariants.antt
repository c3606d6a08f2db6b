use Rattle.std.proofs.Common.{◌≡◌, ◌^◌, ◌<◌}
use Rattle.tape.specs.Commands.{number_of}
use Rattle.tape.proofs.commands.take_operand.Given as goal

-- the number of the bytes so far
abbrev pub invariant-loop-byte : goal.invariant-loop-byte
invariant-loop-byte g l = (l.value ≡ number_of l.byte-index l.fn.bytes) × (l.value < 256 ^ l.byte-index)
