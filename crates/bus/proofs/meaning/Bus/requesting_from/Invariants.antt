use Rattle.std.proofs.Common.{◌≤◌}
use Rattle.model.specs.Requests.{NoneBelow}
use Rattle.bus.proofs.meaning.Bus.requesting_from.Given as goal

-- no device that was passed requests
abbrev pub invariant-loop-device : goal.invariant-loop-device
invariant-loop-device g l = (1 ≤ l.device) × NoneBelow (g.Self.Bus.devices l.self) l.device
