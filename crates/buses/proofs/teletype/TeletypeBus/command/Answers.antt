use Rattle.std.proofs.Common.{rules}
use Rattle.buses.specs.Touches.{by_command}
use Rattle.buses.proofs.teletype.TeletypeBus.command.Goals as goal

pub returns-clause-touches : goal.returns-clause-touches
returns-clause-touches c = by_command c.args.byte (search rules)
