use Rattle.std.proofs.Common.{rules}
use Rattle.buses.specs.Touches.{by_write}
use Rattle.buses.proofs.teletype.TeletypeBus.write.Goals as goal

pub returns-clause-touches : goal.returns-clause-touches
returns-clause-touches c = by_write c.args.byte (search rules)
