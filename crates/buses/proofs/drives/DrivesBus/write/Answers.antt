use Rattle.std.proofs.Common.{rules, arith}
use Rattle.buses.specs.Touches.{one_written}
use Rattle.buses.proofs.drives.DrivesBus.write.Goals as goal

pub returns-in-Some-clause-touches : goal.returns-in-Some-clause-touches
returns-in-Some-clause-touches c = one_written c.args.device c.args.byte (search rules) (omega (arith, c.ranges.byte)) (search rules)
