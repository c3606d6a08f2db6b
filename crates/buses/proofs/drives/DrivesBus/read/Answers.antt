use Rattle.std.proofs.Common.{rules}
use Rattle.buses.specs.Touches.{one_read}
use Rattle.buses.proofs.drives.DrivesBus.read.Goals as goal

pub returns-clause-touches : goal.returns-clause-touches
returns-clause-touches c = one_read c.args.device (search rules) (search rules)
