use Rattle.std.proofs.Common.{rules}
use Rattle.model.proofs.Requests.{is_lowest}
use Rattle.buses.proofs.drives.DrivesBus.requesting.Goals as goal

-- no drive requests
pub returns : goal.returns
returns c = is_lowest _ _ (λ j l m. search rules)
