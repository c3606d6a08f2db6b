use Rattle.std.proofs.Common.{refl}
use Rattle.model.proofs.Requests.{is_lowest}
use Rattle.bus.proofs.silent.SilentBusBus.requesting.Goals as goal

pub returns : goal.returns
returns c = is_lowest _ _ (λ j l m. refl)
