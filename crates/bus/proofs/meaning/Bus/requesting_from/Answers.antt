use Rattle.std.proofs.Common.{rules}
use Rattle.model.proofs.Requests.{is_lowest, none_below_next}
use Rattle.bus.proofs.meaning.Bus.requesting_from.Goals as goal

pub returns-then-requests : goal.returns-then-requests
returns-then-requests g c = is_lowest _ _ (search rules)

-- the last device was asked too
pub returns-else-requests : goal.returns-else-requests
returns-else-requests g c = is_lowest _ _ (search (rules, none_below_next))
