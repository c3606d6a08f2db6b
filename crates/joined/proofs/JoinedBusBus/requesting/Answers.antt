use Rattle.std.proofs.Common.{Some, None, sym, ◌∙◌}
use Rattle.model.proofs.Requests.{is_lowest}
use Rattle.joined.proofs.Joins.{joined_quiet}
use Rattle.joined.proofs.JoinedBusBus.requesting.Goals as goal

pub returns-in_err-start : goal.returns-in_err-start
returns-in_err-start g c =
    let none = is_lowest _ None (joined_quiet _ _ _ _ None c.requesting.ensures c.requesting-2.ensures (sym c.in_err-start.was ∙ c.lower.ensures)) in
    c.from_residual.ensures ∙ none

pub requesting_from-requires : goal.requesting_from-requires
requesting_from-requires g c = joined_quiet _ _ _ _ (Some c.in_ok-start.start) c.requesting.ensures c.requesting-2.ensures (sym c.in_ok-start.was ∙ c.lower.ensures)
