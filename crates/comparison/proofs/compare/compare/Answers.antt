use Rattle.std.proofs.Common.{rules}
use Rattle.model.proofs.Whole.{isolation}
use Rattle.comparison.proofs.Chains.{compared}
use Rattle.comparison.proofs.compare.compare.Goals as goal

pub returns-in_err-reserved-clause-law : goal.returns-in_err-reserved-clause-law
returns-in_err-reserved-clause-law g c = isolation

pub returns-in_err-other_reserved-clause-law : goal.returns-in_err-other_reserved-clause-law
returns-in_err-other_reserved-clause-law g c = isolation

pub returns-clause-law : goal.returns-clause-law
returns-clause-law g c = isolation

pub returns-clause-runs : goal.returns-clause-runs
returns-clause-runs g c = compared (c.go_through.ensures.gone (search rules)) (c.go_through-2.ensures.gone (search rules))
