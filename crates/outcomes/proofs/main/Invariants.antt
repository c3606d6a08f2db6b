use Rattle.std.proofs.Common.{length}
use Rattle.outcomes.proofs.main.Given as goal

abbrev pub decreases-loop-trial : goal.decreases-loop-trial
decreases-loop-trial l = length l.rest
