use Rattle.std.proofs.Common.{◌≡◌, ◌≤◌, ◌-◌, length, take}
use Rattle.comparison.proofs.agreement.agreed.Given as goal

-- the answers so far are the same
abbrev pub invariant-loop-common : goal.invariant-loop-common
invariant-loop-common l =
    record {
      in_one : l.common ≤ length l.one;
      in_other : l.common ≤ length l.other;
      same : take l.common l.one ≡ take l.common l.other;
    }

abbrev pub decreases-loop-common : goal.decreases-loop-common
decreases-loop-common l = length l.one - l.common
