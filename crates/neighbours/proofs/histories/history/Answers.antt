use Rattle.std.proofs.Common.{refl, arith}
use Rattle.neighbours.proofs.Deposits.{deposits_more}
use Rattle.neighbours.proofs.histories.history.Goals as goal

pub loop-word-preserved : goal.loop-word-preserved
loop-word-preserved c =
    let i = c.loop-word.invariant in
    record {
      deposited = deposits_more _ _ _ _ _ _ _ c.loop-word-test.true refl i.at i.deposited c.in_ok-push.ensures.items;
      at = omega (arith, i.at);
      within = omega arith;
    }
