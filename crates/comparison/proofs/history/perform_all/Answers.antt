use Rattle.std.proofs.Common.{rules}
use Rattle.std.proofs.lemmas.List.{take_all}
use Rattle.bus.proofs.Touches.{becomes_same, becomes_then}
use Rattle.queue.proofs.Extensions.{extended_same, extended_twice}
use Rattle.comparison.proofs.Chains.{performs_start, performs_more}
use Rattle.comparison.proofs.history.perform_all.Goals as goal

pub loop-call-init : goal.loop-call-init
loop-call-init g c = search (rules, performs_start, extended_same, becomes_same)

pub loop-call-preserved : goal.loop-call-preserved
loop-call-preserved g c = search (rules, performs_more, extended_twice, becomes_then)

pub returns : goal.returns
returns g c = search (rules, take_all)
