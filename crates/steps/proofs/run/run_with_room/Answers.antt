use Rattle.std.proofs.Common.{rules}
use Rattle.bus.proofs.Touches.{becomes_same, becomes_then}
use Rattle.queue.proofs.Extensions.{extended_same, extended_twice}
use Rattle.steps.proofs.Chains.{no_steps, one_more, all_made}
use Rattle.steps.proofs.run.run_with_room.Goals as goal

pub loop-steps-init : goal.loop-steps-init
loop-steps-init g c = search (rules, no_steps, extended_same, becomes_same)

pub loop-steps-preserved : goal.loop-steps-preserved
loop-steps-preserved g c = search (rules, one_more, extended_twice, becomes_then)

pub returns : goal.returns
returns g c = search (rules, all_made, extended_twice, becomes_then)
