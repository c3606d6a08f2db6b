use Rattle.std.proofs.Common.{◌∙◌, rules}
use Rattle.bus.proofs.Touches.{becomes_then}
use Rattle.queue.proofs.Extensions.{extended_twice, slots_extended}
use Rattle.comparison.proofs.Chains.{gone}
use Rattle.comparison.proofs.compare.go_through.Goals as goal

pub returns-clause-gone : goal.returns-clause-gone
returns-clause-gone g c = λ same.
    let queue = c.new-trace.ensures in
    let past = c.perform_all.ensures in
    let list = c.follow-answered.ensures in
    let slots = slots_extended _ _ _ queue.slots queue.first (extended_twice _ _ _ past.extended list.extended) in
    gone queue.room (past.same.size ∙ queue.room) c.make-machine.ensures.desk queue.empty same past.does list.does (search (rules, slots))

pub returns-clause-touches : goal.returns-clause-touches
returns-clause-touches g c =
    search (rules, becomes_then c.perform_all.ensures.touches c.follow-answered.ensures.touches, c.make-machine.ensures.bus)
