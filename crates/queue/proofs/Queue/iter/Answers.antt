use Rattle.std.proofs.Common.{rules, arith, length-take}
use Rattle.queue.proofs.Rings.{held_length, held_parts}
use Rattle.queue.proofs.Queue.iter.Goals as goal

pub slice_bounds-result-length : goal.slice_bounds-result-length
slice_bounds-result-length g c = simp length-take (omega (arith, held_length c.args.self.now.slots.now c.args.self.now.head c.args.self.now.count))

pub returns : goal.returns
returns g c = search (rules, held_parts)
