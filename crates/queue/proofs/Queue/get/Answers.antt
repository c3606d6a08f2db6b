use Rattle.std.proofs.Common.{rules}
use Rattle.queue.proofs.Rings.{held_at}
use Rattle.queue.proofs.Queue.get.Goals as goal

pub returns : goal.returns
returns g c = search (rules, held_at)
