use Rattle.std.proofs.Common.{rules}
use Rattle.queue.proofs.Rings.{held_push, turned_push, taken_push}
use Rattle.queue.proofs.Extensions.{extended_same}
use Rattle.queue.proofs.Queue.push.Goals as goal

pub returns-clause-pushed : goal.returns-clause-pushed
returns-clause-pushed g c = search (rules, held_push)

pub returns-then-n-self-clause-extended : goal.returns-then-n-self-clause-extended
returns-then-n-self-clause-extended g c = extended_same c.args.self.now

pub returns-clause-extended : goal.returns-clause-extended
returns-clause-extended g c =
    record {
      first = search rules;
      front = search (rules, taken_push);
      slots = search (rules, turned_push);
    }
