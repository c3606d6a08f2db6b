use borrow.Author.Rules.{rules}
use Rattle.instructions.specs.Instructions.{memory_body}
use Rattle.instructions.proofs.Halfwords.{indexed_parts}
use Rattle.instructions.proofs.memory.memory_body.Goals as goal

pub returns-clause-does : goal.returns-clause-does
unfolding memory_body
returns-clause-does g c =
    let t = rw c.in_ok-parts.ensures.ok_part at c.take_apart.ensures in
    let p = indexed_parts c.args.first c.in_ok-second.second c.in_ok-third.third c.in_ok-third.ensures.absent t in
    let e = rw (p.0, p.1, p.2) at c.addressed.ensures.does in
    search rules
