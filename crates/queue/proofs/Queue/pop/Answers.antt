use Rattle.std.proofs.Common.{rules, ℕ, ◌≡◌, ◌-◌, ◌+◌, ◌%◌, length, sym, ap, ◌∙◌, arith}
use Rattle.queue.specs.Rows.{queued, capacity, first_slot}
use Rattle.queue.proofs.Rings.{held_length, held_pop, free_kept}
use Rattle.queue.proofs.Queue.pop.Goals as goal

pub returns-clause-popped : goal.returns-clause-popped
returns-clause-popped g c = search (rules, held_pop)

pub returns-clause-free : goal.returns-clause-free
returns-clause-free g c =
    let q = c.args.self.now in
    let waits = held_length q.slots.now q.head q.count in
    let left = held_length q.slots.now (c.place-at.result + 1) (c.len-n.result - 1) in
    let start : first_slot q ≡ c.start-i.result = sym c.start-i.ensures in
    let size : length (queued q) ≡ c.len-n.result = sym c.len-n.ensures in
    free_kept c.start-i.result c.len-n.result c.place-at.result (capacity q) _ (omega arith) (omega arith) c.place-at.ensures.inside c.place-at.ensures.turned (omega arith)
    ∙ sym (ap (λ (k : ℕ). (k + length (queued q)) % capacity q) start ∙ ap (λ (k : ℕ). (c.start-i.result + k) % capacity q) size)
