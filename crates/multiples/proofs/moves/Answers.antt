use Rattle.std.proofs.Common.{◌≡◌, ◌+◌, ◌*◌, ◌-◌, ◌<◌, refl, rules, arith}
use Rattle.model.specs.Status.{address}
use Rattle.processor.specs.View.{state_of}
use Rattle.multiples.proofs.Counts.{moves_on, moves_stopped, moves_none, first_place, next_place}
use Rattle.multiples.proofs.moves.Goals as goal

pub loop-n-init : goal.loop-n-init
loop-n-init g c = (refl, λ reply. rw (first_place c.args.from.at c.args.r1 c.args.from.small))

pub returns-in_err-moved : goal.returns-in_err-moved
returns-in_err-moved g c =
    record {
      does =
          λ reply.
          let h : c.loop-n.n < 16 = omega arith in
          let at : c.plus.result.at ≡ address (c.args.from.at + 4 * (c.loop-n.n - c.args.r1)) = cc in
          let one = rw at at (c.moved.ensures.does reply) in
          let s = state_of g.S.Store.meaning g.B.Bus.devices c.loop-n.m in
          let t = state_of g.S.Store.meaning g.B.Bus.devices c.moved.new.m in
          let all = moves_stopped c.args.way c.loop-n.n _ reply s t c.in_err-moved.field-0.0 h (rw c.in_err-moved.was at one) in
          let rest = c.loop-n.invariant.1 reply in
          search rules;
      quiet = cc;
    }

pub loop-n-preserved : goal.loop-n-preserved
loop-n-preserved g c = (
  cc,
  λ reply.
      let h : c.loop-n.n < 16 = omega arith in
      let at : c.plus.result.at ≡ address (c.args.from.at + 4 * (c.loop-n.n - c.args.r1)) = cc in
      let one = rw at at (c.moved.ensures.does reply) in
      let s = state_of g.S.Store.meaning g.B.Bus.devices c.loop-n.m in
      let t = state_of g.S.Store.meaning g.B.Bus.devices c.moved.new.m in
      let on = moves_on c.args.way c.loop-n.n _ reply s t h (rw c.in_ok-moved.was at one) in
      let e = next_place c.args.from.at c.args.r1 c.loop-n.n (omega arith) in
      let left = rw e at on in
      let rest = c.loop-n.invariant.1 reply in
      search rules,
)

pub returns : goal.returns
returns g c =
    record {
      does =
          λ reply.
          let e = moves_none c.args.way c.loop-n.n (address (c.args.from.at + 4 * (c.loop-n.n - c.args.r1))) (omega arith) in
          let rest = rw e at (c.loop-n.invariant.1 reply) in
          search rules;
      quiet = cc;
    }
