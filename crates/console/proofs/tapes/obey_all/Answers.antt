use Rattle.std.proofs.Common.{◌≡◌, ◌-◌, ◌≤◌, length, get_or, Some, sym, ap, subst, arith, rules}
use Rattle.bus.proofs.Touches.{becomes_same, becomes_then}
use Rattle.queue.specs.Rows.{queued, capacity}
use Rattle.queue.proofs.Extensions.{extended_same, extended_twice}
use Rattle.model.specs.Answers.{number, Answer, faulted}
use Rattle.model.specs.Tapes.{spell, Playing}
use Rattle.instructions.specs.Instructions.{instruction}
use Rattle.console.specs.Tape.{on_desk, played_by}
use Rattle.std.proofs.lemmas.Result.{MatchResult-at_ok, MatchResult-at_err, IfOk-at_ok}
use Rattle.console.proofs.TapeCalls.{mapped_ok, mapped_err, front, to_the_end, to_a_stop, to_the_next}
use Rattle.console.proofs.tapes.obey_all.Goals as goal

pub returns-in_err-next-clause-played : goal.returns-in_err-next-clause-played
returns-in_err-next-clause-played g c =
    let inv = c.loop-rest.invariant in
    let some : 1 ≤ length c.loop-rest.rest.now = search rules in
    let m = mapped_err _ c.obey_next.result c.map_err.result c.in_err-next.field-0.0 c.map_err.ensures.cases (c.in_err-next.was {u = tt}) in
    let z = m.2 in
    let rest = c.loop-rest.rest.now in
    let place = length c.args.tape.now - length rest in
    let y = faulted (number m.0) place (Some (get_or rest 0 0)) in
    let w = on_desk g.S.Store.meaning g.B.Bus.devices c.obey_next.new.core in
    let q = queued c.obey_next.new.trace in
    let e : played_by c.from_residual.result ≡ y = search (rules, z) in
    subst (λ (x : Answer). Playing instruction (capacity c.args.trace.now) (spell c.args.tape.now) 0 (on_desk g.S.Store.meaning g.B.Bus.devices c.args.core.now) (queued c.args.trace.now) x w q) (sym e)
    (to_a_stop instruction _ _ _ _ rest place c.loop-rest.address c.loop-rest.obeyed _ _ _ _ _ y w q inv.goes inv.same.size (front rest some) (MatchResult-at_err _ _ m.0 m.1 c.obey_next.ensures.does place))

pub loop-rest-preserved : goal.loop-rest-preserved
loop-rest-preserved g c =
    let inv = c.loop-rest.invariant in
    let rest = c.loop-rest.rest.now in
    let some : 1 ≤ length rest = search rules in
    let m = mapped_ok _ c.obey_next.result c.map_err.result c.in_ok-next.next c.map_err.ensures.cases (c.in_ok-next.was {u = tt}) in
    let one = MatchResult-at_ok _ _ _ m c.obey_next.ensures.does in
    let shorter = IfOk-at_ok _ m c.obey_next.ensures.shorter in
    let e = front rest some in
    record {
      goes = to_the_next instruction _ _ _ _ rest _ c.loop-rest.address c.loop-rest.obeyed _ _ _ _ _ _ _ _ _ _ _ inv.goes inv.same.size e (omega (arith, ap length e, shorter, inv.part)) (one _);
      part = omega (arith, shorter, ap length e, inv.part);
      touches = search (rules, becomes_then);
      same = search rules;
      extended = search (rules, extended_twice);
    }

pub returns-clause-played : goal.returns-clause-played
returns-clause-played g c =
    to_the_end instruction _ _ _ _ c.loop-rest.rest.now _ c.loop-rest.address c.loop-rest.obeyed _ _ c.loop-rest.invariant.goes (search rules)

pub returns-in_err-next-clause-extended : goal.returns-in_err-next-clause-extended
returns-in_err-next-clause-extended g c = search (rules, extended_twice)

pub loop-rest-init : goal.loop-rest-init
loop-rest-init g c =
    record {
      goes = search rules;
      part = search rules;
      touches = search (rules, becomes_same);
      same = search rules;
      extended = extended_same _;
    }
