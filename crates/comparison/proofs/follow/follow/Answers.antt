use Rattle.std.proofs.Common.{◌≡◌, ◌≤◌, ◌+◌, ◌∙◌, length, ap, sym, arith, rules, vec_items, vec_len, vec_capacity}
use Rattle.bus.proofs.Touches.{becomes_same, becomes_then}
use Rattle.queue.proofs.Extensions.{extended_same, extended_twice}
use Rattle.comparison.specs.declared.sides.Answered.{Answered}
use Rattle.comparison.specs.Lists.{ends_interrupted}
use Rattle.comparison.proofs.Chains.{Noted, followed_start, followed_more, noted_behind, noted_after, noted_none}
use Rattle.comparison.proofs.follow.follow.Goals as goal
use Rattle.comparison.proofs.follow.follow.Goals.{in-None, in-Some, in-Some-2}

pub loop-asking-init : goal.loop-asking-init
loop-asking-init g c =
    let none = c.args.asked.unanswered in
    record {
      followed = followed_start _ c.args.asked.list.now _ _ _ none;
      part = omega (arith, ap length none);
      within = omega arith;
      room = search rules;
      touches = search (rules, becomes_same);
      same = search rules;
      extended = extended_same _;
    }

pub loop-asking-preserved : goal.loop-asking-preserved
loop-asking-preserved g c =
    let r = c.follow_one.result in
    let before = c.loop-asking.answered.answers in
    let now = c.match-follow_one.answered.answers in
    let ys = vec_items before in
    let zs = vec_items now in
    let step : Noted r ys (ends_interrupted ys) zs × (vec_len now ≤ vec_len before + 1) × (vec_capacity now ≡ vec_capacity before) =
    elim c.match-follow_one.branch [
      | in-None w ↦
          let same = ap (λ (a : Answered). a.answers) w.answered-is in
          (noted_none r ys zs w.in-None.is (ap vec_items same), omega (arith, ap vec_len same), ap vec_capacity same)
      | in-Some w ↦
          let same = ap (λ (a : Answered). a.answers) w.answered-is in
          (noted_after r _ ys zs w.in-Some.is (sym w.interrupted.ensures ∙ w.if-interrupted.true) (ap vec_items same), omega (arith, ap vec_len same), ap vec_capacity same)
      | in-Some-2 w ↦
          let same = ap (λ (a : Answered). a.answers) w.answered-is in
          (noted_behind r w.in-Some.field-0 ys zs w.in-Some.is (sym w.interrupted.ensures ∙ w.if-interrupted.false) (ap vec_items same ∙ w.push_reserved.ensures.items), omega (arith, ap vec_len same, w.push_reserved.ensures.len), ap vec_capacity same ∙ w.push_reserved.ensures.capacity)
    ] in
    let i = c.loop-asking.invariant in
    record {
      followed = search (rules, followed_more, step.0);
      part = omega (arith, step.1);
      within = omega arith;
      room = omega (arith, step.2);
      touches = search (rules, becomes_then);
      same = search rules;
      extended = extended_twice _ _ _ i.extended c.follow_one.ensures.extended;
    }
