use Rattle.std.proofs.Common.{◌≡◌, ◌+◌, ◌≤◌, ◌∙◌, None, Some, inr, arith, rules, refl, sym}
use Rattle.queue.specs.Rows.{queued, capacity}
use Rattle.queue.proofs.Extensions.{extended_same, extended_twice}
use Rattle.model.specs.declared.Reason.TheVariants.{Counted}
use Rattle.model.specs.Answers.{number}
use Rattle.instructions.specs.Instructions.{instruction}
use Rattle.console.specs.View.{desk_of}
use Rattle.bench.specs.Loops.{start_denial, NotStarted}
use Rattle.bench.proofs.Chains.{none_yet, one_run, last_run, first_turn, at_start, denied_start, begun_start, next_start}
use Rattle.bench.proofs.loops.run_on.Goals as goal

pub loop-made-init : goal.loop-made-init
loop-made-init g c =
    record {
      within = omega arith;
      key = refl;
      goes = none_yet instruction _ _ _;
      before = λ _. (refl, refl);
      started = λ later. absurd (omega arith);
      free = λ later. absurd (omega arith);
      same = search rules;
      extended = extended_same _;
    }

pub loop-made-preserved : goal.loop-made-preserved
loop-made-preserved g c =
    let i = c.loop-made.invariant in
    let cap = capacity c.args.trace.now in
    let w = desk_of g.S.Store.meaning g.B.Bus.devices c.loop-made.machine in
    let is : c.in_ok-run.run'.reason ≡ Counted = search (rules, c.ne.ensures, c.if-ne.false) in
    let run = one_run instruction c.in_ok-run.ensures.splits _ _ _ _ _ _ _ _ _ _ _ _ _ i.same.size is i.key i.goes c.in_ok-run.ensures.says in
    let low : 1 ≤ c.min.result = omega (arith, c.min.ensures) in
    let high : c.min.result ≤ 1_000_000 = omega (arith, c.min.ensures) in
    let here : start_denial cap w (queued c.loop-made.trace) ≡ None = begun_start instruction cap _ c.min.result _ _ w _ _ _ i.same.size low high c.in_ok-run.ensures.says in
    record {
      within = omega (arith, i.within, c.min.ensures, run.1);
      key = run.0;
      goes = run.3;
      before = λ none. absurd (omega (arith, run.2));
      started = λ _. at_start (λ m t. start_denial cap (desk_of g.S.Store.meaning g.B.Bus.devices m) (queued t) ≡ None) _ i.before i.started here;
      free = λ _. next_start instruction _ _ _ _ _ _ _ _ _ _ i.same.size is here c.in_ok-run.ensures.says;
      same = search rules;
      extended = extended_twice _ _ _ i.extended c.in_ok-run.ensures.extended;
    }

pub returns-then-ne-clause-runs : goal.returns-then-ne-clause-runs
returns-then-ne-clause-runs g c =
    let i = c.loop-made.invariant in
    let cap = capacity c.args.trace.now in
    let w = desk_of g.S.Store.meaning g.B.Bus.devices c.loop-made.machine in
    let within : c.loop-made.made + c.min.result ≤ c.args.count = omega (arith, i.within, c.min.ensures) in
    let low : 1 ≤ c.min.result = omega (arith, c.min.ensures) in
    let high : c.min.result ≤ 1_000_000 = omega (arith, c.min.ensures) in
    let here : start_denial cap w (queued c.loop-made.trace) ≡ None = begun_start instruction cap _ c.min.result _ _ w _ _ _ i.same.size low high c.in_ok-run.ensures.says in
    let run = last_run instruction c.in_ok-run.ensures.splits _ _ _ _ _ _ _ _ _ _ _ _ _ _ i.same.size (λ e. search (rules, e, c.ne.ensures, c.if-ne.true)) within i.key i.goes c.in_ok-run.ensures.says in
    record {
      starts = λ _. at_start (λ m t. start_denial cap (desk_of g.S.Store.meaning g.B.Bus.devices m) (queued t) ≡ None) _ i.before i.started here;
      key = run.0;
      goes = inr (c.in_ok-run.run'.reason, run.1);
    }

pub returns-then-ne-clause-extended : goal.returns-then-ne-clause-extended
returns-then-ne-clause-extended g c = extended_twice _ _ _ c.loop-made.invariant.extended c.in_ok-run.ensures.extended

pub returns-in_err-run : goal.returns-in_err-run
returns-in_err-run g c =
    let i = c.loop-made.invariant in
    let cap = capacity c.args.trace.now in
    let w = desk_of g.S.Store.meaning g.B.Bus.devices c.loop-made.machine in
    let low : 1 ≤ c.min.result = omega (arith, c.min.ensures) in
    let high : c.min.result ≤ 1_000_000 = omega (arith, c.min.ensures) in
    let d = c.in_err-run.field-0.0 in
    let here : start_denial cap w (queued c.loop-made.trace) ≡ Some (number d) = denied_start instruction cap _ c.min.result _ w _ _ _ i.same.size low high c.in_err-run.ensures.says in
    let first : c.loop-made.made ≡ 0 = first_turn _ (λ later. let e : Some (number d) ≡ None = sym here ∙ i.free later in absurd (cc)) in
    let why : start_denial cap (desk_of g.S.Store.meaning g.B.Bus.devices c.args.machine.now) (queued c.args.trace.now) ≡ Some (number d) =
    at_start (λ m t. start_denial cap (desk_of g.S.Store.meaning g.B.Bus.devices m) (queued t) ≡ Some (number d)) 0 (λ _. i.before first) (λ later. absurd (omega arith)) here in
    let refused : NotStarted cap c.args.count (desk_of g.S.Store.meaning g.B.Bus.devices c.args.machine.now) (queued c.args.trace.now) (number d) =
    record { asked = omega (arith, c.loop-made-test.true); why = why } in
    let machine : c.run.new.self ≡ c.args.machine.now = c.in_err-run.ensures.denied ∙ (i.before first).0 in
    let trace : c.run.new.trace ≡ c.args.trace.now = c.in_err-run.ensures.denied_trace ∙ (i.before first).1 in
    record {
      runs = search (rules, refused);
      denied = search (rules, machine);
      denied_trace = search (rules, trace);
      same = search rules;
      extended = extended_twice _ _ _ i.extended c.in_err-run.ensures.extended;
    }
