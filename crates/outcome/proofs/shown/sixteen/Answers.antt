use Rattle.std.proofs.Common.{rules, ◌≡◌, ℕ, ◌+◌, ◌<◌, length, map, take, set, sym, ◌∙◌, subst, arith}
use Rattle.std.specs.List.{range_with_len}
use Rattle.model.specs.Console.{item_of}
use Rattle.console.specs.View.{desk_of}
use Rattle.outcome.specs.Shown.{register}
use Rattle.outcome.proofs.Banks.{there, one_more}
use Rattle.outcome.proofs.shown.sixteen.Goals as goal

pub loop-number-preserved : goal.loop-number-preserved
loop-number-preserved g c =
    let values = c.loop-number.values in
    let k = c.loop-number.number in
    let v = c.number_in.result in
    let before = c.args.machine.now in
    let f : ℕ → ℕ = λ number. item_of (register c.args.bank number) (desk_of g.S.Store.meaning g.B.Bus.devices before).core in
    let stays : c.loop-number.machine ≡ before = c.loop-number.invariant.0 in
    let full : length values ≡ 16 = c.loop-number.invariant.1 in
    let at : c.from.result ≡ k = search rules in
    let below : k < 16 = omega arith in
    let less : k < length values = omega (arith, below, full) in (
      c.number_in.ensures.same ∙ stays,
      search (rules, full),
      λ key.
          let here : v ≡ f k = search (rules, key, stays, there c.args.bank k below, c.number_in.ensures.found, c.register.ensures) in
          subst (λ (i : ℕ). take (k + 1) (set values i v) ≡ map f (range_with_len 0 (k + 1))) (sym at) (one_more f values k v less (c.loop-number.invariant.2 key) here),
    )
