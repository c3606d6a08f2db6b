use Rattle.std.proofs.Common.{ℕ, ◌≡◌, ◌<◌, length, get_or, take, MatchOption, Some, None, ap, ◌∙◌, arith}
use Rattle.std.specs.Int.{w32, from_be_bytes}
use Rattle.std.specs.List.{IsSplitAt}
use Rattle.outcome.specs.Trials.{BeginsWithBytes, HasNoBytes}
use Rattle.outcome.proofs.TrialBytes.{cut_short, behind}
use Rattle.outcome.proofs.trials.next_bytes.Goals as goal

pub returns : goal.returns
returns c =
    let input = c.args.input.now in
    let rest = c.in_ok-length.rest.now in
    let n = c.from_be_bytes.result in
    let first = c.in_ok-length.ensures.cases in
    let read : n ≡ from_be_bytes w32 (take 4 input) = c.from_be_bytes.ensures ∙ ap (from_be_bytes w32) first.0 in
    let fits : (i : ℕ) → get_or input i 0 < 256 = λ i. omega (arith, c.type_inv.input i) in
    elim c.split_at_checked.result as (λ o.
    MatchOption o (length rest < n) (λ p. IsSplitAt rest n p.0.now p.1.now) →
    MatchOption o (HasNoBytes input) (λ p. BeginsWithBytes input p.0.now p.1.now)) [
      | None ↦ λ short. cut_short input rest n read first.2 short
      | Some p ↦ λ at. behind input rest p.0.now p.1.now n fits c.from_be_bytes.type_inv read first.1 first.2 at.1 at.2 at.3
    ] c.split_at_checked.ensures.cases
