use Rattle.std.proofs.Common.{rules, ◌≡◌, ◌∷◌}
use Rattle.outcome.specs.Trials.{HasNoBytes, HasNoTrial, BeginsWithBytes}
use Rattle.outcome.proofs.TrialBytes.{keys_alone}
use Rattle.outcome.proofs.trials.next_trial.Goals as goal

pub returns-in_err-tape-in-68-clause-read : goal.returns-in_err-tape-in-68-clause-read
returns-in_err-tape-in-68-clause-read c =
    let first : c.args.input.now ≡ 68 ∷ c.in_ok-letter.rest.now = search rules in
    let found : BeginsWithBytes c.in_ok-letter.rest.now c.in_ok-keys-in-68.keys.now c.in_ok-keys-in-68.rest.now = search rules in
    let none : HasNoBytes c.in_ok-keys-in-68.rest.now = search rules in
    let nothing : HasNoTrial c.args.input.now = keys_alone _ _ _ _ first found none in
    search (rules, nothing)
