-- The line of a trial, from what its tape leaves.
use Rattle.std.proofs.Common.{◌≡◌, ℕ, List, [], replicate, refl, ap, ◌∙◌, subst}
use Rattle.model.specs.declared.Record.{Record}
use Rattle.model.specs.Buses.{Bus}
use Rattle.session.specs.Sessions.{store_halfwords, trace_records}
use Rattle.session.proofs.Inputs.{halfwords_named, records_named}
use Rattle.outcome.specs.Outcomes.{Left, PlaysOn}
use Rattle.outcome.specs.Trials.{key_limit}

-- over words that are all 0, with an empty trace
pub plays_anew :
    (b c : Bus) (tape words : List ℕ) (before : List Record) (cap : ℕ) (left : Left) → words ≡ replicate 32_768 0 → before ≡ [] → cap ≡ 64 →
    PlaysOn b cap tape words before left c → PlaysOn b trace_records tape (replicate store_halfwords 0) [] left c
plays_anew b c tape words before cap left zero empty size plays =
    subst (λ (n : ℕ). PlaysOn b n tape (replicate store_halfwords 0) [] left c) (size ∙ records_named)
    (subst (λ (l : List Record). PlaysOn b cap tape (replicate store_halfwords 0) l left c) empty
    (subst (λ (l : List ℕ). PlaysOn b cap tape l before left c) (zero ∙ ap (λ (n : ℕ). replicate n 0) halfwords_named) plays))

pub keys_named : 64 ≡ key_limit
unfolding key_limit
keys_named = refl
