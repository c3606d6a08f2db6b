use Rattle.std.proofs.Common.{◌≡◌, ℕ, replicate, take, subst, ◌∙◌}
use Rattle.session.specs.Sessions.{PlaysToLine}
use Rattle.session.proofs.Inputs.{left, bytes_named, halfwords_named, records_named}
use Rattle.session.proofs.session.play_input.Goals as goal

pub returns : goal.returns
returns c =
    let input = c.args.input.now in
    let played = c.play_to_line.ensures in
    let zero : c.deref_mut.result.now ≡ replicate 32_768 0 = c.deref_mut.ensures.value ∙ c.in_ok-words.ensures.items_if_clones_equal (λ y e. e) in
    let plays = subst (λ (k : ℕ). PlaysToLine 64 (take k input) c.deref_mut.result.now c.play_to_line.result.line played.after played.trace) c.min.ensures played.plays in
    left input c.deref_mut.result.now c.play_to_line.result.line 65_536 32_768 64 played.after played.trace bytes_named halfwords_named records_named zero plays
