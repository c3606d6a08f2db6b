use Rattle.std.proofs.Common.{◌≡◌, ℕ, List, ◌++◌, replicate, ap₂, ◌∙◌}
use Rattle.queue.specs.Rows.{queued, capacity}
use Rattle.bus.specs.Devices.{silent}
use Rattle.outcome.specs.Outcomes.{left_by}
use Rattle.outcome.specs.Texts.{line_text}
use Rattle.outcome.proofs.Lines.{plays_anew}
use Rattle.outcome.proofs.trials.silent_line.Goals as goal

pub returns : goal.returns
returns c =
    let before = c.new-trace.result in
    let words = c.deref_mut.result.now in
    let zero : words ≡ replicate 32_768 0 = c.deref_mut.ensures.value ∙ c.in_ok-words.ensures.items_if_clones_equal (λ y e. e) in
    let left = left_by c.play_new-outcome.result c.play_new-outcome.new.trace in
    record {
      left = left;
      plays = plays_anew silent silent c.args.tape.now words (queued before) (capacity before) left zero c.new-trace.ensures.empty c.new-trace.ensures.room c.play_new-outcome.ensures.plays;
      text =
          c.in_ok-add_line.ensures
          ∙ ap₂ (λ (l : List ℕ) (digest : ℕ). l ++ line_text left.ending left.shown left.trace digest) c.new-line.ensures.items c.store_digest-digest.ensures;
    }
