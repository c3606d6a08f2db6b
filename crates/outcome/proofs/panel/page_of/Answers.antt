use Rattle.std.proofs.Common.{◌≡◌, ℕ, List, [], ◌++◌, replicate, ap, subst, ◌∙◌}
use Rattle.queue.specs.Rows.{queued, capacity}
use Rattle.bus.specs.Devices.{silent}
use Rattle.session.specs.Sessions.{store_halfwords, trace_records}
use Rattle.outcome.specs.Outcomes.{PlaysOn, left_by}
use Rattle.outcome.specs.PanelTexts.{page_text}
use Rattle.outcome.proofs.Lines.{plays_anew}
use Rattle.outcome.proofs.Pages.{tape_of}
use Rattle.outcome.proofs.panel.page_of.Goals as goal

pub returns : goal.returns
returns c =
    let input = c.args.input.now in
    let before = c.new-trace.result in
    let words = c.deref_mut.result.now in
    let zero : words ≡ replicate 32_768 0 = c.deref_mut.ensures.value ∙ c.in_ok-words.ensures.items_if_clones_equal (λ y e. e) in
    let left = left_by c.play_new-outcome.result c.play_new-outcome.new.trace in
    let anew = plays_anew silent silent _ words (queued before) (capacity before) left zero c.new-trace.ensures.empty c.new-trace.ensures.room c.play_new-outcome.ensures.plays in
    record {
      left = left;
      plays = subst (λ (tape : List ℕ). PlaysOn silent trace_records tape (replicate store_halfwords 0) [] left silent) (tape_of c.min.result input c.min.ensures) anew;
      text = c.in_ok-add_page.ensures ∙ ap (λ (l : List ℕ). l ++ page_text left.ending left.shown left.trace left.words) c.new-page.ensures.items;
    }
