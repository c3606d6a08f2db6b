use Rattle.std.proofs.Common.{◌≡◌, ◌≤◌, ◌∙◌, sym, ap, List, ℕ, length, arith}
use Rattle.model.specs.Stores.{store_limit}
use Rattle.store.specs.Boards.{core_boards, boards_after}
use Rattle.store.proofs.Limits.{boards_stored, boards_told_apart_lem, length_after}
use Rattle.stores_test.proofs.lent.send_to_words.Goals as goal

pub returns : goal.returns
returns c =
    let before = c.new-boards.result.words.now in
    let after = boards_after before c.args.place c.args.word in
    let many : length after ≤ store_limit = omega (arith, length_after before c.args.place c.args.word, c.new-boards.result.within) in
    let means : core_boards c.into_words.result.now ≡ core_boards after =
    ap core_boards c.into_words.ensures.holds ∙ c.send.ensures ∙ sym (boards_stored before c.args.place c.args.word) in
    let told = boards_told_apart_lem c.into_words.result.now after c.into_words.ensures.within many means in
    told ∙ ap (λ (words : List ℕ). boards_after words c.args.place c.args.word) c.new-boards.ensures.holds
