use Rattle.std.proofs.Common.{◌≡◌, ◌∙◌, ap, take, arith}
use Rattle.model.specs.Stores.{store_limit}
use Rattle.store.specs.Boards.{core_boards}
use Rattle.store.proofs.Limits.{boards_within, take_within}
use Rattle.store.proofs.boards.CoreBoards.new.Goals as goal

pub returns : goal.returns
returns c =
    let words = c.args.words.now in
    let held : take c.min-count.result words ≡ take store_limit words = take_within store_limit c.min-count.result words (omega arith) in
    record { holds = held; means = ap core_boards held ∙ boards_within words }
