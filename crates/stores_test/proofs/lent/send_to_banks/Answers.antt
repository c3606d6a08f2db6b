use Rattle.std.proofs.Common.{◌≡◌, ◌∙◌, ap}
use Rattle.model.specs.Stores.{stored}
use Rattle.store.specs.Boards.{core_boards}
use Rattle.stores.specs.Layers.{byte_image, behind}
use Rattle.stores_test.proofs.lent.send_to_banks.Goals as goal

pub returns : goal.returns
returns c =
    let words : c.into_words.result.now ≡ c.send.new.store.first.words.now = cc in
    let bytes : c.into_bytes.result.now ≡ c.send.new.store.second.bytes.now = cc in
    let low : core_boards c.new-banks.result.first.words.now ≡ core_boards c.args.low.now =
    let held : c.new-banks.result.first.words.now ≡ c.new.result.words.now = cc in
    ap core_boards held ∙ c.new.ensures.means in
    let high : byte_image c.new-banks.result.second.bytes.now ≡ byte_image c.args.high.now =
    let held : c.new-banks.result.second.bytes.now ≡ c.new-2.result.bytes.now = cc in
    ap byte_image held ∙ c.new-2.ensures.means in
    (λ i. behind (core_boards (words i)) (byte_image (bytes i))) ∙ c.send.ensures ∙ (λ i. stored (behind (low i) (high i)) c.args.place c.args.word)
