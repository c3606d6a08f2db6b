use Rattle.std.proofs.Common.{◌≡◌, ◌∙◌, ap}
use Rattle.model.specs.Stores.{Store}
use Rattle.stores.specs.Layers.{byte_image, under_after}
use Rattle.stores_test.proofs.lent.send_under_strip.Goals as goal

pub returns : goal.returns
returns c =
    let bytes : c.into_bytes.result.now ≡ c.write.new.self.below.bytes.now = cc in
    let held : c.new-stripped.result.below.bytes.now ≡ c.new.result.bytes.now = cc in
    let below : byte_image c.new-stripped.result.below.bytes.now ≡ byte_image c.args.bytes.now =
    ap byte_image held ∙ c.new.ensures.means in
    ap byte_image bytes ∙ c.write.ensures.under ∙ ap (λ (m : Store). under_after m c.args.place c.args.word) below
