use Rattle.std.proofs.Common.{rules, ◌≡◌, ◌*◌, arith, ◌∙◌}
use Rattle.model.specs.Stores.{Store}
use Rattle.console.specs.View.{desk_of}
use Rattle.outcome.specs.ReadBack.{read_back}
use Rattle.outcome.proofs.ReadBack.{digest_more, digest_whole}
use Rattle.outcome.proofs.read_back.words_digest.Goals as goal

pub loop-place-preserved : goal.loop-place-preserved
loop-place-preserved g c =
    let m : Store = (desk_of g.S.Store.meaning g.B.Bus.devices c.args.machine.now).core.store in
    let stays = c.loop-place.invariant.same in
    record {
      same = c.read_back-word.ensures.same ∙ stays;
      taken = λ key.
          let here : c.from.result ≡ read_back m (2 * c.loop-place.place) = search (rules, key, stays, c.read_back-word.ensures.read) in
          digest_more m c.loop-place.place c.loop-place.digest c.from.result (c.loop-place.invariant.taken key) here;
    }

pub returns-clause-digest : goal.returns-clause-digest
returns-clause-digest g c = λ key.
    let m : Store = (desk_of g.S.Store.meaning g.B.Bus.devices c.args.machine.now).core.store in
    let all : c.loop-place.place ≡ 0x2000 = omega arith in
    digest_whole m c.loop-place.place c.loop-place.digest all (c.loop-place.invariant.taken key)
