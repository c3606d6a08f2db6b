use Rattle.std.proofs.Common.{◌≡◌, suc, ◌-◌, Bool, true, cond, [], ◌∷◌, ◌++◌, is_ok, vec_items, ap, ◌∙◌, arith}
use Rattle.outcome.proofs.Digits.{digit_more}
use Rattle.outcome.proofs.hex.add_hex.Goals as goal

pub loop-place-preserved : goal.loop-place-preserved
loop-place-preserved c =
    let text = vec_items c.loop-place.text in
    let d = c.digit_at.result in
    let ok : is_ok c.push.result ≡ true = ap is_ok c.in_ok-push.was in
    let pushed : vec_items c.push.new.self ≡ text ++ (d ∷ []) =
    c.push.ensures.items ∙ ap (λ (b : Bool). cond b (text ++ (d ∷ [])) text) ok in
    let less : c.loop-place.place ≡ suc (c.loop-place.place - 1) = omega arith in
    digit_more text (vec_items c.push.new.self) c.loop-place.place (c.loop-place.place - 1) c.args.value d less c.digit_at.ensures pushed
    ∙ c.loop-place.invariant
