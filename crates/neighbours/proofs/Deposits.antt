-- Deposits that go on by one.
use Rattle.std.proofs.Common.{◌≡◌, ℕ, ◌+◌, ◌*◌, ◌<◌, List, [], ◌∷◌, ◌++◌, length, get_or, take, length-take, ap, ◌∙◌, sym, arith}
use Rattle.std.proofs.lemmas.List.{take_more}
use Rattle.comparison.specs.declared.calls.Call.{Call}
use Rattle.comparison.specs.declared.calls.Call.TheVariants.{Deposit}
use Rattle.neighbours.specs.Neighbours.{deposits}

deposits_push : (a : ℕ) (hs : List ℕ) (h b : ℕ) → b ≡ a + 2 * length hs → deposits a (hs ++ h ∷ []) ≡ deposits a hs ++ Deposit b h ∷ []
deposits_push a [] h b e = let same : a ≡ b = omega (arith, e) in ap (λ (x : ℕ). Deposit x h ∷ []) same
deposits_push a (g ∷ hs) h b e = ap (λ (l : List Call). Deposit a g ∷ l) (deposits_push (a + 2) hs h b (omega (arith, e)))

pub deposits_more :
    (a : ℕ) (hs : List ℕ) (i h b : ℕ) (before now : List Call) →
    i < length hs → h ≡ get_or hs i 0 → b ≡ a + 2 * i → before ≡ deposits a (take i hs) → now ≡ before ++ Deposit b h ∷ [] → now ≡ deposits a (take (i + 1) hs)
deposits_more a hs i h b before now l is at had pushed =
    let long : length (take i hs) ≡ i = omega (arith, length-take i hs) in
    pushed ∙ ap (λ (x : List Call). x ++ Deposit b h ∷ []) had
    ∙ sym (deposits_push a (take i hs) h b (omega (arith, long, at)))
    ∙ ap (deposits a) (ap (λ (x : ℕ). take i hs ++ x ∷ []) is ∙ sym (take_more hs i 0 l))
