-- The registers of a bank are there, and are read one after the other.
use Rattle.std.proofs.Common.{◌≡◌, ℕ, ◌+◌, ◌<◌, List, [], ◌∷◌, ◌++◌, None, length, map, take, set, sym, ap, ◌∙◌, arith}
use Rattle.std.proofs.lemmas.Bool.Decides.{nat_tests}
use Rattle.std.specs.List.{range_with_len}
use Rattle.std.proofs.lemmas.List.{take_more_set}
use Rattle.std.proofs.lemmas.List.FromFn.{map-range_with_len_more}
use Rattle.model.specs.Status.{no_set}
use Rattle.model.specs.Console.{item_denial}
use Rattle.outcome.specs.declared.shown.Bank.{Bank}
use Rattle.outcome.specs.declared.shown.Bank.TheVariants.{Lower, Upper, Segments}
use Rattle.outcome.specs.Shown.{register}

pub there : (bank : Bank) (number : ℕ) → number < 16 → item_denial (register bank number) ≡ None
unfolding no_set
there Lower number less = grind (arith, nat_tests, less)
there Upper number less = grind (arith, nat_tests, less)
there Segments number less = grind (arith, nat_tests, less)

-- one more value, at the end of those that are read
pub one_more :
    {X : Type 0} (f : ℕ → X) (values : List X) (k : ℕ) (v : X) → k < length values → take k values ≡ map f (range_with_len 0 k) → v ≡ f k →
    take (k + 1) (set values k v) ≡ map f (range_with_len 0 (k + 1))
one_more {X} f values k v less read here =
    let from : 0 + k ≡ k = omega arith in
    take_more_set values k v less
    ∙ ap (λ (l : List X). l ++ (v ∷ [])) read
    ∙ ap (λ (x : X). map f (range_with_len 0 k) ++ (x ∷ [])) here
    ∙ sym (map-range_with_len_more f 0 k k from)
