-- With the key ON, the number of a register that is there is shown.
use Rattle.std.proofs.Common.{◌≡◌, ℕ, eqb, None, Ok, Err, Option, Result, sym, ap, ◌∙◌, arith}
use Rattle.model.specs.declared.Denial.{Denial}
use Rattle.model.specs.declared.Item.{Item}
use Rattle.model.specs.Answers.{on, shown}
use Rattle.model.specs.Effects.{Prog}
use Rattle.model.specs.Console.{Desk, Did, gives, show_item, item_denial, item_of, or_else, deny_if, unless_denied, call}
use Rattle.console.specs.View.{shown_by}

value : (v : ℕ) (r : Result ℕ Denial) → shown v ≡ shown_by r → r ≡ Ok v
value v (Ok x) e = cc
value v (Err d) e = let z : ◌≡◌ {A = ℕ} 0 1 = cc in absurd (omega arith)

module _ (meaning : ℕ → Prog) where
  pub shown_on :
      (i : Item) (w v : Desk) (r : Result ℕ Denial) → call meaning (show_item i) w ≡ gives (shown_by r) v → w.key ≡ on → item_denial i ≡ None → r ≡ Ok (item_of i w.core)
  shown_on i w v r e key there =
      let free : or_else (or_else (deny_if (eqb w.key 0) 7) (deny_if (eqb w.key 2) 8)) (item_denial i) ≡ None =
      ap (λ (k : ℕ). or_else (or_else (deny_if (eqb k 0) 7) (deny_if (eqb k 2) 8)) (item_denial i)) key ∙ there in
      let did : call meaning (show_item i) w ≡ gives (shown (item_of i w.core)) w = ap (λ (d : Option ℕ). unless_denied d w (gives (shown (item_of i w.core)) w)) free in
      value (item_of i w.core) r (ap (λ (d : Did). d.answer) (sym did ∙ e))
