-- A run that is denied, and one that is made.
use Rattle.std.proofs.Common.{◌≡◌, ℕ, List, Some, None, Option, sym, subst}
use Rattle.model.specs.declared.Record.{Record}
use Rattle.model.specs.declared.Reason.{Reason}
use Rattle.model.specs.Effects.{Prog}
use Rattle.model.specs.Answers.{Answer, denied, ran}
use Rattle.model.specs.Console.{Desk}
use Rattle.model.specs.Runs.{Ran, RunsUnless}

module _ (meaning : ℕ → Prog) where
  pub run_denied :
      (d : Option ℕ) (n cap count : ℕ) (w : Desk) (q : List Record) (a : Answer) (v : Desk) (p : List Record) →
      d ≡ Some n → a ≡ denied n → v ≡ w → p ≡ q → RunsUnless meaning d cap count w q a v p
  run_denied d n cap count w q a v p e ea ev ep =
      subst (λ (x : Option ℕ). RunsUnless meaning x cap count w q a v p) (sym e) (record { answer = ea; machine = ev; trace = ep })

  pub run_made :
      (d : Option ℕ) (n cap count : ℕ) (why : Reason) (w : Desk) (q : List Record) (a : Answer) (v : Desk) (p : List Record) →
      d ≡ None → a ≡ ran n why → v.key ≡ w.key → Ran meaning cap count n why w.core q v.core p → RunsUnless meaning d cap count w q a v p
  run_made d n cap count why w q a v p e ea ek r =
      subst (λ (x : Option ℕ). RunsUnless meaning x cap count w q a v p) (sym e) (record { steps = n; why = why; answer = ea; key = ek; ran = r })
