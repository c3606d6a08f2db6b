-- Steps that nothing stops, one more at their end.
use Rattle.std.proofs.Common.{◌≡◌, ℕ, zero, suc, ◌+◌, ◌-◌, ◌<◌, ◌≤◌, Bool, true, false, List, length, Some, None, sym, refl, subst, add-zero, add-suc, add-one, arith, rules}
use Rattle.std.specs.Prelude.{nat_le}
use Rattle.model.specs.declared.Record.{Record}
use Rattle.model.specs.declared.StepAnswer.{StepAnswer}
use Rattle.model.specs.declared.StepAnswer.TheVariants.{Done, Waiting, Interrupted}
use Rattle.model.specs.declared.Reason.TheVariants.{Counted}
use Rattle.model.specs.States.{State}
use Rattle.model.specs.Effects.{Prog}
use Rattle.model.specs.Runs.{stops_by, Steps, Onward, Ran, StepsSplit}

module _ (meaning : ℕ → Prog) where
  pub no_steps : (cap : ℕ) (s : State) (q : List Record) → Steps meaning cap 0 s q s q
  unfolding Steps
  no_steps cap s q = (refl, refl)

  next : (cap n : ℕ) (s u t : State) (q r p : List Record) → Steps meaning cap n s q u r → Onward meaning cap u r t p → Steps meaning cap (suc n) s q t p
  unfolding Steps
  next cap n s u t q r p before one = (u, r, before, one)

  -- The k-th step, after k - 1.
  pub one_more : (cap k : ℕ) (s u t : State) (q r p : List Record) → 1 ≤ k → Steps meaning cap (k - 1) s q u r → Onward meaning cap u r t p → Steps meaning cap (k + 1 - 1) s q t p
  one_more cap zero s u t q r p some before one = absurd (omega arith)
  one_more cap (suc n) s u t q r p some before one =
      let made : suc n - 1 ≡ n = omega arith in
      let now : suc n ≡ suc n + 1 - 1 = omega arith in
      subst (λ (k : ℕ). Steps meaning cap k s q t p) now (next cap n s u t q r p (subst (λ (k : ℕ). Steps meaning cap k s q u r) made before) one)

  counted : (a : StepAnswer) (full : Bool) (n : ℕ) → stops_by a full false ≡ None → stops_by a full (nat_le n n) ≡ Some Counted
  counted Done true n e = absurd (cc)
  counted Done false n e = search rules
  counted Waiting full n e = absurd (cc)
  counted (Interrupted c) true n e = absurd (cc)
  counted (Interrupted c) false n e = search rules

  -- A run whose count is reached.
  pub all_made : (cap n : ℕ) (s t : State) (q p : List Record) → 0 < n → Steps meaning cap n s q t p → Ran meaning cap n n Counted s q t p
  unfolding Steps
  all_made cap zero s t q p some all = absurd (omega arith)
  all_made cap (suc n) s t q p some all =
      record {
        before = n;
        state = all.0;
        line = all.1;
        answer = all.3.answer;
        made = sym (add-one n);
        within = omega arith;
        goes = all.2;
        last = all.3.moves;
        stops = counted all.3.answer (nat_le cap (length p)) (suc n) all.3.goes;
      }

  -- m + n steps are m steps and then n steps.
  split : (cap m n : ℕ) (s t : State) (q p : List Record) → Steps meaning cap (m + n) s q t p → (u : State) × (r : List Record) × Steps meaning cap m s q u r × Steps meaning cap n u r t p
  unfolding Steps
  split cap m zero s t q p all = (t, p, subst (λ (k : ℕ). Steps meaning cap k s q t p) (add-zero m) all, (refl, refl))
  split cap m (suc n) s t q p all =
      let last = subst (λ (k : ℕ). Steps meaning cap k s q t p) (add-suc m n) all in
      let parts = split cap m n s last.0 q last.1 last.2 in
      (parts.0, parts.1, parts.2, (last.0, last.1, parts.3, last.3))

  join : (cap m n : ℕ) (s t : State) (q p : List Record) (u : State) (r : List Record) → Steps meaning cap m s q u r → Steps meaning cap n u r t p → Steps meaning cap (m + n) s q t p
  unfolding Steps
  join cap m zero s t q p u r first rest =
      subst (λ (k : ℕ). Steps meaning cap k s q t p) (sym (add-zero m))
      (subst (λ (w : State). Steps meaning cap m s q w p) (sym rest.0) (subst (λ (l : List Record). Steps meaning cap m s q u l) (sym rest.1) first))
  join cap m (suc n) s t q p u r first rest =
      subst (λ (k : ℕ). Steps meaning cap k s q t p) (sym (add-suc m n)) (rest.0, rest.1, join cap m n s rest.0 q rest.1 u r first rest.2, rest.3)

  pub steps_split : StepsSplit meaning
  steps_split cap m n s t q p = (split cap m n s t q p, λ parts. join cap m n s t q p parts.0 parts.1 parts.2 parts.3)
