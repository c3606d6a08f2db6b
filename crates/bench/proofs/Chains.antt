-- Runs one after the other as one run.
use Rattle.std.proofs.Common.{◌≡◌, ℕ, zero, suc, ◌+◌, ◌-◌, ◌<◌, ◌≤◌, ◌∙◌, Bool, true, false, List, length, nat_le, Some, None, Option, refl, sym, ap, subst, arith}
use Rattle.std.proofs.lemmas.Bool.Decides.{nat_tests}
use Rattle.model.specs.declared.Reason.{Reason}
use Rattle.model.specs.declared.Reason.TheVariants.{Counted}
use Rattle.model.specs.declared.Record.{Record}
use Rattle.model.specs.declared.StepAnswer.{StepAnswer}
use Rattle.model.specs.declared.StepAnswer.TheVariants.{Done, Waiting, Interrupted}
use Rattle.model.specs.Answers.{denied, ran}
use Rattle.model.specs.Console.{Desk, or_else, off_denial, room_denial}
use Rattle.model.specs.Effects.{Prog}
use Rattle.model.specs.Runs.{stops_by, Steps, Onward, Ran, count_denial, run_denial, Runs, RunsUnless, StepsSplit}
use Rattle.model.specs.States.{State}
use Rattle.bench.specs.Loops.{start_denial}

-- A step that stops a run by its count alone does not stop a longer one.
goes_on : (a : StepAnswer) (full counted : Bool) → stops_by a full counted ≡ Some Counted → stops_by a full false ≡ None
goes_on Done true b e = absurd (cc)
goes_on Done false b e = refl
goes_on Waiting full b e = absurd (cc)
goes_on (Interrupted c) true b e = absurd (cc)
goes_on (Interrupted c) false b e = refl

-- A step that stops a run by anything else stops each.
stops_each : (why : Reason) (a : StepAnswer) (full one other : Bool) → (why ≡ Counted → ⊥) → stops_by a full one ≡ Some why → stops_by a full other ≡ Some why
stops_each why Done true one other differs e = e
stops_each why Done false true other differs e = absurd (differs (cc))
stops_each why Done false false other differs e = absurd (cc)
stops_each why Waiting full one other differs e = e
stops_each why (Interrupted c) true one other differs e = e
stops_each why (Interrupted c) false true other differs e = absurd (differs (cc))
stops_each why (Interrupted c) false false other differs e = absurd (cc)

-- A step that stops a run by its count leaves room in the trace.
not_full : (a : StepAnswer) (full counted : Bool) → stops_by a full counted ≡ Some Counted → full ≡ false
not_full Done true b e = absurd (cc)
not_full Done false b e = refl
not_full Waiting full b e = absurd (cc)
not_full (Interrupted c) true b e = absurd (cc)
not_full (Interrupted c) false b e = refl

room_left : (cap n : ℕ) → nat_le cap n ≡ false → room_denial (cap - n) ≡ None
room_left cap n e = grind (arith, nat_tests)

neither : (a b : Option ℕ) → or_else a b ≡ None → (a ≡ None) × (b ≡ None)
neither (Some n) b e = absurd (cc)
neither None b e = (refl, e)

-- A loop that has changed nothing before its first turn is at that turn if later ones cannot be; what is known at a turn is known of the
-- start if later turns know it.
pub first_turn : (made : ℕ) → (0 < made → ⊥) → made ≡ 0
first_turn zero later = refl
first_turn (suc n) later = absurd (later (omega arith))

pub at_start : {M T : Type 0} (P : M → T → Type 0) (made : ℕ) {m n : M} {t u : T} → (made ≡ 0 → (m ≡ n) × (t ≡ u)) → (0 < made → P n u) → P m t → P n u
at_start {M} {T} P zero {m} {n} {t} {u} same later here = subst (λ (y : T). P n y) (same refl).1 (subst (λ (x : M). P x t) (same refl).0 here)
at_start P (suc k) same later here = later (omega arith)

module _ (meaning : ℕ → Prog) where
  -- A count within the limits denies nothing.
  count_passes : (count : ℕ) → 1 ≤ count → count ≤ 1_000_000 → count_denial meaning count ≡ None
  count_passes count low high = grind (arith, nat_tests)

  same_denial :
      (cap room count : ℕ) (w : Desk) (q : List Record) → room ≡ cap → 1 ≤ count → count ≤ 1_000_000 →
      run_denial meaning count (room - length q) w ≡ start_denial cap w q
  same_denial cap room count w q size low high =
      ap (λ (d : Option ℕ). or_else (off_denial w) (or_else d (room_denial (room - length q)))) (count_passes count low high)
      ∙ ap (λ (k : ℕ). start_denial k w q) size

  denied_by : (d : Option ℕ) (cap count n : ℕ) (w v : Desk) (q p : List Record) → RunsUnless meaning d cap count w q (denied n) v p → d ≡ Some n
  denied_by (Some k) cap count n w v q p r = let e : denied n ≡ denied k = r.answer in cc
  denied_by None cap count n w v q p r = let e : denied n ≡ ran r.steps r.why = r.answer in absurd (cc)

  begun_by : (d : Option ℕ) (cap count n : ℕ) (why : Reason) (w v : Desk) (q p : List Record) → RunsUnless meaning d cap count w q (ran n why) v p → d ≡ None
  begun_by (Some k) cap count n why w v q p r = let e : ran n why ≡ denied k = r.answer in absurd (cc)
  begun_by None cap count n why w v q p r = refl

  -- A run that is denied, and one that is made, by what denies the first step.
  pub denied_start :
      (cap room count n : ℕ) (w v : Desk) (q p : List Record) → room ≡ cap → 1 ≤ count → count ≤ 1_000_000 → Runs meaning room count w q (denied n) v p →
      start_denial cap w q ≡ Some n
  denied_start cap room count n w v q p size low high run = sym (same_denial cap room count w q size low high) ∙ denied_by _ room count n w v q p run

  pub begun_start :
      (cap room count n : ℕ) (why : Reason) (w v : Desk) (q p : List Record) → room ≡ cap → 1 ≤ count → count ≤ 1_000_000 →
      Runs meaning room count w q (ran n why) v p → start_denial cap w q ≡ None
  begun_start cap room count n why w v q p size low high run = sym (same_denial cap room count w q size low high) ∙ begun_by _ room count n why w v q p run

  one_more : (cap n : ℕ) (s u t : State) (q r p : List Record) → Steps meaning cap n s q u r → Onward meaning cap u r t p → Steps meaning cap (suc n) s q t p
  unfolding Steps
  one_more cap n s u t q r p before one = (u, r, before, one)

  pub none_yet : (cap : ℕ) (s : State) (q : List Record) → Steps meaning cap 0 s q s q
  unfolding Steps
  none_yet cap s q = (refl, refl)

  -- The steps of a run whose count is reached.
  counted : (cap count n : ℕ) (s t : State) (q p : List Record) → Ran meaning cap count n Counted s q t p → Steps meaning cap n s q t p
  counted cap count n s t q p r =
      let last : Onward meaning cap r.state r.line t p = record { answer = r.answer; moves = r.last; goes = goes_on r.answer _ _ r.stops } in
      let size : suc r.before ≡ n = omega (arith, r.made) in
      subst (λ (k : ℕ). Steps meaning cap k s q t p) size (one_more cap r.before s r.state t q r.line p r.goes last)

  join : StepsSplit meaning → (cap m n : ℕ) (s u t : State) (q r p : List Record) → Steps meaning cap m s q u r → Steps meaning cap n u r t p → Steps meaning cap (m + n) s q t p
  join split cap m n s u t q r p first rest = (split cap m n s t q p).1 (u, r, first, rest)

  -- Some steps, and then a run whose count is reached.
  more_steps :
      StepsSplit meaning → (cap count m n : ℕ) (s u t : State) (q r p : List Record) →
      Steps meaning cap m s q u r → Ran meaning cap count n Counted u r t p → Steps meaning cap (m + n) s q t p
  more_steps split cap count m n s u t q r p first run = join split cap m n s u t q r p first (counted cap count n u t r p run)

  -- Some steps, and then a run that stops for another reason.
  then_stopped :
      StepsSplit meaning → (cap count whole m n : ℕ) (why : Reason) (s u t : State) (q r p : List Record) →
      (why ≡ Counted → ⊥) → m + count ≤ whole → Steps meaning cap m s q u r → Ran meaning cap count n why u r t p → Ran meaning cap whole (m + n) why s q t p
  then_stopped split cap count whole m n why s u t q r p differs room first run =
      record {
        before = m + run.before;
        state = run.state;
        line = run.line;
        answer = run.answer;
        made = omega (arith, run.made);
        within = omega (arith, room, run.within);
        goes = join split cap m run.before s u run.state q r run.line first run.goes;
        last = run.last;
        stops = stops_each why run.answer _ _ _ differs run.stops;
      }

  -- A run that is made, by its answer.
  made_by :
      (d : Option ℕ) (cap count n : ℕ) (why : Reason) (w v : Desk) (q p : List Record) →
      RunsUnless meaning d cap count w q (ran n why) v p → (v.key ≡ w.key) × Ran meaning cap count n why w.core q v.core p
  made_by (Some k) cap count n why w v q p r = let e : ran n why ≡ denied k = r.answer in absurd (cc)
  made_by None cap count n why w v q p r =
      let steps : r.steps ≡ n = cc in
      let reason : r.why ≡ why = cc in
      (r.key, subst (λ (x : Reason). Ran meaning cap count n x w.core q v.core p) reason (subst (λ (x : ℕ). Ran meaning cap count x r.why w.core q v.core p) steps r.ran))

  -- One more run, whose count is reached.
  pub one_run :
      StepsSplit meaning → (d : Option ℕ) (cap room count m n : ℕ) (why : Reason) (w u v : Desk) (q r p : List Record) →
      room ≡ cap → why ≡ Counted → u.key ≡ w.key → Steps meaning cap m w.core q u.core r → RunsUnless meaning d room count u r (ran n why) v p →
      (v.key ≡ w.key) × (n ≤ count) × (1 ≤ n) × Steps meaning cap (m + n) w.core q v.core p
  one_run split d cap room count m n why w u v q r p size is key goes run =
      let whole = made_by d room count n why u v r p run in
      let here = subst (λ (x : Reason). Ran meaning cap count n x u.core r v.core p) is (subst (λ (k : ℕ). Ran meaning k count n why u.core r v.core p) size whole.1) in
      (whole.0 ∙ key, here.within, omega (arith, here.made), more_steps split cap count m n w.core u.core v.core q r p goes here)

  -- One more run, which stops for another reason.
  pub last_run :
      StepsSplit meaning → (d : Option ℕ) (cap room count whole m n : ℕ) (why : Reason) (w u v : Desk) (q r p : List Record) →
      room ≡ cap → (why ≡ Counted → ⊥) → m + count ≤ whole → u.key ≡ w.key → Steps meaning cap m w.core q u.core r → RunsUnless meaning d room count u r (ran n why) v p →
      (v.key ≡ w.key) × Ran meaning cap whole (m + n) why w.core q v.core p
  last_run split d cap room count whole m n why w u v q r p size differs within key goes run =
      let all = made_by d room count n why u v r p run in
      (all.0 ∙ key, then_stopped split cap count whole m n why w.core u.core v.core q r p differs within goes (subst (λ (k : ℕ). Ran meaning k count n why u.core r v.core p) size all.1))

  -- After a run whose count is reached nothing denies the next step.
  pub next_start :
      (d : Option ℕ) (cap room count n : ℕ) (why : Reason) (w v : Desk) (q p : List Record) →
      room ≡ cap → why ≡ Counted → start_denial cap w q ≡ None → RunsUnless meaning d room count w q (ran n why) v p → start_denial cap v p ≡ None
  next_start d cap room count n why w v q p size is free run =
      let all = made_by d room count n why w v q p run in
      let here : Ran meaning cap count n Counted w.core q v.core p =
      subst (λ (x : Reason). Ran meaning cap count n x w.core q v.core p) is (subst (λ (k : ℕ). Ran meaning k count n why w.core q v.core p) size all.1) in
      let off : off_denial v ≡ None = ap (λ (k : ℕ). off_denial (record { key = k; core = v.core })) all.0 ∙ (neither (off_denial w) _ free).0 in
      let room_there : room_denial (cap - length p) ≡ None = room_left cap (length p) (not_full here.answer _ _ here.stops) in
      ap (λ (o : Option ℕ). or_else o (room_denial (cap - length p))) off ∙ room_there
