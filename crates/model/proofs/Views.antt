-- What a protected program sees, by its own addresses: each reaches equal places in both machines, wherever these stand.
use Rattle.std.proofs.Common.{◌≡◌, ℕ, ◌/◌, ◌%◌, ◌^◌, ◌<◌, Bool, true, false, cond, Ok, Err, eqb, ◌↔◌, List, length, get_or, set, sym, refl, ap, ◌∙◌, arith}
use Rattle.std.proofs.lemmas.Bool.Decides.{nat_tests}
use Rattle.std.proofs.lemmas.Grind.{common_steps}
use Rattle.model.specs.declared.Access.{Access}
use Rattle.model.specs.declared.Access.TheVariants.{Fetch, Read, Write}
use Rattle.model.specs.declared.Grant.TheVariants.{Plain, Reported}
use Rattle.model.specs.declared.Violation.TheVariants.{WriteProtected}
use Rattle.model.specs.Stores.{Store, at, stored, revised}
use Rattle.model.specs.Status.{relocated, protected, upper, recoded, selected, slot, address}
use Rattle.model.specs.Controller.{within, present, no_execute, write_mode, lets_write, judged, Verdict, verdict, place}
use Rattle.model.specs.Windows.{Protected, Reaches, InWritableWindow}

-- ── Status ──
-- What bits 0 to 27 decide, another condition code leaves.
pub upper_recoded : (status c : ℕ) → upper (recoded status c) ≡ upper status
unfolding upper recoded
upper_recoded status c = omega arith

relocated_upper : (a b : ℕ) → upper a ≡ upper b → relocated a ≡ relocated b
unfolding upper relocated
relocated_upper a b h = let e : a / 1024 % 2 ≡ b / 1024 % 2 = omega arith in ap (λ (x : ℕ). eqb x 1) e

protected_by_upper : (a b : ℕ) → upper a ≡ upper b → protected a ≡ protected b
unfolding upper protected
protected_by_upper a b h = let e : a / 256 % 2 ≡ b / 256 % 2 = omega arith in ap (λ (x : ℕ). eqb x 1) e

pub selected_upper : (a b : ℕ) → upper a ≡ upper b → selected a ≡ selected b
unfolding upper selected
selected_upper a b h = cc

pub protected_upper : (a b : ℕ) → upper a ≡ upper b → Protected b → Protected a
protected_upper a b h p = record { relocates = relocated_upper a b h ∙ p.relocates; forbids = protected_by_upper a b h ∙ p.forbids }

-- ── Verdicts ──
-- The access is done.
abbrev pub Passes : Verdict → Type 0
Passes (Err x) = ⊥
Passes (Ok g) = Unit {0}

-- An address that an access may use reaches its place.
abbrev pub Visible : List ℕ → ℕ → Type 0
Visible segments a = Reaches segments a (place segments a)

-- An access that is done was within the limit, with P set; a write with a W that lets it.
passes_window : (u : Access) (w p e : Bool) (m : ℕ) → Passes (judged u w p e m) → (w ≡ true) × (p ≡ true)
passes_window u false p e m h = absurd h
passes_window u true false e m h = absurd h
passes_window Read true true e m h = (refl, refl)
passes_window Fetch true true true m h = absurd h
passes_window Fetch true true false m h = (refl, refl)
passes_window Write true true e m h = (refl, refl)

passes_on_write : (b : Bool) (v : Verdict) → Passes (cond b (Err WriteProtected) v) → cond b false true ≡ true
passes_on_write true v h = absurd h
passes_on_write false v h = refl

passes_write : (w p e : Bool) (m : ℕ) → Passes (judged Write w p e m) → lets_write m ≡ true
passes_write false p e m h = absurd h
passes_write true false e m h = absurd h
passes_write true true e m h = passes_on_write (eqb (m % 2) 1) (cond (eqb m 2) (Ok Reported) (Ok Plain)) h

address_short : (a : ℕ) → address a < 2 ^ 20
unfolding address
address_short a = omega arith

-- The place of an access that is done is in the window; that of a write in the writable one.
pub in_view : (u : Access) (segments : List ℕ) (a : ℕ) → Passes (verdict u segments (address a)) → Visible segments (address a)
in_view u segments a p =
    let b = address a in
    let w = passes_window u (within segments b) (present segments b) (no_execute segments b) (write_mode segments b) p in
    record { short = address_short a; limited = w.0; presence = w.1; there = refl }

pub in_writable : (segments : List ℕ) (a : ℕ) → Passes (verdict Write segments (address a)) → InWritableWindow segments (place segments (address a))
in_writable segments a p =
    let b = address a in
    (b, in_view Write segments a p, passes_write (within segments b) (present segments b) (no_execute segments b) (write_mode segments b) p)

-- ── Segmentation registers that differ in relocation only ──
pub record SameChecks (g h : List ℕ) : Type 0 where
  pub limits : (a : ℕ) → within g a ≡ within h a
  pub presence : (a : ℕ) → present g a ≡ present h a
  pub execution : (a : ℕ) → no_execute g a ≡ no_execute h a
  pub writing : (a : ℕ) → write_mode g a ≡ write_mode h a

checks_same : (g : List ℕ) → SameChecks g g
checks_same g = record { limits = λ _. refl; presence = λ _. refl; execution = λ _. refl; writing = λ _. refl }

checks_sym : (g h : List ℕ) → SameChecks g h → SameChecks h g
checks_sym g h e =
    record { limits = λ a. sym (e.limits a); presence = λ a. sym (e.presence a); execution = λ a. sym (e.execution a); writing = λ a. sym (e.writing a) }

checks_trans : (g h i : List ℕ) → SameChecks g h → SameChecks h i → SameChecks g i
checks_trans g h i e f =
    record {
      limits = λ a. e.limits a ∙ f.limits a;
      presence = λ a. e.presence a ∙ f.presence a;
      execution = λ a. e.execution a ∙ f.execution a;
      writing = λ a. e.writing a ∙ f.writing a;
    }

pub same_verdict : (g h : List ℕ) → SameChecks g h → (u : Access) (a : ℕ) → verdict u g a ≡ verdict u h a
same_verdict g h e u a =
    let p = e.limits a in
    let q = e.presence a in
    let r = e.execution a in
    let s = e.writing a in
    cc

visible : (g h : List ℕ) → SameChecks g h → (a : ℕ) → Visible g a → Visible h a
visible g h e a w = record { short = w.short; limited = sym (e.limits a) ∙ w.limited; presence = sym (e.presence a) ∙ w.presence; there = refl }

-- ── The same view ──
-- Each address reaches equal places, and two that reach one place here reach one place there.
pub record SameView (g h : List ℕ) (m n : Store) : Type 0 where
  pub checks : SameChecks g h
  pub window : (a : ℕ) → Visible g a → at m (place g a) ≡ at n (place h a)
  pub paired : (a b : ℕ) → Visible g a → Visible g b → (place g a ≡ place g b) ↔ (place h a ≡ place h b)

-- One set of segmentation registers, over two stores.
pub view_of : (g : List ℕ) (m n : Store) → ((a : ℕ) → Visible g a → at m (place g a) ≡ at n (place g a)) → SameView g g m n
view_of g m n e = record { checks = checks_same g; window = e; paired = λ _ _ _ _. ((λ e. e), (λ e. e)) }

pub view_sym : (g h : List ℕ) (m n : Store) → SameView g h m n → SameView h g n m
view_sym g h m n v =
    let r = checks_sym g h v.checks in
    record {
      checks = r;
      window = λ a w. sym (v.window a (visible h g r a w));
      paired = λ a b w x. let p = v.paired a b (visible h g r a w) (visible h g r b x) in (p.1, p.0);
    }

pub view_trans : (g h i : List ℕ) (m n o : Store) → SameView g h m n → SameView h i n o → SameView g i m o
view_trans g h i m n o v w = record {
  checks = checks_trans g h i v.checks w.checks;
  window = λ a x. v.window a x ∙ w.window a (visible g h v.checks a x);
  paired = λ a b x y.
      let p = v.paired a b x y in
      let q = w.paired a b (visible g h v.checks a x) (visible g h v.checks b y) in
      ((λ e. q.0 (p.0 e)), (λ e. p.1 (q.1 e)));
}

-- Two tests of equality that answer alike.
eqb_iff : (a b c d : ℕ) → (a ≡ b) ↔ (c ≡ d) → eqb a b ≡ eqb c d
eqb_iff a b c d h = grind (arith, nat_tests)

-- One write by way of the same address.
pub view_revised :
    (g h : List ℕ) (m n : Store) (a : ℕ) (f : ℕ → ℕ) → Visible g a → SameView g h m n →
    SameView g h (revised m (place g a) f) (revised n (place h a) f)
view_revised g h m n a f w v = record {
  checks = v.checks;
  window = λ b x.
      let here = v.window b x in
      let there = v.window a w in
      let test = eqb_iff (place g b) (place g a) (place h b) (place h a) (v.paired b a x w) in
      cc;
  paired = v.paired;
}

-- ── Stores and registers ──
-- A write leaves the other places; a register write, in two files alike at j, leaves them alike there.
pub stored_other : (m : Store) (p q v : ℕ) → (q ≡ p → ⊥) → at (stored m p v) q ≡ at m q
stored_other m p q v h = grind (arith, nat_tests)

pub set_agrees :
    (xs ys : List ℕ) (i j v : ℕ) → length xs ≡ length ys → get_or xs j 0 ≡ get_or ys j 0 → get_or (set xs i v) j 0 ≡ get_or (set ys i v) j 0
set_agrees xs ys i j v n e = grind (arith, common_steps)

-- A slot belongs to one set.
pub slot_set : (j k m n : ℕ) → slot j m ≡ slot k n → j ≡ k
unfolding slot
slot_set j k m n h = omega arith
