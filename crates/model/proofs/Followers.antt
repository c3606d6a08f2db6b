-- Each machine is followed beside one that no device asks and that only steps: so each list is gone through once, by itself. Two that
-- follow the same one answer alike.
use Rattle.std.proofs.Common.{◌≡◌, ℕ, zero, suc, ◌<◌, List, [], ◌∷◌, length, get_or, sym, refl, ap, ◌∙◌, subst, arith}
use Rattle.model.specs.declared.Record.{Record}
use Rattle.model.specs.declared.StepAnswer.TheVariants.{Done, Waiting, Interrupted}
use Rattle.model.specs.Stores.{Store, Place, at}
use Rattle.model.specs.States.{State, with_store}
use Rattle.model.specs.Controller.{place}
use Rattle.model.specs.Effects.{Prog}
use Rattle.model.specs.Steps.{Ending, finished, waiting, took, poll, proceeded, stepped as step_of}
use Rattle.model.specs.Answers.{Answer, done, stepped}
use Rattle.model.specs.Console.{Desk}
use Rattle.model.specs.Windows.{InWindow}
use Rattle.model.specs.Calls.{Continued, Event, Course, quiet, broken, answers, NoDeviceInterrupt, ahead, joined, after, event, course, AllOutside, by_deposit}
use Rattle.model.specs.Isolation.{SameAnswers, SavesTheSame, SameSaving}
use Rattle.model.proofs.Views.{view_of, view_sym, view_trans}
use Rattle.model.proofs.Effects.{Twin}
use Rattle.model.proofs.Steps.{SameEnd, KeptEnd, served_alike, served_kept}
use Rattle.model.proofs.Calls.{event_of, core_of, Doing, apart, stepping, doing, no_device_lem, no_device_later}

-- ── Beside ──
-- A call apart from the program leaves its machine beside the other.
twin_apart :
    (s r : State) (m : Store) → ((p : ℕ) → InWindow s.segments p → at m p ≡ at s.store p) → Twin s r → Twin (with_store m s) r
twin_apart s r m e h = record {
  protects = h.protects;
  same_status = h.same_status;
  same_location = h.same_location;
  same_registers = h.same_registers;
  view = view_trans s.segments s.segments r.segments m s.store r.store
      (view_of s.segments m s.store (λ a w. e (place s.segments a) (a, w))) h.view;
  full = h.full;
  full' = h.full';
}

-- Two machines beside the same one.
pub beside : (s t r : State) → Twin s r → Twin t r → Twin s t
beside s t r h k = record {
  protects = h.protects;
  same_status = h.same_status ∙ sym k.same_status;
  same_location = h.same_location ∙ sym k.same_location;
  same_registers = λ n. h.same_registers n ∙ sym (k.same_registers n);
  view = view_trans s.segments r.segments t.segments s.store r.store t.store h.view
      (view_sym t.segments r.segments t.store r.store k.view);
  full = h.full;
  full' = k.full;
}

-- ── The machine that only steps ──
-- What a step answers, and what it leaves.
abbrev answer_of : Ending → Answer
answer_of (finished s) = stepped Done
answer_of (waiting s) = stepped Waiting
answer_of (took r s) = stepped (Interrupted r.cause)

abbrev state_of : Ending → State
state_of (finished s) = s
state_of (waiting s) = s
state_of (took r s) = s

-- No interrupt; and one that saves what the interrupt with the record q did, which left u.
abbrev Goes : Ending → Type 0
Goes (finished s) = Unit {0}
Goes (waiting s) = Unit {0}
Goes (took r s) = ⊥

abbrev Breaks : Record → State → Ending → Type 0
Breaks q u (finished s) = ⊥
Breaks q u (waiting s) = ⊥
Breaks q u (took r s) = SavesTheSame q r u s

module _ (meaning : ℕ → Prog) where
  -- Its step, and the processor after it.
  abbrev calm : State → Ending
  calm r = proceeded meaning r.bus r

  abbrev next : State → State
  next r = state_of (calm r)

  -- The answers are its answers; it ends beside u; it takes that interrupt after n steps.
  abbrev Matches : List Answer → State → Type 0
  Matches [] r = Unit {0}
  Matches (a ∷ xs) r = (a ≡ answer_of (calm r)) × Matches xs (next r)

  abbrev EndsBeside : List Answer → State → State → Type 0
  EndsBeside [] u r = Twin u r
  EndsBeside (a ∷ xs) u r = EndsBeside xs u (next r)

  abbrev BreaksAt : ℕ → Record → State → State → Type 0
  BreaksAt zero q u r = Breaks q u (calm r)
  BreaksAt (suc n) q u r = Goes (calm r) × BreaksAt n q u (next r)

  -- A course that goes as that machine goes.
  abbrev pub Follows : Course → State → Type 0
  Follows (quiet xs u) r = Matches xs r × EndsBeside xs u r
  Follows (broken xs q u) r = Matches xs r × ((n : ℕ) × BreaksAt n q u r)

  follows_ahead : (a : Answer) (rest : Course) (r : State) → a ≡ answer_of (calm r) → Goes (calm r) → Follows rest (next r) → Follows (ahead a rest) r
  follows_ahead a (quiet xs u) r e g h = ((e, h.0), h.1)
  follows_ahead a (broken xs q u) r e g h = ((e, h.0), (suc h.1.0, (g, h.1.1)))

  -- A step without an interrupt, which left s and which the other machine ends by x, then a rest.
  follows_goes :
      (segments : List ℕ) (r : State) (a : Answer) (s : State) (x : Ending) (rest : Course) → calm r ≡ x → a ≡ answer_of x → Goes x →
      Twin s (state_of x) → s.segments ≡ segments → NoDeviceInterrupt (ahead a rest) →
      ((r : State) → Twin s r → s.segments ≡ segments → NoDeviceInterrupt rest → Follows rest r) → Follows (ahead a rest) r
  follows_goes g r a s x rest c e y h i d f =
      follows_ahead a rest r (e ∙ ap answer_of (sym c)) (subst Goes (sym c) y)
      (f (next r) (subst (λ (z : Ending). Twin s (state_of z)) (sym c) h) i (no_device_later a rest d))

  -- Any step, then a rest.
  follows_step :
      (segments : List ℕ) (w : Desk) (r : State) (e x : Ending) (rest : Course) → calm r ≡ x → SameEnd e x → KeptEnd w.core e →
      w.core.segments ≡ segments → NoDeviceInterrupt (joined (event_of w e) (core_of w e) rest) →
      ((r : State) → Twin (core_of w e) r → (core_of w e).segments ≡ segments → NoDeviceInterrupt rest → Follows rest r) →
      Follows (joined (event_of w e) (core_of w e) rest) r
  follows_step g w r (finished a) (finished b) rest c h k i d f =
      follows_goes g r (stepped Done) a (finished b) rest c refl tt h (k.same_segments ∙ i) d f
  follows_step g w r (finished a) (waiting b) rest c h k i d f = absurd h
  follows_step g w r (finished a) (took q b) rest c h k i d f = absurd h
  follows_step g w r (waiting a) (finished b) rest c h k i d f = absurd h
  follows_step g w r (waiting a) (waiting b) rest c h k i d f =
      follows_goes g r (stepped Waiting) a (waiting b) rest c refl tt h (k.same_segments ∙ i) d f
  follows_step g w r (waiting a) (took q b) rest c h k i d f = absurd h
  follows_step g w r (took p a) (finished b) rest c h k i d f = absurd h
  follows_step g w r (took p a) (waiting b) rest c h k i d f = absurd h
  follows_step g w r (took p a) (took q b) rest c h k i d f =
      ((ap (λ z. stepped (Interrupted z)) h.cause ∙ ap answer_of (sym c), tt), (zero, subst (Breaks p a) (sym c) h.saving))

  -- A call, then a rest.
  follows_one :
      (segments : List ℕ) (w : Desk) (r : State) (e : Event) (u : State) (held : ℕ → Place → Place) (rest : Course) →
      Doing meaning segments w e u held → Twin w.core r → w.core.segments ≡ segments → NoDeviceInterrupt (joined e u rest) →
      ((r : State) → Twin u r → u.segments ≡ segments → NoDeviceInterrupt rest → Follows rest r) → Follows (joined e u rest) r
  follows_one g w r e u held rest (apart m _ _ window) h i d f =
      f r (twin_apart w.core r m (λ p x. window p (subst (λ (l : List ℕ). InWindow l p) i x)) h) i d
  follows_one g w r e u held rest (stepping reply) h i d f =
      let s = w.core in
      let x = step_of meaning reply s in
      let n = no_device_lem w x (core_of w x) rest d in
      follows_step g w r x (calm r) rest refl (served_alike meaning reply r.bus (poll s) s r h n)
      (served_kept meaning reply (poll s) s h.protects h.full n) i d f

  -- Every list of calls goes so, from a machine beside it.
  pub follows :
      (l : List Continued) (segments : List ℕ) (w : Desk) (r : State) → Twin w.core r → w.core.segments ≡ segments →
      AllOutside meaning segments l w → NoDeviceInterrupt (course meaning l w) → Follows (course meaning l w) r
  follows [] g w r h i o d = (tt, h)
  follows (c ∷ l) g w r h i o d =
      follows_one g w r (event meaning c w) (after meaning c w).core (λ p x. by_deposit meaning p c w x) (course meaning l (after meaning c w))
      (doing meaning g w c o.0) h i d
      (λ r' h' i' d'. follows l g (after meaning c w) r' h' i' o.1 d')

  -- ── Two that follow one ──
  matches : (c : Course) (r : State) → Follows c r → Matches (answers c) r
  matches (quiet xs u) r h = h.0
  matches (broken xs q u) r h = h.0

  same_answer :
      (xs ys : List Answer) (r : State) → Matches xs r → Matches ys r → (k : ℕ) → k < length xs → k < length ys →
      get_or xs k done ≡ get_or ys k done
  same_answer [] ys r h j k p q = absurd (omega arith)
  same_answer (x ∷ xs) [] r h j k p q = absurd (omega arith)
  same_answer (x ∷ xs) (y ∷ ys) r h j zero p q = h.0 ∙ sym j.0
  same_answer (x ∷ xs) (y ∷ ys) r h j (suc k) p q = same_answer xs ys (next r) h.1 j.1 k (omega arith) (omega arith)

  pub same_answers_lem : (c d : Course) (r : State) → Follows c r → Follows d r → SameAnswers c d
  same_answers_lem c d r h j = same_answer (answers c) (answers d) r (matches c r h) (matches d r j)

  ends_beside : (xs ys : List Answer) (u v r : State) → EndsBeside xs u r → EndsBeside ys v r → length xs ≡ length ys → Twin u v
  ends_beside [] [] u v r h k e = beside u v r h k
  ends_beside [] (y ∷ ys) u v r h k e = absurd (omega arith)
  ends_beside (x ∷ xs) [] u v r h k e = absurd (omega arith)
  ends_beside (x ∷ xs) (y ∷ ys) u v r h k e = ends_beside xs ys u v (next r) h k (omega arith)

  -- Two interrupts that are each like that of the machine that only steps; it takes just one first.
  same_breaks : (p q : Record) (u v : State) (e : Ending) → Breaks p u e → Breaks q v e → SavesTheSame p q u v
  same_breaks p q u v (finished s) h k = absurd h
  same_breaks p q u v (waiting s) h k = absurd h
  same_breaks p q u v (took r s) h k =
      record { status = h.status ∙ sym k.status; location = h.location ∙ sym k.location; one_saves = h.one_saves; other_saves = k.one_saves }

  not_both : (p : Record) (u : State) (e : Ending) → Goes e → Breaks p u e → ⊥
  not_both p u (finished s) g b = b
  not_both p u (waiting s) g b = b
  not_both p u (took r s) g b = g

  same_break : (m n : ℕ) (p q : Record) (u v r : State) → BreaksAt m p u r → BreaksAt n q v r → SavesTheSame p q u v
  same_break zero zero p q u v r h k = same_breaks p q u v (calm r) h k
  same_break zero (suc n) p q u v r h k = absurd (not_both p u (calm r) k.0 h)
  same_break (suc m) zero p q u v r h k = absurd (not_both q v (calm r) h.0 k)
  same_break (suc m) (suc n) p q u v r h k = same_break m n p q u v (next r) h.1 k.1

  pub same_saving_lem : (c d : Course) (r : State) → Follows c r → Follows d r → SameSaving c d
  same_saving_lem (quiet xs u) d r h k = tt
  same_saving_lem (broken xs p u) (quiet ys v) r h k = tt
  same_saving_lem (broken xs p u) (broken ys q v) r h k = same_break h.1.0 k.1.0 p q u v r h.1.1 k.1.1

-- Before the first interrupt, after equally many accepted steps: alike by program address.
abbrev pub StillTwin : Course → Course → Type 0
StillTwin (quiet xs s) (quiet ys t) = length xs ≡ length ys → Twin s t
StillTwin (quiet xs s) (broken ys q t) = Unit {0}
StillTwin (broken xs r s) d = Unit {0}

pub still_twin_lem : (meaning : ℕ → Prog) (c d : Course) (r : State) → Follows meaning c r → Follows meaning d r → StillTwin c d
still_twin_lem meaning (quiet xs u) (quiet ys v) r h k = ends_beside meaning xs ys u v r h.1 k.1
still_twin_lem meaning (quiet xs u) (broken ys q v) r h k = tt
still_twin_lem meaning (broken xs p u) d r h k = tt
