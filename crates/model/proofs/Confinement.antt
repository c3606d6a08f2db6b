-- What a list of calls leaves alone.
use Rattle.std.proofs.Common.{◌≡◌, ℕ, List, [], ◌∷◌, length, get_or, refl, ap, ◌∙◌}
use Rattle.model.specs.declared.StepAnswer.TheVariants.{Done, Waiting}
use Rattle.model.specs.Stores.{Place, at}
use Rattle.model.specs.States.{State, with_store}
use Rattle.model.specs.Status.{upper, selected, slot}
use Rattle.model.specs.Effects.{Prog}
use Rattle.model.specs.Steps.{Ending, finished, waiting, took, poll, stepped as step_of}
use Rattle.model.specs.Answers.{Answer, stepped}
use Rattle.model.specs.Console.{Desk}
use Rattle.model.specs.Windows.{Protected, InWritableWindow}
use Rattle.model.specs.Calls.{Continued, Event, Course, quiet, broken, final, NoDeviceInterrupt, ahead, joined, held_through, after, event, course, AllOutside, by_deposit, by_deposits}
use Rattle.model.specs.Isolation.{Saves, SameUpper, FilledByInterrupt, Confined, Allowed}
use Rattle.model.proofs.Views.{protected_upper}
use Rattle.model.proofs.Effects.{Full, Kept, KeptThrough, kept_but_store, kept_same, kept_then}
use Rattle.model.proofs.Steps.{KeptEnd, served_kept}
use Rattle.model.proofs.Calls.{event_of, core_of, Doing, apart, stepping, doing, no_device_lem, no_device_later}

-- What a course from s on leaves alone; its interrupt saves the PSW.
abbrev KeptCourse : State → (ℕ → Place) → Course → Type 0
KeptCourse s held (quiet xs u) = Kept s u held
KeptCourse s held (broken xs q u) = KeptThrough s q u held × Saves q u

kept_ahead : (s : State) (held : ℕ → Place) (a : Answer) (rest : Course) → KeptCourse s held rest → KeptCourse s held (ahead a rest)
kept_ahead s held a (quiet xs u) h = h
kept_ahead s held a (broken xs q u) h = h

-- What is left alone before a rest, by a call that takes no interrupt.
kept_rest :
    (s t : State) (held : ℕ → Place) (later : ℕ → Place → Place) (rest : Course) → Kept s t held →
    KeptCourse t (λ p. later p (at t.store p)) rest → KeptCourse s (λ p. later p (held p)) rest
kept_rest s t held later (quiet xs u) h k = kept_then s t _ _ _ _ _ _ held later h k
kept_rest s t held later (broken xs q u) h k = (kept_then s t _ _ _ _ _ _ held later h k.0, k.1)

-- .. by a step that takes none. What follows begins with bits 0 to 27 of the status and with all registers as they were.
kept_goes :
    (s t : State) (a : Answer) (later : ℕ → Place → Place) (rest : Course) → Kept s t (at s.store) → NoDeviceInterrupt (ahead a rest) →
    (upper t.status ≡ upper s.status → length t.registers ≡ length s.registers → NoDeviceInterrupt rest → KeptCourse t (λ p. later p (at t.store p)) rest) →
    KeptCourse s (λ p. later p (at s.store p)) (ahead a rest)
kept_goes s t a later rest k d f =
    kept_ahead s _ a rest (kept_rest s t (at s.store) later rest k (f k.same_upper k.same_count (no_device_later a rest d)))

-- .. by any step.
kept_step :
    (w : Desk) (e : Ending) (later : ℕ → Place → Place) (rest : Course) → KeptEnd w.core e →
    NoDeviceInterrupt (joined (event_of w e) (core_of w e) rest) →
    (upper (core_of w e).status ≡ upper w.core.status → length (core_of w e).registers ≡ length w.core.registers → NoDeviceInterrupt rest →
    KeptCourse (core_of w e) (λ p. later p (at (core_of w e).store p)) rest) →
    KeptCourse w.core (λ p. held_through (event_of w e) (at w.core.store p) (later p (at w.core.store p))) (joined (event_of w e) (core_of w e) rest)
kept_step w (finished t) later rest k d f = kept_goes w.core t (stepped Done) later rest k d f
kept_step w (waiting t) later rest k d f = kept_goes w.core t (stepped Waiting) later rest k d f
kept_step w (took q t) later rest k d f = k

-- ── The parts of the law ──
course_segments : (s : State) (held : ℕ → Place) (c : Course) → KeptCourse s held c → (final c).segments ≡ s.segments
course_segments s held (quiet xs u) h = h.same_segments
course_segments s held (broken xs q u) h = h.0.same_segments

course_places : (s : State) (held : ℕ → Place) (c : Course) → KeptCourse s held c → (p : ℕ) → (InWritableWindow s.segments p → ⊥) → at (final c).store p ≡ held p
course_places s held (quiet xs u) h = h.outside
course_places s held (broken xs q u) h = h.0.outside

course_sets :
    (s : State) (held : ℕ → Place) (c : Course) → KeptCourse s held c → (k n : ℕ) → (k ≡ selected s.status → ⊥) → (FilledByInterrupt c k n → ⊥) →
    get_or (final c).registers (slot k n) 0 ≡ get_or s.registers (slot k n) 0
course_sets s held (quiet xs u) h = h.other_sets
course_sets s held (broken xs q u) h = h.0.other_sets

course_upper : (s : State) (held : ℕ → Place) (c : Course) → KeptCourse s held c → SameUpper s.status c
course_upper s held (quiet xs u) h = h.same_upper
course_upper s held (broken xs q u) h = record { in_record = h.0.same_upper; in_register = ap upper h.1.status ∙ h.0.same_upper }

course_bus : (s : State) (held : ℕ → Place) (c : Course) → KeptCourse s held c → (final c).bus ≡ s.bus
course_bus s held (quiet xs u) h = h.same_bus
course_bus s held (broken xs q u) h = h.0.same_bus

module _ (meaning : ℕ → Prog) where
  -- .. by any call.
  kept_one :
      (segments : List ℕ) (w : Desk) (e : Event) (u : State) (held later : ℕ → Place → Place) (rest : Course) → Doing meaning segments w e u held →
      Protected w.core.status → Full w.core → NoDeviceInterrupt (joined e u rest) →
      (upper u.status ≡ upper w.core.status → length u.registers ≡ length w.core.registers → NoDeviceInterrupt rest →
      KeptCourse u (λ p. later p (at u.store p)) rest) →
      KeptCourse w.core (λ p. held_through e (held p (at w.core.store p)) (later p (held p (at w.core.store p)))) (joined e u rest)
  kept_one g w e u held later rest (apart m _ places _) h n d f =
      kept_rest w.core (with_store m w.core) (λ p. held p (at w.core.store p)) later rest
      (kept_but_store w.core m _ (λ p _. places p)) (f refl refl d)
  kept_one g w e u held later rest (stepping reply) h n d f =
      let x = step_of meaning reply w.core in
      kept_step w x later rest (served_kept meaning reply (poll w.core) w.core h n (no_device_lem w x (core_of w x) rest d)) d f

  -- A whole list.
  kept_list :
      (l : List Continued) (segments : List ℕ) (w : Desk) → Protected w.core.status → Full w.core → AllOutside meaning segments l w →
      NoDeviceInterrupt (course meaning l w) → KeptCourse w.core (λ p. by_deposits meaning p l w (at w.core.store p)) (course meaning l w)
  kept_list [] g w h n o d = kept_same w.core
  kept_list (c ∷ l) g w h n o d =
      kept_one g w (event meaning c w) (after meaning c w).core (λ p x. by_deposit meaning p c w x) (λ p x. by_deposits meaning p l (after meaning c w) x)
      (course meaning l (after meaning c w)) (doing meaning g w c o.0) h n d
      (λ e m d'. kept_list l g (after meaning c w) (protected_upper (after meaning c w).core.status w.core.status e h) (m ∙ n) o.1 d')

  pub confined : (w : Desk) (l : List Continued) → Protected w.core.status → Full w.core → Allowed meaning w l → Confined meaning w l
  confined w l h n a =
      let held = λ (p : ℕ). by_deposits meaning p l w (at w.core.store p) in
      let c = course meaning l w in
      let k = kept_list l w.core.segments w h n a.outside a.undisturbed in
      record {
        segments = course_segments w.core held c k;
        places = course_places w.core held c k;
        other_sets = course_sets w.core held c k;
        status = course_upper w.core held c k;
        devices = course_bus w.core held c k;
      }
