-- The whole.
use Rattle.std.proofs.Common.{◌≡◌, ℕ, zero, suc, List, [], ◌∷◌, take, sym, refl, ap, ◌∙◌, subst}
use Rattle.model.specs.Stores.{at}
use Rattle.model.specs.States.{State}
use Rattle.model.specs.Controller.{place}
use Rattle.model.specs.Effects.{Prog}
use Rattle.model.specs.Console.{Desk}
use Rattle.model.specs.Windows.{Protected, LookAlike}
use Rattle.model.specs.Calls.{Continued, Event, unseen, answered, interrupted, Course, quiet, broken, final, NoDeviceInterrupt, ahead, joined, after, event, course, AllOutside}
use Rattle.model.specs.Isolation.{SameAnswers, StillAlike, SameSaving, Allowed, IsolationOfAny, Isolation}
use Rattle.model.proofs.Views.{SameView, view_of, Visible}
use Rattle.model.proofs.Effects.{Full, Twin}
use Rattle.model.proofs.Histories.{registers_stay}
use Rattle.model.proofs.Calls.{no_device_later}
use Rattle.model.proofs.Followers.{follows, same_answers_lem, StillTwin, still_twin_lem, same_saving_lem}
use Rattle.model.proofs.Confinement.{confined}

-- ── First parts of a list ──
-- What is asked of a list holds of its first parts.
device_ahead :
    (e : Event) (u : State) (rest part : Course) → (NoDeviceInterrupt rest → NoDeviceInterrupt part) → NoDeviceInterrupt (joined e u rest) →
    NoDeviceInterrupt (joined e u part)
device_ahead unseen u rest part f h = f h
device_ahead (answered a) u rest part f h = ahead_too part (f (no_device_later a rest h))
  where
    ahead_too : (c : Course) → NoDeviceInterrupt c → NoDeviceInterrupt (ahead a c)
    ahead_too (quiet xs s) k = tt
    ahead_too (broken xs r s) k = k
device_ahead (interrupted a r) u rest part f h = h

module _ (meaning : ℕ → Prog) where
  outside_part : (i : ℕ) (l : List Continued) (segments : List ℕ) (w : Desk) → AllOutside meaning segments l w → AllOutside meaning segments (take i l) w
  outside_part zero l g w o = tt
  outside_part (suc i) [] g w o = tt
  outside_part (suc i) (c ∷ l) g w o = (o.0, outside_part i l g (after meaning c w) o.1)

  undisturbed_part : (i : ℕ) (l : List Continued) (w : Desk) → NoDeviceInterrupt (course meaning l w) → NoDeviceInterrupt (course meaning (take i l) w)
  undisturbed_part zero l w d = tt
  undisturbed_part (suc i) [] w d = tt
  undisturbed_part (suc i) (c ∷ l) w d =
      device_ahead (event meaning c w) (after meaning c w).core (course meaning l (after meaning c w)) (course meaning (take i l) (after meaning c w))
      (undisturbed_part i l (after meaning c w)) d

  allowed_part : (i : ℕ) (l : List Continued) (w : Desk) → Allowed meaning w l → Allowed meaning w (take i l)
  allowed_part i l w a = record { outside = outside_part i l w.core.segments w a.outside; undisturbed = undisturbed_part i l w a.undisturbed }

  -- ── By program address ──
  pub record IsolatedByAddress (w v : Desk) (l k : List Continued) : Type 0 where
    pub same_answers : SameAnswers (course meaning l w) (course meaning k v)
    pub still_twin : StillTwin (course meaning l w) (course meaning k v)
    pub same_saving : SameSaving (course meaning l w) (course meaning k v)

  pub by_address : (w v : Desk) → Twin w.core v.core → (l k : List Continued) → Allowed meaning w l → Allowed meaning v k → IsolatedByAddress w v l k
  by_address w v h l k a b =
      let s = v.core in
      let one = follows meaning l w.core.segments w s h refl a.outside a.undisturbed in
      let other = follows meaning k s.segments v s (itself w.core s h) refl b.outside b.undisturbed in
      let c = course meaning l w in
      let d = course meaning k v in
      record {
        same_answers = same_answers_lem meaning c d s one other;
        still_twin = still_twin_lem meaning c d s one other;
        same_saving = same_saving_lem meaning c d s one other;
      }
    where
      itself : (s t : State) → Twin s t → Twin t t
      itself s t h = record {
        protects = subst Protected h.same_status h.protects;
        same_status = refl;
        same_location = refl;
        same_registers = λ _. refl;
        view = view_of t.segments t.store t.store (λ _ _. refl);
        full = h.full';
        full' = h.full';
      }

-- ── With equal segmentation registers ──
-- Alike in the plain sense is alike by address, and back where the segmentation registers are equal.
alike_twin : (s t : State) → LookAlike s t → Full s → Full t → Twin s t
alike_twin s t a m n = record {
  protects = a.one_protects;
  same_status = a.status;
  same_location = a.location;
  same_registers = a.registers;
  view = subst (λ (g : List ℕ). SameView s.segments g s.store t.store) a.segments
      (view_of s.segments s.store t.store (λ x w. a.window (place s.segments x) (x, w)));
  full = m;
  full' = n;
}

twin_alike : (s t : State) → s.segments ≡ t.segments → Twin s t → LookAlike s t
twin_alike s t e h = record {
  one_protects = h.protects;
  other_protects = subst Protected h.same_status h.protects;
  status = h.same_status;
  location = h.same_location;
  registers = h.same_registers;
  segments = e;
  window = λ p i.
      let x = i.0 in
      let r = i.1 in
      let w : Visible s.segments x = record { short = r.short; limited = r.limited; presence = r.presence; there = refl } in
      ap (at s.store) (sym r.there) ∙ h.view.window x w ∙ ap (at t.store) (ap (λ (g : List ℕ). place g x) (sym e) ∙ r.there);
}

still_alike_lem : (c d : Course) → (final c).segments ≡ (final d).segments → StillTwin c d → StillAlike c d
still_alike_lem (quiet xs u) (quiet ys v) e h = λ n. twin_alike u v e (h n)
still_alike_lem (quiet xs u) (broken ys q v) e h = tt
still_alike_lem (broken xs p u) d e h = tt

pub isolation_of_any : IsolationOfAny
isolation_of_any meaning w v m n a l k p q =
    let h = alike_twin w.core v.core a m n in
    let x = by_address meaning w v h l k p q in
    let one = λ (i : ℕ). confined meaning w (take i l) a.one_protects m (allowed_part meaning i l w p) in
    let other = λ (j : ℕ). confined meaning v (take j k) a.other_protects n (allowed_part meaning j k v q) in
    record {
      same_answers = x.same_answers;
      still_alike = λ i j.
          still_alike_lem (course meaning (take i l) w) (course meaning (take j k) v) ((one i).segments ∙ a.segments ∙ sym (other j).segments)
          (by_address meaning w v h (take i l) (take j k) (allowed_part meaning i l w p) (allowed_part meaning j k v q)).still_twin;
      one_confined = one;
      other_confined = other;
      same_saving = x.same_saving;
    }

pub isolation : Isolation
isolation meaning m n b d w v past other = isolation_of_any meaning w v (registers_stay meaning m b w past) (registers_stay meaning n d v other)
