-- What lasts in every machine that calls lead to.
use Rattle.std.proofs.Common.{◌≡◌, ℕ, zero, suc, ◌+◌, ◌<◌, ◌≤◌, ◌-◌, Bool, true, false, not, T, eqb, List, length, get_or, replicate, Some, None, Option, sym, refl, ap, ◌∙◌, subst, arith, eqb→eq}
use Rattle.std.proofs.lemmas.Grind.{common_steps}
use Rattle.model.specs.declared.Item.{Item}
use Rattle.model.specs.declared.Item.TheVariants.{General, Segment, Status, Location}
use Rattle.model.specs.declared.Record.{Record}
use Rattle.model.specs.declared.StepAnswer.{StepAnswer}
use Rattle.model.specs.declared.Kind.{Kind}
use Rattle.model.specs.declared.Kind.TheVariants.{Writable, Unfitted}
use Rattle.model.specs.Stores.{Store, Place, shows, at, store_limit, Sound}
use Rattle.model.specs.Buses.{Bus}
use Rattle.model.specs.States.{State}
use Rattle.model.specs.Status.{bit, file_of, slot}
use Rattle.model.specs.Controller.{used}
use Rattle.model.specs.Effects.{Prog}
use Rattle.model.specs.Steps.{Ending, finished, waiting, took, stepped, Over, over, over_with}
use Rattle.model.specs.Answers.{Answer}
use Rattle.model.specs.Console.{Desk, or_else, deny_if, off_denial, key_denial, item_denial, Act, turn_key, initialise, examine, deposit, set_item, show_item, step, denial, Did, with_item, did_step, unless_denied, obeyed, fresh, call}
use Rattle.model.specs.Runs.{Moves, Steps, run_denial, RunsUnless}
use Rattle.model.specs.Tapes.{Order, point, obey, go, Spelling, Obeys, Playing, ends, breaks, halts, goes_on, PlaysUnless}
use Rattle.model.specs.Calls.{Reached, new, called, ran, played}
use Rattle.model.specs.Lasting.{UnusedAreZero, SamePlaces, PlacesStay, StoresStaySound, RegistersStay, SegmentsStay, UnusedBitsStayZero}
use Rattle.model.proofs.Lasting.{Lasts, LastsEnd, lasts_set, lasts_segment, lasts_stored, lasts_step, same_places}

-- ── The zero bits ──
-- All segmentation registers of a new machine are 0.
zero_at : (k n d : ℕ) → d ≡ 0 → get_or (replicate k d) n d ≡ d
zero_at k n d e = grind (arith, common_steps)

no_bits : (n : ℕ) → used (get_or (replicate 16 0) n 0) ≡ get_or (replicate 16 0) n 0
unfolding used
no_bits n = rw (zero_at 16 n 0 refl)

bit_off : (x : ℕ) → x ≡ 0 → eqb x 1 ≡ false
bit_off x e = ap (λ (y : ℕ). eqb y 1) e

left_zero : (g : ℕ) → used g ≡ g → (i : ℕ) → i < 4 → bit i g ≡ false
unfolding used
left_zero g e zero b = bit_off _ (omega arith)
left_zero g e (suc zero) b = bit_off _ (omega arith)
left_zero g e (suc (suc zero)) b = bit_off _ (omega arith)
left_zero g e (suc (suc (suc zero))) b = bit_off _ (omega arith)
left_zero g e (suc (suc (suc (suc i)))) b = absurd (omega arith)

right_at : (g : ℕ) → used g ≡ g → (j : ℕ) → j < 4 → bit (28 + j) g ≡ false
unfolding used
right_at g e zero b = bit_off _ (omega arith)
right_at g e (suc zero) b = bit_off _ (omega arith)
right_at g e (suc (suc zero)) b = bit_off _ (omega arith)
right_at g e (suc (suc (suc zero))) b = bit_off _ (omega arith)
right_at g e (suc (suc (suc (suc i)))) b = absurd (omega arith)

right_zero : (g : ℕ) → used g ≡ g → (i : ℕ) → 28 ≤ i → i < 32 → bit i g ≡ false
right_zero g e i b c =
    let k : 28 + (i - 28) ≡ i = omega arith in
    subst (λ (x : ℕ). bit x g ≡ false) k (right_at g e (i - 28) (omega arith))

unused_zero : (g : ℕ) → used g ≡ g → UnusedAreZero g
unused_zero g e = record { left = left_zero g e; right = right_zero g e; whole = e }

-- ── The store ──
sound_rest : (n : Store) (p : ℕ) → n.kind p ≡ Unfitted → n.word p ≡ 0 → at n p ≡ shows Unfitted 0
sound_rest n p e f = cc

-- A store with the places of a sound one is sound.
sound_places : (m n : Store) → SamePlaces m n → Sound m → Sound n
sound_places m n h s = record {
  limited = subst (λ (x : ℕ). x ≤ store_limit) (sym h.fitted) s.limited;
  first = λ p b e. s.first p (subst (λ (x : ℕ). p < x) h.fitted b) (sym (h.kind p) ∙ e);
  rest = λ p b.
      let q = s.rest p (subst (λ (x : ℕ). x ≤ p) h.fitted b) in
      let k = ap kind_of q in
      sound_rest n p (h.kind p ∙ k) (h.word p (λ w. unfitted_not_writable (sym k ∙ w)) ∙ ap word_of q);
}
  where
    kind_of : Place → Kind
    kind_of (shows k v) = k

    word_of : Place → ℕ
    word_of (shows k v) = v

    unfitted_not_writable : Unfitted ≡ Writable → ⊥
    unfitted_not_writable e = cc

-- ── The console ──
-- A set of a segmentation register that is not denied has no unused bit.
not_denied : (d e : Option ℕ) (b : Bool) → or_else d (or_else e (deny_if (not b) 4)) ≡ None → b ≡ true
not_denied (Some n) e b h = cc
not_denied None (Some n) b h = cc
not_denied None None true h = refl
not_denied None None false h = cc

-- The processor that a step leaves.
abbrev state_of : Over → State
state_of (over a s q) = s

module _ (m : Store) where
  -- A call, by its denial d.
  lasts_unless : (d : Option ℕ) (w : Desk) (x : Did) → Lasts m w.core → (d ≡ None → Lasts m x.after.core) → Lasts m (unless_denied d w x).after.core
  lasts_unless (Some n) w x h k = h
  lasts_unless None w x h k = k refl

  lasts_item : (i : Item) (v : ℕ) (w : Desk) → denial (set_item i v) w ≡ None → Lasts m w.core → Lasts m (with_item i v w.core)
  lasts_item (General k n) v w e h = lasts_set m (slot (file_of k) n) v w.core.registers w.core.segments w.core.store h
  lasts_item (Segment n) v w e h =
      let b = not_denied (key_denial w) (item_denial (Segment n)) (eqb (used v) v) e in
      lasts_segment m n v w.core.registers w.core.segments w.core.store (eqb→eq (used v) v (subst T (sym b) tt)) h
  lasts_item Status v w e h = h
  lasts_item Location v w e h = h

  lasts_did : (w : Desk) (e : Ending) → LastsEnd m e → Lasts m (did_step w e).after.core
  lasts_did w (finished s) h = h
  lasts_did w (waiting s) h = h
  lasts_did w (took r s) h = h

  -- A processor at its start.
  lasts_fresh : (s : State) → Lasts m s → Lasts m (fresh s.store s.bus)
  lasts_fresh s h = record { full = refl; sixteen = refl; unused = no_bits; places = h.places }

  -- ── Runs ──
  lasts_over : (q : List Record) (e : Ending) → LastsEnd m e → Lasts m (state_of (over_with q e))
  lasts_over q (finished s) h = h
  lasts_over q (waiting s) h = h
  lasts_over q (took r s) h = h

  module _ (meaning : ℕ → Prog) where
    lasts_obeyed : (c : Act) (w : Desk) → denial c w ≡ None → Lasts m w.core → Lasts m (obeyed meaning c w).after.core
    lasts_obeyed (turn_key n) w e h = h
    lasts_obeyed initialise w e h = lasts_fresh w.core h
    lasts_obeyed (examine a) w e h = h
    lasts_obeyed (deposit a v) w e h = lasts_stored m _ v w.core.registers w.core.segments w.core.store h
    lasts_obeyed (set_item i v) w e h = lasts_item i v w e h
    lasts_obeyed (show_item i) w e h = h
    lasts_obeyed (step room reply) w e h = lasts_did w (stepped meaning reply w.core) (lasts_step m meaning reply w.core h)

    lasts_call : (c : Act) (w : Desk) → Lasts m w.core → Lasts m (call meaning c w).after.core
    lasts_call c w h = lasts_unless (denial c w) w (obeyed meaning c w) h (λ e. lasts_obeyed c w e h)

    lasts_moves : (s t : State) (q p : List Record) (a : StepAnswer) → Moves meaning s q a t p → Lasts m s → Lasts m t
    lasts_moves s t q p a o h =
        subst (Lasts m) (ap state_of o.does) (lasts_over q (stepped meaning o.reply s) (lasts_step m meaning o.reply s h))

    lasts_steps : (cap n : ℕ) (s t : State) (q p : List Record) → Steps meaning cap n s q t p → Lasts m s → Lasts m t
    unfolding Steps
    lasts_steps cap zero s t q p o h = subst (Lasts m) (sym o.0) h
    lasts_steps cap (suc n) s t q p o h =
        let x = o.3 in
        lasts_moves o.0 t o.1 p x.answer x.moves (lasts_steps cap n s o.0 q o.1 o.2 h)

    lasts_ran :
        (d : Option ℕ) (cap count : ℕ) (w v : Desk) (q p : List Record) (a : Answer) → RunsUnless meaning d cap count w q a v p →
        Lasts m w.core → Lasts m v.core
    lasts_ran (Some n) cap count w v q p a o h = subst (λ (u : Desk). Lasts m u.core) (sym o.machine) h
    lasts_ran None cap count w v q p a o h =
        let r = o.ran in
        lasts_moves r.state v.core r.line p r.answer r.last (lasts_steps cap r.before w.core r.state q r.line r.goes h)

    -- ── Tapes ──
    lasts_order : (o : Order) (cap : ℕ) (w v : Desk) (q p : List Record) (a : Answer) → Obeys meaning cap o w q a v p → Lasts m w.core → Lasts m v.core
    lasts_order point cap w v q p a o h = subst (λ (u : Desk). Lasts m u.core) (sym o.1) h
    lasts_order (obey c) cap w v q p a o h = subst (Lasts m) (ap (λ (d : Did). d.after.core) o.0) (lasts_call c w h)
    lasts_order (go count) cap w v q p a o h = lasts_ran (run_denial meaning count (cap - length q) w) cap count w v q p a o h

    lasts_playing :
        {cap : ℕ} {o : Spelling} {n : ℕ} {w : Desk} {q : List Record} {a : Answer} {v : Desk} {p : List Record} →
        Playing meaning cap o n w q a v p → Lasts m w.core → Lasts m v.core
    lasts_playing ends h = h
    lasts_playing breaks h = h
    lasts_playing (halts {o = o} {w = w} {v = v} {q = q} {p = p} x) h = lasts_order o _ w v q p _ x h
    lasts_playing (goes_on {o = o} {w = w} {u = u} {q = q} {r = r} b x e rest) h = lasts_playing rest (lasts_order o _ w u q r b x h)

    lasts_tape :
        (d : Option ℕ) (cap : ℕ) (tape : List ℕ) (w v : Desk) (q p : List Record) (a : Answer) → PlaysUnless meaning d cap tape w q a v p →
        Lasts m w.core → Lasts m v.core
    lasts_tape (Some n) cap tape w v q p a o h = subst (λ (u : Desk). Lasts m u.core) (sym o.machine) h
    lasts_tape None cap tape w v q p a o h = subst (λ (u : Desk). Lasts m u.core) (sym o.back) (lasts_playing o.plays h)

    -- ── Histories ──
    lasts_reached : {b : Bus} {w : Desk} → Reached meaning m b w → Lasts m w.core
    lasts_reached new = record { full = refl; sixteen = refl; unused = no_bits; places = same_places m }
    lasts_reached (called {w = w} c past) = lasts_call c w (lasts_reached past)
    lasts_reached (ran {w = w} {v = v} cap count q p a past o) = lasts_ran (run_denial meaning count (cap - length q) w) cap count w v q p a o (lasts_reached past)
    lasts_reached (played {w = w} {v = v} cap tape q p a past o) = lasts_tape (off_denial w) cap tape w v q p a o (lasts_reached past)

-- ── The promises ──
pub registers_stay : RegistersStay
registers_stay meaning m b w past = (lasts_reached m meaning past).full

pub segments_stay : SegmentsStay
segments_stay meaning m b w past = (lasts_reached m meaning past).sixteen

pub unused_bits_stay_zero : UnusedBitsStayZero
unused_bits_stay_zero meaning m b w past n = unused_zero _ ((lasts_reached m meaning past).unused n)

pub places_stay : PlacesStay
places_stay meaning m b w past = (lasts_reached m meaning past).places

pub stores_stay_sound : StoresStaySound
stores_stay_sound meaning m b w past = sound_places m w.core.store (places_stay meaning m b w past)
