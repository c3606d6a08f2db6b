-- What lasts through every tree of effects and every step, protected or not: the number of registers, the zero bits of the segmentation
-- registers, and the places of the store.
use Rattle.std.proofs.Common.{◌≡◌, ℕ, Bool, true, false, cond, Ok, Err, T, eqb, List, length, get_or, set, Some, None, Option, sym, refl, ap, ◌∙◌, subst, arith, length-set, eqb→eq}
use Rattle.std.proofs.lemmas.Grind.{common_steps}
use Rattle.model.specs.declared.Access.{Access}
use Rattle.model.specs.declared.Access.TheVariants.{Fetch, Read, Write}
use Rattle.model.specs.declared.Grant.TheVariants.{Plain, Reported}
use Rattle.model.specs.declared.Kind.{Kind}
use Rattle.model.specs.declared.Kind.TheVariants.{Writable, Fixed, Unfitted}
use Rattle.model.specs.declared.Trap.TheVariants.{Illegal, Arithmetic, Refusal, Supervisor}
use Rattle.model.specs.Stores.{Store, taken, stored}
use Rattle.model.specs.Buses.{Bus}
use Rattle.model.specs.States.{State, with_pending}
use Rattle.model.specs.Status.{relocated, protected, waits, arithmetic_on, register_count, selected, slot, address}
use Rattle.model.specs.Controller.{Verdict, verdict, is_segment, segment_at, used, segments_after}
use Rattle.model.specs.Effects.{Out, went, stopped, Prog, ret, stop, privileged, reg, set_reg, get_code, set_code, get_location, jump, fetch, load, store, check, get_status, set_status, answers, sense, read_from, write_to, command_to, seq, and_then, admitted, translated, inspected, reaches_controller, read_at, written_at, run}
use Rattle.model.specs.Steps.{Ending, finished, waiting, took, ended, poll, cycle, served, stepped}
use Rattle.model.specs.Lasting.{SamePlaces}

-- ── Places ──
pub same_places : (m : Store) → SamePlaces m m
same_places m = record { fitted = refl; kind = λ _. refl; word = λ _ _. refl }

taken_unwritable : (k : Kind) (old new : ℕ) → (k ≡ Writable → ⊥) → taken k old new ≡ old
taken_unwritable Writable old new o = absurd (o refl)
taken_unwritable Fixed old new o = refl
taken_unwritable Unfitted old new o = refl

stored_unwritable :
    (n : Store) (p q v : ℕ) (b : Bool) → eqb q p ≡ b → (n.kind q ≡ Writable → ⊥) → cond b (taken (n.kind p) (n.word q) v) (n.word q) ≡ n.word q
stored_unwritable n p q v true e o =
    let f : q ≡ p = eqb→eq q p (subst T (sym e) tt) in
    taken_unwritable (n.kind p) (n.word q) v (λ w. o (ap n.kind f ∙ w))
stored_unwritable n p q v false e o = refl

pub places_stored : (m n : Store) (p v : ℕ) → SamePlaces m n → SamePlaces m (stored n p v)
places_stored m n p v h = record {
  fitted = h.fitted;
  kind = h.kind;
  word = λ q o. stored_unwritable n p q v (eqb q p) refl (λ w. o (sym (h.kind q) ∙ w)) ∙ h.word q o;
}

-- ── Segmentation registers ──
used_twice : (v : ℕ) → used (used v) ≡ used v
unfolding used
used_twice v = omega arith

-- A register that is replaced by one without unused bits.
pub used_set : (l : List ℕ) (i v n : ℕ) → used v ≡ v → used (get_or l n 0) ≡ get_or l n 0 → used (get_or (set l i v) n 0) ≡ get_or (set l i v) n 0
used_set l i v n e h = grind (arith, common_steps)

-- ── What lasts ──
pub record LastsOf (m : Store) (registers segments : List ℕ) (store : Store) : Type 0 where
  pub full : length registers ≡ register_count
  pub sixteen : length segments ≡ 16
  pub unused : (n : ℕ) → used (get_or segments n 0) ≡ get_or segments n 0
  pub places : SamePlaces m store

abbrev pub Lasts : Store → State → Type 0
Lasts m s = LastsOf m s.registers s.segments s.store

module _ (m : Store) where
  -- Other registers, as many.
  pub lasts_registers : (r registers segments : List ℕ) (n : Store) → LastsOf m registers segments n → length r ≡ length registers → LastsOf m r segments n
  lasts_registers r registers segments n h e = record { full = e ∙ h.full; sixteen = h.sixteen; unused = h.unused; places = h.places }

  pub lasts_set : (i v : ℕ) (registers segments : List ℕ) (n : Store) → LastsOf m registers segments n → LastsOf m (set registers i v) segments n
  lasts_set i v registers segments n h = lasts_registers (set registers i v) registers segments n h (length-set registers i v)

  -- Another segmentation register, and another store.
  pub lasts_segment :
      (i v : ℕ) (registers segments : List ℕ) (n : Store) → used v ≡ v → LastsOf m registers segments n → LastsOf m registers (set segments i v) n
  lasts_segment i v registers segments n e h = record {
    full = h.full;
    sixteen = length-set segments i v ∙ h.sixteen;
    unused = λ k. used_set segments i v k e (h.unused k);
    places = h.places;
  }

  pub lasts_stored : (p v : ℕ) (registers segments : List ℕ) (n : Store) → LastsOf m registers segments n → LastsOf m registers segments (stored n p v)
  lasts_stored p v registers segments n h =
      record { full = h.full; sixteen = h.sixteen; unused = h.unused; places = places_stored m n p v h.places }

  lasts_after :
      (r v : ℕ) (b : Bool) (registers segments : List ℕ) (n : Store) → LastsOf m registers segments n →
      LastsOf m registers (cond b (set segments (segment_at r) (used v)) segments) n
  lasts_after r v true registers segments n h = lasts_segment (segment_at r) (used v) registers segments n (used_twice v) h
  lasts_after r v false registers segments n h = h

  lasts_controller : (r v : ℕ) (registers segments : List ℕ) (n : Store) → LastsOf m registers segments n → LastsOf m registers (segments_after segments r v) n
  unfolding segments_after
  lasts_controller r v registers segments n h = lasts_after r _ (is_segment r) registers segments n h

  -- ── A tree of effects ──
  abbrev LastsOut : Out → Type 0
  LastsOut (went v s) = Lasts m s
  LastsOut (stopped c s) = Lasts m s

  either : (b : Bool) (x y : Out) → LastsOut x → LastsOut y → LastsOut (cond b x y)
  either true x y h k = h
  either false x y h k = k

  either_state : (b : Bool) (s t : State) → Lasts m s → Lasts m t → Lasts m (cond b s t)
  either_state true s t h k = h
  either_state false s t h k = k

  one_then : (x : Out) (f : ℕ → State → Out) → LastsOut x → ((v : ℕ) (t : State) → Lasts m t → LastsOut (f v t)) → LastsOut (and_then x f)
  one_then (went v t) f h k = k v t h
  one_then (stopped c t) f h k = h

  lasts_admitted : (v : Verdict) (r : ℕ) (s : State) → Lasts m s → LastsOut (admitted v r s)
  lasts_admitted (Err x) r s h = h
  lasts_admitted (Ok Plain) r s h = h
  lasts_admitted (Ok Reported) r s h = h

  lasts_inspected : (v : Verdict) (s : State) → Lasts m s → LastsOut (inspected v s)
  lasts_inspected (Err x) s h = h
  lasts_inspected (Ok g) s h = h

  lasts_translated : (u : Access) (a : ℕ) (s : State) → Lasts m s → LastsOut (translated u a s)
  lasts_translated u a s h = either (relocated s.status) _ _ (lasts_admitted (verdict u s.segments a) _ s h) h

  lasts_read : (u : Access) (a : ℕ) (s : State) → Lasts m s → LastsOut (and_then (translated u a s) read_at)
  lasts_read u a s h = one_then (translated u a s) read_at (lasts_translated u a s h) (λ r t k. either (reaches_controller r t) _ _ k k)

  lasts_written : (r : ℕ) (f : ℕ → ℕ) (s : State) → Lasts m s → Lasts m (written_at r f s)
  lasts_written r f s h =
      either_state (reaches_controller r s) _ _ (lasts_controller r _ s.registers s.segments s.store h)
      (lasts_stored _ _ s.registers s.segments s.store h)

  -- The induction.
  lasts_run : (f : Bus) (p : Prog) (s : State) → Lasts m s → LastsOut (run f p s)
  lasts_run f (ret v) s h = h
  lasts_run f (stop c) s h = h
  lasts_run f privileged s h = either (protected s.status) _ _ h h
  lasts_run f (reg n) s h = h
  lasts_run f (set_reg n v) s h = lasts_set (slot (selected s.status) n) v s.registers s.segments s.store h
  lasts_run f get_code s h = h
  lasts_run f (set_code c) s h = h
  lasts_run f get_location s h = h
  lasts_run f (jump a) s h = h
  lasts_run f (fetch a) s h = lasts_read Fetch (address a) s h
  lasts_run f (load a) s h = lasts_read Read (address a) s h
  lasts_run f (store a w) s h =
      one_then (translated Write (address a) s) (λ r t. went 0 (written_at r w t)) (lasts_translated Write (address a) s h) (λ r t k. lasts_written r w t k)
  lasts_run f (check u a) s h = either (relocated s.status) _ _ (lasts_inspected (verdict u s.segments (address a)) s h) h
  lasts_run f get_status s h = either (protected s.status) _ _ h h
  lasts_run f (set_status v) s h = either (protected s.status) _ _ h h
  lasts_run f (answers n) s h = either (protected s.status) _ _ h h
  lasts_run f (sense n) s h = either (protected s.status) _ _ h h
  lasts_run f (read_from n) s h = either (protected s.status) _ _ h (either (s.bus n).answers _ _ h h)
  lasts_run f (write_to n v) s h = either (protected s.status) _ _ h (either (s.bus n).answers _ _ h h)
  lasts_run f (command_to n v) s h = either (protected s.status) _ _ h (either (s.bus n).answers _ _ h h)
  lasts_run f (seq p k) s h = one_then (run f p s) (λ v u. run f (k v) u) (lasts_run f p s h) (λ v u e. lasts_run f (k v) u e)

  -- ── A step ──
  abbrev pub LastsEnd : Ending → Type 0
  LastsEnd (finished s) = Lasts m s
  LastsEnd (waiting s) = Lasts m s
  LastsEnd (took r s) = Lasts m s

  either_end : (b : Bool) (x y : Ending) → LastsEnd x → LastsEnd y → LastsEnd (cond b x y)
  either_end true x y h k = h
  either_end false x y h k = k

  lasts_ended : (own : ℕ) (x : Out) → LastsOut x → LastsEnd (ended own x)
  lasts_ended own (went v t) h = either_end t.pending _ _ (lasts_registers _ t.registers t.segments t.store h (simp length-set)) h
  lasts_ended own (stopped Illegal t) h = lasts_registers _ t.registers t.segments t.store h (simp length-set)
  lasts_ended own (stopped Arithmetic t) h =
      either_end (arithmetic_on t.status) _ _ (lasts_registers _ t.registers t.segments t.store h (simp length-set)) h
  lasts_ended own (stopped Refusal t) h = lasts_registers _ t.registers t.segments t.store h (simp length-set)
  lasts_ended own (stopped (Supervisor n a) t) h = lasts_registers _ t.registers t.segments t.store h (simp length-set)

  lasts_served : (meaning : ℕ → Prog) (f : Bus) (o : Option ℕ) (s : State) → Lasts m s → LastsEnd (served meaning f o s)
  lasts_served meaning f (Some n) s h = lasts_registers _ s.registers s.segments s.store h (simp length-set)
  lasts_served meaning f None s h =
      either_end (waits s.status) _ _ h (lasts_ended s.location (run f (cycle meaning) (with_pending false s)) (lasts_run f (cycle meaning) (with_pending false s) h))

  pub lasts_step : (meaning : ℕ → Prog) (f : Bus) (s : State) → Lasts m s → LastsEnd (stepped meaning f s)
  lasts_step meaning f s h = lasts_served meaning f (poll s) s h
