-- Trees of effects: a protected machine is confined, and two that look alike run alike. One induction over the tree for each.
use Rattle.std.proofs.Common.{◌≡◌, ℕ, ◌/◌, Bool, true, false, cond, Ok, Err, List, length, get_or, set, sym, refl, ap, ◌∙◌, subst, length-set, get_or-set_other}
use mathlib.Core.Bool.{false≢true}
use lib.Bits.{bit_or}
use Rattle.model.specs.declared.Access.{Access}
use Rattle.model.specs.declared.Access.TheVariants.{Fetch, Read, Write}
use Rattle.model.specs.declared.Grant.TheVariants.{Plain, Reported}
use Rattle.model.specs.declared.Trap.TheVariants.{Refusal}
use Rattle.model.specs.declared.Record.{Record}
use Rattle.model.specs.Stores.{Store, Place, at, revised, half_at}
use Rattle.model.specs.Buses.{Bus}
use Rattle.model.specs.States.{State, with_status, with_location, with_faults, with_pending, with_registers, with_store}
use Rattle.model.specs.Status.{relocated, protected, code_of, upper, recoded, register_count, selected, slot, address}
use Rattle.model.specs.Controller.{Verdict, verdict, real, place, fault_bit, write_report}
use Rattle.model.specs.Effects.{Out, went, stopped, Prog, ret, stop, privileged, reg, set_reg, get_code, set_code, get_location, jump, fetch, load, store, check, get_status, set_status, answers, sense, read_from, write_to, command_to, seq, and_then, admitted, translated, inspected, checked, read_at, written_at, run}
use Rattle.model.specs.Interrupts.{Fills}
use Rattle.model.specs.Windows.{Protected, InWritableWindow}
use Rattle.model.proofs.Views.{upper_recoded, selected_upper, protected_upper, Passes, Visible, in_view, in_writable, same_verdict, SameView, view_revised, stored_other, set_agrees, slot_set}

-- ── Accesses with relocation on ──
-- A read and a write at the real address r that the controller has judged.
abbrev read_by : Verdict → ℕ → State → Out
read_by (Err x) r s = stopped Refusal (with_faults (bit_or s.faults (fault_bit x)) s)
read_by (Ok Plain) r s = went (half_at s.store r) s
read_by (Ok Reported) r s = went (half_at s.store r) (with_pending true (with_faults (bit_or s.faults write_report) s))

abbrev write_by : Verdict → ℕ → (ℕ → ℕ) → State → Out
write_by (Err x) r f s = stopped Refusal (with_faults (bit_or s.faults (fault_bit x)) s)
write_by (Ok Plain) r f s = went 0 (with_store (revised s.store (r / 2) f) s)
write_by (Ok Reported) r f s = went 0 (with_store (revised s.store (r / 2) f) (with_pending true (with_faults (bit_or s.faults write_report) s)))

-- Relocation on, an access never reaches the controller's own addresses.
judged_read : (v : Verdict) (r : ℕ) (s : State) → relocated s.status ≡ true → and_then (admitted v r s) read_at ≡ read_by v r s
judged_read (Err x) r s e = refl
judged_read (Ok Plain) r s e = rw e
judged_read (Ok Reported) r s e = rw e

judged_write :
    (v : Verdict) (r : ℕ) (f : ℕ → ℕ) (s : State) → relocated s.status ≡ true →
    and_then (admitted v r s) (λ r t. went 0 (written_at r f t)) ≡ write_by v r f s
judged_write (Err x) r f s e = refl
judged_write (Ok Plain) r f s e = rw e
judged_write (Ok Reported) r f s e = rw e

relocated_read :
    (u : Access) (a : ℕ) (s : State) → relocated s.status ≡ true →
    and_then (translated u a s) read_at ≡ read_by (verdict u s.segments a) (real s.segments a) s
relocated_read u a s e = rw e (judged_read (verdict u s.segments a) (real s.segments a) s e)

relocated_write :
    (a : ℕ) (f : ℕ → ℕ) (s : State) → relocated s.status ≡ true →
    and_then (translated Write a s) (λ r t. went 0 (written_at r f t)) ≡ write_by (verdict Write s.segments a) (real s.segments a) f s
relocated_write a f s e = rw e (judged_write (verdict Write s.segments a) (real s.segments a) f s e)

-- ── Confined ──
-- What is left alone, where status' is the present status or, after an interrupt, the one that it saved; the places outside the writable
-- window show what held says; and the registers that filled tells are those that the interrupt put something into.
pub record KeptOf
    (status status' : ℕ) (registers registers' segments segments' : List ℕ) (bus bus' : Bus) (store' : Store) (held : ℕ → Place)
    (filled : ℕ → ℕ → Type 0) : Type 0 where
  pub same_segments : segments' ≡ segments
  pub outside : (p : ℕ) → (InWritableWindow segments p → ⊥) → at store' p ≡ held p
  pub same_upper : upper status' ≡ upper status
  pub other_sets :
      (k n : ℕ) → (k ≡ selected status → ⊥) → (filled k n → ⊥) → get_or registers' (slot k n) 0 ≡ get_or registers (slot k n) 0
  pub same_bus : bus' ≡ bus
  pub same_count : length registers' ≡ length registers

-- .. by what takes no interrupt, and through an interrupt with the record r, which left t.
abbrev pub Kept : State → State → (ℕ → Place) → Type 0
Kept s t held =
    KeptOf s.status t.status s.registers t.registers s.segments t.segments s.bus t.bus t.store held (λ _ _. ⊥)

abbrev pub KeptThrough : State → Record → State → (ℕ → Place) → Type 0
KeptThrough s r t held =
    KeptOf s.status r.status s.registers t.registers s.segments t.segments s.bus t.bus t.store held (Fills r.cause)

-- The store alone is altered.
pub kept_but_store : (s : State) (m : Store) (held : ℕ → Place) → ((p : ℕ) → (InWritableWindow s.segments p → ⊥) → at m p ≡ held p) → Kept s (with_store m s) held
kept_but_store s m held e =
    record { same_segments = refl; outside = e; same_upper = refl; other_sets = λ _ _ _ _. refl; same_bus = refl; same_count = refl }

pub kept_same : (s : State) → Kept s s (at s.store)
kept_same s = kept_but_store s s.store (at s.store) (λ _ _. refl)

-- One after the other: later says what each place shows in the end, by what it showed between.
pub kept_then :
    (s t : State) (status' : ℕ) (registers' segments' : List ℕ) (bus' : Bus) (store' : Store) (filled : ℕ → ℕ → Type 0) (held : ℕ → Place)
    (later : ℕ → Place → Place) → Kept s t held →
    KeptOf t.status status' t.registers registers' t.segments segments' t.bus bus' store' (λ p. later p (at t.store p)) filled →
    KeptOf s.status status' s.registers registers' s.segments segments' s.bus bus' store' (λ p. later p (held p)) filled
kept_then s t status' registers' segments' bus' store' filled held later h k = let e = h.same_segments in record {
  same_segments = k.same_segments ∙ e;
  outside = λ p o. k.outside p (subst (λ (g : List ℕ). InWritableWindow g p → ⊥) (sym e) o) ∙ ap (later p) (h.outside p o);
  same_upper = k.same_upper ∙ h.same_upper;
  other_sets = λ j n o f.
      k.other_sets j n (λ e. o (e ∙ selected_upper t.status s.status h.same_upper)) f ∙ h.other_sets j n o (λ z. z);
  same_bus = k.same_bus ∙ h.same_bus;
  same_count = k.same_count ∙ h.same_count;
}

-- .. by a tree of effects, however it ends.
abbrev pub KeptBy : State → Out → Type 0
KeptBy s (went v t) = Kept s t (at s.store)
KeptBy s (stopped c t) = Kept s t (at s.store)

kept_after : (s t : State) (x : Out) → Kept s t (at s.store) → KeptBy t x → KeptBy s x
kept_after s t (went v u) h k = kept_then s t _ _ _ _ _ _ (at s.store) (λ _ x. x) h k
kept_after s t (stopped c u) h k = kept_then s t _ _ _ _ _ _ (at s.store) (λ _ x. x) h k

kept_and_then :
    (s : State) (x : Out) (f : ℕ → State → Out) → Protected s.status → KeptBy s x →
    ((v : ℕ) (t : State) → Protected t.status → KeptBy t (f v t)) → KeptBy s (and_then x f)
kept_and_then s (went v t) f g h k = kept_after s t (f v t) h (k v t (protected_upper t.status s.status h.same_upper g))
kept_and_then s (stopped c t) f g h k = h

kept_on : (b : Bool) (s : State) (x u : Out) → b ≡ true → KeptBy s x → KeptBy s (cond b x u)
kept_on true s x u p h = h
kept_on false s x u p h = absurd (false≢true p)

kept_read : (v : Verdict) (r : ℕ) (s : State) → KeptBy s (read_by v r s)
kept_read (Err x) r s = kept_same s
kept_read (Ok Plain) r s = kept_same s
kept_read (Ok Reported) r s = kept_same s

kept_store : (p : ℕ) (f : ℕ → ℕ) (s : State) → InWritableWindow s.segments p → Kept s (with_store (revised s.store p f) s) (at s.store)
kept_store p f s w =
    kept_but_store s (revised s.store p f) (at s.store)
    (λ q o. stored_other s.store p q (f (s.store.word p)) (λ e. o (subst (InWritableWindow s.segments) (sym e) w)))

kept_write : (v : Verdict) (r : ℕ) (f : ℕ → ℕ) (s : State) → (Passes v → InWritableWindow s.segments (r / 2)) → KeptBy s (write_by v r f s)
kept_write (Err x) r f s w = kept_same s
kept_write (Ok Plain) r f s w = kept_store (r / 2) f s (w tt)
kept_write (Ok Reported) r f s w = kept_store (r / 2) f s (w tt)

kept_check : (v : Verdict) (s : State) → KeptBy s (inspected v s)
kept_check (Err x) s = kept_same s
kept_check (Ok g) s = kept_same s

module _ (s : State) (g : Protected s.status) where
  reads_kept : (u : Access) (a : ℕ) → KeptBy s (and_then (translated u (address a) s) read_at)
  reads_kept u a = subst (KeptBy s) (sym (relocated_read u (address a) s g.relocates)) (kept_read (verdict u s.segments (address a)) _ s)

  writes_kept : (a : ℕ) (f : ℕ → ℕ) → KeptBy s (and_then (translated Write (address a) s) (λ r u. went 0 (written_at r f u)))
  unfolding place
  writes_kept a f =
      subst (KeptBy s) (sym (relocated_write (address a) f s g.relocates))
      (kept_write (verdict Write s.segments (address a)) (real s.segments (address a)) f s (in_writable s.segments a))

  checks_kept : (u : Access) (a : ℕ) → KeptBy s (checked u (address a) s)
  checks_kept u a = kept_on (relocated s.status) s _ _ g.relocates (kept_check (verdict u s.segments (address a)) s)

  forbidden_kept : (x u : Out) → KeptBy s x → KeptBy s (cond (protected s.status) x u)
  forbidden_kept x u = kept_on (protected s.status) s x u g.forbids

-- The induction.
pub runs_kept : (f : Bus) (p : Prog) (s : State) → Protected s.status → KeptBy s (run f p s)
runs_kept f (ret v) s g = kept_same s
runs_kept f (stop c) s g = kept_same s
runs_kept f privileged s g = forbidden_kept s g _ _ (kept_same s)
runs_kept f (reg n) s g = kept_same s
runs_kept f (set_reg n v) s g = record {
  same_segments = refl;
  outside = (kept_same s).outside;
  same_upper = refl;
  other_sets = λ k j o _.
      get_or-set_other s.registers (slot (selected s.status) n) (slot k j) v 0 (λ e. o (slot_set k (selected s.status) j n e));
  same_bus = refl;
  same_count = length-set s.registers (slot (selected s.status) n) v;
}
runs_kept f get_code s g = kept_same s
runs_kept f (set_code c) s g =
    record { same_segments = refl; outside = (kept_same s).outside; same_upper = upper_recoded s.status c; other_sets = λ _ _ _ _. refl; same_bus = refl; same_count = refl }
runs_kept f get_location s g = kept_same s
runs_kept f (jump a) s g = kept_same s
runs_kept f (fetch a) s g = reads_kept s g Fetch a
runs_kept f (load a) s g = reads_kept s g Read a
runs_kept f (store a w) s g = writes_kept s g a w
runs_kept f (check u a) s g = checks_kept s g u a
runs_kept f get_status s g = forbidden_kept s g _ _ (kept_same s)
runs_kept f (set_status v) s g = forbidden_kept s g _ _ (kept_same s)
runs_kept f (answers n) s g = forbidden_kept s g _ _ (kept_same s)
runs_kept f (sense n) s g = forbidden_kept s g _ _ (kept_same s)
runs_kept f (read_from n) s g = forbidden_kept s g _ _ (kept_same s)
runs_kept f (write_to n v) s g = forbidden_kept s g _ _ (kept_same s)
runs_kept f (command_to n v) s g = forbidden_kept s g _ _ (kept_same s)
runs_kept f (seq p k) s g = kept_and_then s (run f p s) (λ v u. run f (k v) u) g (runs_kept f p s g) (λ v u e. runs_kept f (k v) u e)

-- No register is missing.
abbrev pub Full : State → Type 0
Full s = length s.registers ≡ register_count

-- ── Two machines that look alike, by program address, with all their registers ──
pub record TwinOf
    (status status' location location' : ℕ) (registers registers' segments segments' : List ℕ) (store store' : Store) : Type 0 where
  pub protects : Protected status
  pub same_status : status ≡ status'
  pub same_location : location ≡ location'
  pub same_registers : (n : ℕ) → get_or registers (slot (selected status) n) 0 ≡ get_or registers' (slot (selected status') n) 0
  pub view : SameView segments segments' store store'
  pub full : length registers ≡ register_count
  pub full' : length registers' ≡ register_count

abbrev pub Twin : State → State → Type 0
Twin s t =
    TwinOf s.status t.status s.location t.location s.registers t.registers s.segments t.segments s.store t.store

-- .. and within an instruction, with the same report to come.
abbrev pub Abreast : State → State → Type 0
Abreast s t = (s.pending ≡ t.pending) × Twin s t

twin_store :
    (a : ℕ) (f : ℕ → ℕ) (s t : State) → Visible s.segments a → Twin s t →
    Twin (with_store (revised s.store (real s.segments a / 2) f) s) (with_store (revised t.store (real t.segments a / 2) f) t)
unfolding place
twin_store a f s t w h = record {
  protects = h.protects;
  same_status = h.same_status;
  same_location = h.same_location;
  same_registers = h.same_registers;
  view = view_revised s.segments t.segments s.store t.store a f w h.view;
  full = h.full;
  full' = h.full';
}

twin_code : (c : ℕ) (s t : State) → Twin s t → Twin (with_status (recoded s.status c) s) (with_status (recoded t.status c) t)
twin_code c s t h = record {
  protects = protected_upper (recoded s.status c) s.status (upper_recoded s.status c) h.protects;
  same_status = ap (λ (x : ℕ). recoded x c) h.same_status;
  same_location = h.same_location;
  same_registers = λ n.
      ap (λ (k : ℕ). get_or s.registers (slot k n) 0) (selected_upper (recoded s.status c) s.status (upper_recoded s.status c))
      ∙ h.same_registers n
      ∙ sym (ap (λ (k : ℕ). get_or t.registers (slot k n) 0) (selected_upper (recoded t.status c) t.status (upper_recoded t.status c)));
  view = h.view;
  full = h.full;
  full' = h.full';
}

twin_location : (l : ℕ) (s t : State) → Twin s t → Twin (with_location l s) (with_location l t)
twin_location l s t h = record {
  protects = h.protects;
  same_status = h.same_status;
  same_location = refl;
  same_registers = h.same_registers;
  view = h.view;
  full = h.full;
  full' = h.full';
}

twin_register :
    (n v : ℕ) (s t : State) → Twin s t →
    Twin (with_registers (set s.registers (slot (selected s.status) n) v) s)
    (with_registers (set t.registers (slot (selected t.status) n) v) t)
twin_register n v s t h = record {
  protects = h.protects;
  same_status = h.same_status;
  same_location = h.same_location;
  same_registers = λ j.
      set_agrees s.registers t.registers (slot (selected s.status) n) (slot (selected s.status) j) v (h.full ∙ sym h.full')
      (h.same_registers j ∙ sym (ap (λ (x : ℕ). get_or t.registers (slot (selected x) j) 0) h.same_status))
      ∙ ap (λ (x : ℕ). get_or (set t.registers (slot (selected x) n) v) (slot (selected x) j) 0) h.same_status;
  view = h.view;
  full = length-set s.registers (slot (selected s.status) n) v ∙ h.full;
  full' = length-set t.registers (slot (selected t.status) n) v ∙ h.full';
}

-- ── Alike ──
-- Both go on with the same number, or stop for the same reason; and stay beside each other.
abbrev pub SameOut : Out → Out → Type 0
SameOut (went v s) (went w t) = (v ≡ w) × Abreast s t
SameOut (went v s) (stopped d t) = ⊥
SameOut (stopped c s) (went w t) = ⊥
SameOut (stopped c s) (stopped d t) = (c ≡ d) × Twin s t

-- A test that both pass.
both_on : (b c : Bool) (x y u v : Out) → b ≡ true → c ≡ true → SameOut x y → SameOut (cond b x u) (cond c y v)
both_on true true x y u v p q h = h
both_on true false x y u v p q h = absurd (false≢true q)
both_on false true x y u v p q h = absurd (false≢true p)
both_on false false x y u v p q h = absurd (false≢true p)

-- One after the other.
same_then :
    (x y : Out) (f g : ℕ → State → Out) → SameOut x y → ((v : ℕ) (s t : State) → Abreast s t → SameOut (f v s) (g v t)) →
    SameOut (and_then x f) (and_then y g)
same_then (went v s) (went w t) f g h k = subst (λ (u : ℕ). SameOut (f v s) (g u t)) h.0 (k v s t h.1)
same_then (went v s) (stopped d t) f g h k = absurd h
same_then (stopped c s) (went w t) f g h k = absurd h
same_then (stopped c s) (stopped d t) f g h k = h

-- The accesses, once judged: what is done is in view.
same_read :
    (v : Verdict) (r q : ℕ) (s t : State) → Abreast s t → (Passes v → at s.store (r / 2) ≡ at t.store (q / 2)) →
    SameOut (read_by v r s) (read_by v q t)
same_read (Err x) r q s t h w = (refl, h.1)
same_read (Ok Plain) r q s t h w = let e = w tt in ((cc), h)
same_read (Ok Reported) r q s t h w = let e = w tt in ((cc), (refl, h.1))

same_write :
    (v : Verdict) (a : ℕ) (f : ℕ → ℕ) (s t : State) → Abreast s t → (Passes v → Visible s.segments a) →
    SameOut (write_by v (real s.segments a) f s) (write_by v (real t.segments a) f t)
same_write (Err x) a f s t h w = (refl, h.1)
same_write (Ok Plain) a f s t h w = (refl, (h.0, twin_store a f s t (w tt) h.1))
same_write (Ok Reported) a f s t h w = (refl, (refl, twin_store a f s t (w tt) h.1))

same_check : (v : Verdict) (s t : State) → Abreast s t → SameOut (inspected v s) (inspected v t)
same_check (Err x) s t h = (refl, h.1)
same_check (Ok g) s t h = (refl, h)

module _ (s t : State) (h : Abreast s t) where
  relocates' : relocated t.status ≡ true
  relocates' = subst (λ (x : ℕ). relocated x ≡ true) h.1.same_status h.1.protects.relocates

  forbids' : protected t.status ≡ true
  forbids' = subst (λ (x : ℕ). protected x ≡ true) h.1.same_status h.1.protects.forbids

  one_verdict : (u : Access) (a : ℕ) → verdict u s.segments a ≡ verdict u t.segments a
  one_verdict u a = same_verdict s.segments t.segments h.1.view.checks u a

  reads_alike : (u : Access) (a : ℕ) → SameOut (and_then (translated u (address a) s) read_at) (and_then (translated u (address a) t) read_at)
  unfolding place
  reads_alike u a =
      let b = address a in
      let v = verdict u s.segments b in
      subst (λ (x : Out). SameOut x (and_then (translated u b t) read_at)) (sym (relocated_read u b s h.1.protects.relocates))
      (subst (SameOut (read_by v (real s.segments b) s)) (sym (relocated_read u b t relocates'))
      (subst (λ (x : Verdict). SameOut (read_by v (real s.segments b) s) (read_by x (real t.segments b) t)) (one_verdict u b)
      (same_read v (real s.segments b) (real t.segments b) s t h (λ p. h.1.view.window b (in_view u s.segments a p)))))

  writes_alike :
      (a : ℕ) (f : ℕ → ℕ) →
      SameOut (and_then (translated Write (address a) s) (λ r u. went 0 (written_at r f u))) (and_then (translated Write (address a) t) (λ r u. went 0 (written_at r f u)))
  writes_alike a f =
      let b = address a in
      let v = verdict Write s.segments b in
      subst (λ (x : Out). SameOut x (and_then (translated Write b t) (λ r u. went 0 (written_at r f u)))) (sym (relocated_write b f s h.1.protects.relocates))
      (subst (SameOut (write_by v (real s.segments b) f s)) (sym (relocated_write b f t relocates'))
      (subst (λ (x : Verdict). SameOut (write_by v (real s.segments b) f s) (write_by x (real t.segments b) f t)) (one_verdict Write b)
      (same_write v b f s t h (in_view Write s.segments a))))

  checks_alike : (u : Access) (a : ℕ) → SameOut (checked u (address a) s) (checked u (address a) t)
  checks_alike u a =
      let v = verdict u s.segments (address a) in
      both_on (relocated s.status) (relocated t.status) _ _ _ _ h.1.protects.relocates relocates'
      (subst (λ (x : Verdict). SameOut (inspected v s) (inspected x t)) (one_verdict u (address a)) (same_check v s t h))

  -- A privileged effect stops both, each by what it is under protection.
  forbidden_alike : (x y u v : Out) → SameOut x y → SameOut (cond (protected s.status) x u) (cond (protected t.status) y v)
  forbidden_alike x y u v = both_on (protected s.status) (protected t.status) x y u v h.1.protects.forbids forbids'

-- The induction.
pub runs_alike : (f g : Bus) (p : Prog) (s t : State) → Abreast s t → SameOut (run f p s) (run g p t)
runs_alike f g (ret v) s t h = (refl, h)
runs_alike f g (stop c) s t h = (refl, h.1)
runs_alike f g privileged s t h = forbidden_alike s t h _ _ _ _ (refl, h.1)
runs_alike f g (reg n) s t h = (h.1.same_registers n, h)
runs_alike f g (set_reg n v) s t h = (refl, (h.0, twin_register n v s t h.1))
runs_alike f g get_code s t h = (ap code_of h.1.same_status, h)
runs_alike f g (set_code c) s t h = (refl, (h.0, twin_code c s t h.1))
runs_alike f g get_location s t h = (h.1.same_location, h)
runs_alike f g (jump a) s t h = (refl, (h.0, twin_location _ s t h.1))
runs_alike f g (fetch a) s t h = reads_alike s t h Fetch a
runs_alike f g (load a) s t h = reads_alike s t h Read a
runs_alike f g (store a w) s t h = writes_alike s t h a w
runs_alike f g (check u a) s t h = checks_alike s t h u a
runs_alike f g get_status s t h = forbidden_alike s t h _ _ _ _ (refl, h.1)
runs_alike f g (set_status v) s t h = forbidden_alike s t h _ _ _ _ (refl, h.1)
runs_alike f g (answers n) s t h = forbidden_alike s t h _ _ _ _ (refl, h.1)
runs_alike f g (sense n) s t h = forbidden_alike s t h _ _ _ _ (refl, h.1)
runs_alike f g (read_from n) s t h = forbidden_alike s t h _ _ _ _ (refl, h.1)
runs_alike f g (write_to n v) s t h = forbidden_alike s t h _ _ _ _ (refl, h.1)
runs_alike f g (command_to n v) s t h = forbidden_alike s t h _ _ _ _ (refl, h.1)
runs_alike f g (seq p k) s t h =
    same_then (run f p s) (run g p t) (λ v u. run f (k v) u) (λ v u. run g (k v) u) (runs_alike f g p s t h) (λ v u w e. runs_alike f g (k v) u w e)
