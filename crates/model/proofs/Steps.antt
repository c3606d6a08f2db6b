-- One step, with the interrupt that it takes.
use Rattle.std.proofs.Common.{◌≡◌, ℕ, Bool, true, false, cond, List, length, Some, None, Option, refl, ap, ◌∙◌, subst, true≢false, length-set}
use mathlib.Core.Bool.{false≢true}
use Rattle.model.specs.declared.Trap.{Trap}
use Rattle.model.specs.declared.Trap.TheVariants.{Illegal, Arithmetic, Refusal, Supervisor}
use Rattle.model.specs.declared.Cause.{Cause}
use Rattle.model.specs.declared.Cause.TheVariants.{IllegalInstruction, ArithmeticFault, AccessFault, SupervisorCall, DeviceRequest}
use Rattle.model.specs.declared.Record.{Record}
use Rattle.model.specs.Stores.{Store, at}
use Rattle.model.specs.Buses.{Bus}
use Rattle.model.specs.States.{State, with_pending}
use Rattle.model.specs.Status.{upper, waits, arithmetic_on, register_count, slot}
use Rattle.model.specs.Effects.{Out, went, stopped, Prog, run}
use Rattle.model.specs.Steps.{Ending, finished, waiting, took, recorded, into_zero, saved, loaded, interrupted, supervised, ended, cycle, proceeded, served}
use Rattle.model.specs.Windows.{Protected}
use Rattle.model.specs.Interrupts.{LeavesRest}
use Rattle.model.specs.Isolation.{Saves, SavesTheSame}
use Rattle.model.proofs.Effects.{Twin, SameOut, runs_alike, Kept, KeptThrough, KeptBy, kept_same, kept_then, runs_kept, Full}
use Rattle.model.proofs.Interrupts.{into_count, saved_status, saved_location, saved_count, FillsTwo, illegal_fills, arithmetic_fills, access_fills, by_vector, by_supervisor}

-- ── Alike ──
-- Two interrupts of one cause that save the same.
pub record SameTaken (r q : Record) (s t : State) : Type 0 where
  pub cause : r.cause ≡ q.cause
  pub saving : SavesTheSame r q s t

-- Both end alike.
abbrev pub SameEnd : Ending → Ending → Type 0
SameEnd (finished s) (finished t) = Twin s t
SameEnd (finished s) (waiting t) = ⊥
SameEnd (finished s) (took q t) = ⊥
SameEnd (waiting s) (finished t) = ⊥
SameEnd (waiting s) (waiting t) = Twin s t
SameEnd (waiting s) (took q t) = ⊥
SameEnd (took r s) (finished t) = ⊥
SameEnd (took r s) (waiting t) = ⊥
SameEnd (took r s) (took q t) = SameTaken r q s t

-- The step took no device's interrupt.
abbrev pub NotDevice : Ending → Type 0
NotDevice (finished s) = Unit {0}
NotDevice (waiting s) = Unit {0}
NotDevice (took r s) = r.cause ≡ DeviceRequest → ⊥

-- Two interrupts of one cause.
taken_alike :
    (c : Cause) (own o x y x' y' : ℕ) (registers registers' : List ℕ) (s t : State) → s.status ≡ t.status → own ≡ o →
    length registers ≡ register_count → length registers' ≡ register_count →
    SameTaken (recorded c own s) (recorded c o t) (loaded x y (saved s.status own registers) s) (loaded x' y' (saved t.status o registers') t)
taken_alike c own o x y x' y' registers registers' s t e f h k = record {
  cause = refl;
  saving = record {
    status = e;
    location = f;
    one_saves = record { status = saved_status registers s.status own h; location = saved_location registers s.status own h };
    other_saves = record { status = saved_status registers' t.status o k; location = saved_location registers' t.status o k };
  };
}

interrupted_alike : (c : Cause) (v own o : ℕ) (s t : State) → Twin s t → own ≡ o → SameEnd (interrupted c v own s) (interrupted c v o t)
interrupted_alike c v own o s t h e = taken_alike c own o _ _ _ _ s.registers t.registers s t h.same_status e h.full h.full'

same_cond : (b c : Bool) (x y u v : Ending) → b ≡ c → SameEnd x y → SameEnd u v → SameEnd (cond b x u) (cond c y v)
same_cond true true x y u v e h k = h
same_cond true false x y u v e h k = absurd (true≢false e)
same_cond false true x y u v e h k = absurd (false≢true e)
same_cond false false x y u v e h k = k

-- The instruction's own address, own and o, is the same too.
stopped_alike : (own o : ℕ) (c : Trap) (s t : State) → own ≡ o → Twin s t → SameEnd (ended own (stopped c s)) (ended o (stopped c t))
stopped_alike own o Illegal s t e h = interrupted_alike IllegalInstruction 0x30 own o s t h e
stopped_alike own o Arithmetic s t e h =
    same_cond (arithmetic_on s.status) (arithmetic_on t.status) _ _ _ _ (ap arithmetic_on h.same_status)
    (interrupted_alike ArithmeticFault 0x48 s.location t.location s t h h.same_location) h
stopped_alike own o Refusal s t e h = interrupted_alike AccessFault 0x90 own o s t h e
stopped_alike own o (Supervisor n a) s t e h =
    taken_alike SupervisorCall s.location t.location _ _ _ _ (into_zero 13 a s.registers) (into_zero 13 a t.registers) s t
    h.same_status h.same_location (length-set s.registers (slot 0 13) a ∙ h.full) (length-set t.registers (slot 0 13) a ∙ h.full')

ends_alike : (own o : ℕ) (x y : Out) → own ≡ o → SameOut x y → SameEnd (ended own x) (ended o y)
ends_alike own o (went v s) (went w t) e h =
    same_cond s.pending t.pending _ _ _ _ h.1.0
    (interrupted_alike AccessFault 0x90 s.location t.location s t h.1.1 h.1.1.same_location) h.1.1
ends_alike own o (went v s) (stopped d t) e h = absurd h
ends_alike own o (stopped c s) (went w t) e h = absurd h
ends_alike own o (stopped c s) (stopped d t) e h =
    subst (λ (x : Trap). SameEnd (ended own (stopped c s)) (ended o (stopped x t))) h.0 (stopped_alike own o c s t e h.1)

-- ── Confined ──
-- What a step leaves alone; an interrupt saves the PSW.
abbrev pub KeptEnd : State → Ending → Type 0
KeptEnd s (finished t) = Kept s t (at s.store)
KeptEnd s (waiting t) = Kept s t (at s.store)
KeptEnd s (took r t) = KeptThrough s r t (at s.store) × Saves r t

kept_cond : (b : Bool) (s : State) (x y : Ending) → KeptEnd s x → KeptEnd s y → KeptEnd s (cond b x y)
kept_cond true s x y h k = h
kept_cond false s x y h k = k

-- The instruction left s as x; then an interrupt left x as t.
through : (s x t : State) (r : Record) → Kept s x (at s.store) → r.status ≡ x.status → length t.registers ≡ length x.registers → LeavesRest r.cause x t → KeptThrough s r t (at s.store)
through s x t r h e n k = kept_then s x _ _ _ _ _ _ (at s.store) (λ _ z. z) h (record {
  same_segments = k.segments;
  outside = λ p _. ap (λ (m : Store). at m p) k.store;
  same_upper = ap upper e;
  other_sets = λ j i _ o. k.registers j i o;
  same_bus = k.bus;
  same_count = n;
})

vector_kept : (c : Cause) (v own : ℕ) (s x : State) → FillsTwo c → Full s → Kept s x (at s.store) → KeptEnd s (interrupted c v own x)
vector_kept c v own s x f n h =
    let w = by_vector c v own x f (h.same_count ∙ n) in
    (through s x _ (recorded c own x) h refl (saved_count x.registers x.status own) w.rest, record { status = w.old_status; location = w.old_location })

supervisor_kept : (n a : ℕ) (s x : State) → Full s → Kept s x (at s.store) → KeptEnd s (supervised n a x)
supervisor_kept n a s x f h =
    let w = by_supervisor n a x (h.same_count ∙ f) in
    (through s x _ (recorded SupervisorCall x.location x) h refl (saved_count (into_zero 13 a x.registers) x.status x.location ∙ into_count 13 a x.registers) w.rest, record { status = w.old_status; location = w.old_location })

ends_kept : (own : ℕ) (s : State) (x : Out) → Full s → KeptBy s x → KeptEnd s (ended own x)
ends_kept own s (went v t) n h = kept_cond t.pending s _ _ (vector_kept AccessFault 0x90 t.location s t access_fills n h) h
ends_kept own s (stopped Illegal t) n h = vector_kept IllegalInstruction 0x30 own s t illegal_fills n h
ends_kept own s (stopped Arithmetic t) n h =
    kept_cond (arithmetic_on t.status) s _ _ (vector_kept ArithmeticFault 0x48 t.location s t arithmetic_fills n h) h
ends_kept own s (stopped Refusal t) n h = vector_kept AccessFault 0x90 own s t access_fills n h
ends_kept own s (stopped (Supervisor i a) t) n h = supervisor_kept i a s t n h

-- ── The step ──
module _ (meaning : ℕ → Prog) where
  -- A step that no device interrupts is like that of a machine that no device asks.
  pub served_alike :
      (f g : Bus) (o : Option ℕ) (s t : State) → Twin s t → NotDevice (served meaning f o s) →
      SameEnd (served meaning f o s) (proceeded meaning g t)
  served_alike f g (Some n) s t h d = absurd (d refl)
  served_alike f g None s t h d =
      same_cond (waits s.status) (waits t.status) _ _ _ _ (ap waits h.same_status) h
      (ends_alike s.location t.location (run f (cycle meaning) (with_pending false s)) (run g (cycle meaning) (with_pending false t)) h.same_location
      (runs_alike f g (cycle meaning) (with_pending false s) (with_pending false t) (refl, h)))

  pub served_kept : (f : Bus) (o : Option ℕ) (s : State) → Protected s.status → Full s → NotDevice (served meaning f o s) → KeptEnd s (served meaning f o s)
  served_kept f (Some n) s g h d = absurd (d refl)
  served_kept f None s g h d =
      kept_cond (waits s.status) s _ _ (kept_same s)
      (ends_kept s.location s (run f (cycle meaning) (with_pending false s)) h (runs_kept f (cycle meaning) (with_pending false s) g))
