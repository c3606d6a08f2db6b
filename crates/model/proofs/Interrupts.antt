-- What an interrupt does to the registers: what it fills, and that all others stay.
use Rattle.std.proofs.Common.{◌≡◌, ℕ, ◌+◌, ◌*◌, ◌%◌, ◌^◌, ◌<◌, Bool, true, false, cond, List, length, get_or, Some, None, Option, sym, refl, ap, ◌∙◌, subst, arith, length-set, get_or-set_other, get_or-set_same, lit<}
use Rattle.std.specs.Prelude.{slice_index_or}
use mathlib.Core.Bool.{false≢true}
use Rattle.model.specs.declared.Cause.{Cause}
use Rattle.model.specs.declared.Cause.TheVariants.{IllegalInstruction, ArithmeticFault, AccessFault, SupervisorCall, DeviceRequest}
use Rattle.model.specs.declared.Record.{Record}
use Rattle.model.specs.Stores.{half_at}
use Rattle.model.specs.Buses.{lowest}
use Rattle.model.specs.States.{State}
use Rattle.model.specs.Status.{arithmetic_on, register_count, slot, counter, to_half}
use Rattle.model.specs.Steps.{Ending, finished, recorded, into_zero, saved, interrupted, supervised, requested, poll, served}
use Rattle.model.specs.Interrupts.{filled_registers, Fills, Records, ByVector, BySupervisor, ByDevice, Took, InterruptsInWords}
use Rattle.model.proofs.Requests.{lowest_is_taken}

-- ── One register of set 0 ──
into_same : (m v : ℕ) (registers : List ℕ) → length registers ≡ register_count → m < 16 → get_or (into_zero m v registers) (slot 0 m) 0 ≡ v
unfolding slot
into_same m v registers h b = get_or-set_same registers (slot 0 m) v 0 (omega arith)

into_other :
    (m v k n : ℕ) (registers : List ℕ) → m < 16 → (k ≡ 0 → n % 16 ≡ m → ⊥) →
    get_or (into_zero m v registers) (slot k n) 0 ≡ get_or registers (slot k n) 0
unfolding slot
into_other m v k n registers b o = get_or-set_other registers (slot 0 m) (slot k n) v 0 (λ e. o (omega arith) (omega arith))

pub into_count : (m v : ℕ) (registers : List ℕ) → length (into_zero m v registers) ≡ length registers
into_count m v registers = length-set registers (slot 0 m) v

-- A register that the interrupt does not fill is none of those that it fills.
apart : (c : Cause) (i m k n : ℕ) → i < length (filled_registers c) → ((d : ℕ) → slice_index_or (filled_registers c) i d ≡ m) → (Fills c k n → ⊥) → k ≡ 0 → n % 16 ≡ m → ⊥
apart c i m k n b e h z q = h (z, (i, b, e (n % 16) ∙ sym q))

-- ── The old PSW ──
pub saved_status : (registers : List ℕ) (status own : ℕ) → length registers ≡ register_count → get_or (saved status own registers) (slot 0 14) 0 ≡ status
saved_status registers status own h = into_other 15 own 0 14 (into_zero 14 status registers) (lit< tt) (λ _ e. omega arith) ∙ into_same 14 status registers h (lit< tt)

pub saved_location : (registers : List ℕ) (status own : ℕ) → length registers ≡ register_count → get_or (saved status own registers) (slot 0 15) 0 ≡ own
saved_location registers status own h = into_same 15 own (into_zero 14 status registers) (into_count 14 status registers ∙ h) (lit< tt)

pub saved_count : (registers : List ℕ) (status own : ℕ) → length (saved status own registers) ≡ length registers
saved_count registers status own = into_count 15 own (into_zero 14 status registers) ∙ into_count 14 status registers

saved_other :
    (k n status own : ℕ) (registers : List ℕ) → (k ≡ 0 → n % 16 ≡ 14 → ⊥) → (k ≡ 0 → n % 16 ≡ 15 → ⊥) →
    get_or (saved status own registers) (slot k n) 0 ≡ get_or registers (slot k n) 0
saved_other k n status own registers f g = into_other 15 own k n (into_zero 14 status registers) (lit< tt) g ∙ into_other 14 status k n registers (lit< tt) f

-- ── The interrupts ──
-- A halfword's low 20 bits are all of it.
half_counter : (h : ℕ) → h < 2 ^ 16 → counter h ≡ to_half h
unfolding counter to_half
half_counter h b = omega arith

records_lem : (c : Cause) (own : ℕ) (s : State) → Records c own s (recorded c own s)
records_lem c own s = record { cause = refl; status = refl; location = refl; faults = refl }

-- Causes that fill registers 14 and 15 alone.
pub record FillsTwo (c : Cause) : Type 0 where
  pub fourteen : (k n : ℕ) → (Fills c k n → ⊥) → k ≡ 0 → n % 16 ≡ 14 → ⊥
  pub fifteen : (k n : ℕ) → (Fills c k n → ⊥) → k ≡ 0 → n % 16 ≡ 15 → ⊥

pub illegal_fills : FillsTwo IllegalInstruction
illegal_fills = record { fourteen = λ k n. apart IllegalInstruction 0 14 k n (lit< tt) (λ _. refl); fifteen = λ k n. apart IllegalInstruction 1 15 k n (lit< tt) (λ _. refl) }

pub arithmetic_fills : FillsTwo ArithmeticFault
arithmetic_fills = record { fourteen = λ k n. apart ArithmeticFault 0 14 k n (lit< tt) (λ _. refl); fifteen = λ k n. apart ArithmeticFault 1 15 k n (lit< tt) (λ _. refl) }

pub access_fills : FillsTwo AccessFault
access_fills = record { fourteen = λ k n. apart AccessFault 0 14 k n (lit< tt) (λ _. refl); fifteen = λ k n. apart AccessFault 1 15 k n (lit< tt) (λ _. refl) }

pub by_vector : (c : Cause) (v own : ℕ) (s : State) → FillsTwo c → length s.registers ≡ register_count → Took (interrupted c v own s) (ByVector c v own s)
by_vector c v own s f h = record {
  old_status = saved_status s.registers s.status own h;
  old_location = saved_location s.registers s.status own h;
  new_status = refl;
  new_location = refl;
  rest = record {
    registers = λ k n o. saved_other k n s.status own s.registers (f.fourteen k n o) (f.fifteen k n o);
    segments = refl;
    faults = refl;
    pending = refl;
    store = refl;
    bus = refl;
  };
  records = records_lem c own s;
}

pub by_supervisor : (n a : ℕ) (s : State) → length s.registers ≡ register_count → Took (supervised n a s) (BySupervisor n a s)
by_supervisor n a s h =
    let r = into_zero 13 a s.registers in
    let e : length r ≡ register_count = into_count 13 a s.registers ∙ h in
    record {
      call_address =
          saved_other 0 13 s.status s.location r (λ _ z. omega arith) (λ _ z. omega arith) ∙ into_same 13 a s.registers h (lit< tt);
      old_status = saved_status r s.status s.location e;
      old_location = saved_location r s.status s.location e;
      new_status = refl;
      new_location = half_counter (half_at s.store (0x9c + 2 * n));
      rest = record {
        registers = λ k j o.
            saved_other k j s.status s.location r (apart SupervisorCall 1 14 k j (lit< tt) (λ _. refl) o)
            (apart SupervisorCall 2 15 k j (lit< tt) (λ _. refl) o)
            ∙ into_other 13 a k j s.registers (lit< tt) (apart SupervisorCall 0 13 k j (lit< tt) (λ _. refl) o);
        segments = refl;
        faults = refl;
        pending = refl;
        store = refl;
        bus = refl;
      };
      records = records_lem SupervisorCall s.location s;
    }

by_device : (n : ℕ) (s : State) → length s.registers ≡ register_count → Took (requested n s) (ByDevice n s)
by_device n s h =
    let w = half_at s.store (0xd0 + 2 * n) in
    let r₀ = into_zero 0 s.status s.registers in
    let r₁ = into_zero 1 s.location r₀ in
    let r₂ = into_zero 2 n r₁ in
    let r₃ = into_zero 3 (s.bus n).status r₂ in
    let e₀ : length r₀ ≡ register_count = into_count 0 _ s.registers ∙ h in
    let e₁ : length r₁ ≡ register_count = into_count 1 _ r₀ ∙ e₀ in
    let e₂ : length r₂ ≡ register_count = into_count 2 _ r₁ ∙ e₁ in
    let e₃ : length r₃ ≡ register_count = into_count 3 _ r₂ ∙ e₂ in
    let above = λ (m v j : ℕ) (r : List ℕ) (b : m < 16) (d : j % 16 ≡ m → ⊥). into_other m v 0 j r b (λ _. d) in
    record {
      old_status =
          above 4 w 0 r₃ (lit< tt) (λ z. omega arith) ∙ above 3 _ 0 r₂ (lit< tt) (λ z. omega arith) ∙ above 2 n 0 r₁ (lit< tt) (λ z. omega arith)
          ∙ above 1 _ 0 r₀ (lit< tt) (λ z. omega arith) ∙ into_same 0 _ s.registers h (lit< tt);
      old_location =
          above 4 w 1 r₃ (lit< tt) (λ z. omega arith) ∙ above 3 _ 1 r₂ (lit< tt) (λ z. omega arith) ∙ above 2 n 1 r₁ (lit< tt) (λ z. omega arith)
          ∙ into_same 1 _ r₀ e₀ (lit< tt);
      device_number = above 4 w 2 r₃ (lit< tt) (λ z. omega arith) ∙ above 3 _ 2 r₂ (lit< tt) (λ z. omega arith) ∙ into_same 2 n r₁ e₁ (lit< tt);
      device_status = above 4 w 3 r₃ (lit< tt) (λ z. omega arith) ∙ into_same 3 _ r₂ e₂ (lit< tt);
      table_entry = into_same 4 w r₃ e₃ (lit< tt);
      new_status = refl;
      new_location = half_counter w;
      rest = record {
        registers = λ k j o.
            let out = λ (i m : ℕ) (b : i < 5) (e : (d : ℕ) → slice_index_or (filled_registers DeviceRequest) i d ≡ m). apart DeviceRequest i m k j b e o in
            into_other 4 w k j r₃ (lit< tt) (out 4 4 (lit< tt) (λ _. refl))
            ∙ into_other 3 _ k j r₂ (lit< tt) (out 3 3 (lit< tt) (λ _. refl))
            ∙ into_other 2 n k j r₁ (lit< tt) (out 2 2 (lit< tt) (λ _. refl))
            ∙ into_other 1 _ k j r₀ (lit< tt) (out 1 1 (lit< tt) (λ _. refl))
            ∙ into_other 0 _ k j s.registers (lit< tt) (out 0 0 (lit< tt) (λ _. refl));
        segments = refl;
        faults = refl;
        pending = refl;
        store = refl;
        bus = refl;
      };
      records = records_lem DeviceRequest s.location s;
    }

-- A test that lets the interrupt be taken.
took_if : (b : Bool) (x y : Ending) (P : Record → State → Type 0) → b ≡ true → Took x P → Took (cond b x y) P
took_if true x y P e h = h
took_if false x y P e h = absurd (false≢true e)

pub interrupts_in_words : InterruptsInWords
interrupts_in_words = record {
  device = λ meaning reply n s h p l.
      let e : poll s ≡ Some n = ap (λ (b : Bool). cond b (lowest s.bus) None) p ∙ (lowest_is_taken.device s.bus n).1 l in
      subst (λ (o : Option ℕ). Took (served meaning reply o s) (ByDevice n s)) (sym e) (by_device n s h);
  supervisor_call = λ own n a s h. by_supervisor n a s h;
  illegal = λ own s h. by_vector IllegalInstruction 0x30 own s illegal_fills h;
  arithmetic = λ own s h e. took_if (arithmetic_on s.status) _ _ _ e (by_vector ArithmeticFault 0x48 s.location s arithmetic_fills h);
  refused = λ own s h. by_vector AccessFault 0x90 own s access_fills h;
  reported = λ own v s h e. took_if s.pending _ _ _ e (by_vector AccessFault 0x90 s.location s access_fills h);
  masked = λ own s e. ap (λ (b : Bool). cond b (interrupted ArithmeticFault 0x48 s.location s) (finished s)) e;
  unreported = λ own v s e. ap (λ (b : Bool). cond b (interrupted AccessFault 0x90 s.location s) (finished s)) e;
}
