-- The two machines are there, and meet every premise.
use Rattle.std.proofs.Common.{◌≡◌, ℕ, zero, suc, ◌+◌, ◌*◌, ◌/◌, ◌%◌, ◌^◌, ◌<◌, ◌≤◌, false, true, T, eqb, leb, List, [], ◌∷◌, get_or, set, replicate, sym, refl, ap, ◌∙◌, subst, arith, leb→le, get_or-set_other}
use Rattle.std.proofs.lemmas.Bool.Decides.{nat_tests}
use Rattle.std.proofs.lemmas.Grind.{common_steps}
use mathlib.Core.Bool.{false≢true}
use Rattle.model.specs.declared.Kind.TheVariants.{Writable}
use Rattle.model.specs.declared.StepAnswer.TheVariants.{Waiting}
use Rattle.model.specs.declared.Reason.TheVariants.{Waited}
use Rattle.model.specs.declared.Item.TheVariants.{Segment, Status}
use Rattle.model.specs.Stores.{Store, shows, at}
use Rattle.model.specs.Effects.{Prog}
use Rattle.model.specs.Status.{waits, polls, slot, register_count}
use Rattle.model.specs.Controller.{limit_of, relocation_of, present_of, chosen, block, within, present, real, place}
use Rattle.model.specs.Answers.{done, ran as did_run, played}
use Rattle.model.specs.Console.{set_item, made}
use Rattle.model.specs.Runs.{Steps}
use Rattle.model.specs.Tapes.{command_of, spell_from, ends, goes_on}
use Rattle.model.specs.Windows.{InWindow, InWritableWindow, LookAlike}
use Rattle.model.specs.Calls.{Reached, new, called as by_call, ran, played as by_tape, AllOutside, course, by_deposits}
use Rattle.model.specs.Isolation.{Allowed}
use Rattle.instructions.specs.Instructions.{instruction}
use Rattle.cases.specs.Alike.{board, devices, first_segment, program_status, one, other, plain, mixed, Calls, AlikeMachines}
use Rattle.cases.proofs.Computing.{console, instructions}

-- ── The window ──
-- The segmentation registers of both: the first has P set and a limit of one block.
abbrev segments : List ℕ
segments = set (replicate 16 0) 0 0x210

-- An element of zeros is zero.
pub zeros : (n i : ℕ) → ◌≡◌ {A = ℕ} (get_or (replicate n 0) i 0) 0
zeros n i = grind (arith, common_steps)

first_present : (i : ℕ) → present_of (get_or segments i 0) ≡ true → i ≡ 0
unfolding present_of
first_present zero h = refl
first_present (suc i) h =
    absurd (false≢true (ap (λ (x : ℕ). eqb (x / 16 % 2) 1) (sym (zeros 15 i)) ∙ h))

-- The program reaches the places 256 to 383.
window_within : (p : ℕ) → InWindow segments p → (256 ≤ p) × (p < 384)
unfolding chosen block within present limit_of relocation_of real place
window_within p i =
    let a = i.0 in
    let r = i.1 in
    let e = first_present (a / 2 ^ 16 % 16) r.presence in
    let l : leb (a / 2 ^ 8 % 2 ^ 8) 0 ≡ true = ap (λ (x : ℕ). leb (a / 2 ^ 8 % 2 ^ 8) (get_or segments x 0 / 2 ^ 20 % 2 ^ 8)) (sym e) ∙ r.limited in
    let m = leb→le (a / 2 ^ 8 % 2 ^ 8) 0 (subst T (sym l) tt) in
    let q : ((2 + a / 2 ^ 8 % 2 ^ 8) % 2 ^ 12 * 2 ^ 8 + a % 2 ^ 8) / 2 ≡ p =
    ap (λ (x : ℕ). ((get_or segments x 0 / 2 ^ 8 % 2 ^ 12 + a / 2 ^ 8 % 2 ^ 8) % 2 ^ 12 * 2 ^ 8 + a % 2 ^ 8) / 2) (sym e) ∙ r.there in
    (omega arith, omega arith)

boards_alike : (x y p : ℕ) → 256 ≤ p → at (board x) p ≡ at (board y) p
boards_alike x y p h = grind (arith, nat_tests)

sum_inside : InWritableWindow one.core.segments 0x120
unfolding console
sum_inside = (0x40, record { short = omega arith; limited = refl; presence = refl; there = refl }, refl)

difference_outside : InWindow one.core.segments 0xc8 → ⊥
unfolding console
difference_outside i = let h = (window_within 0xc8 i).0 in omega arith

other_outside : AllOutside instruction other.core.segments mixed other
unfolding console
other_outside =
    (tt, (tt, ((λ _ i. let h = (window_within _ i).0 in omega arith), (tt, (tt, ((λ e. absurd (false≢true e)), (tt, (tt, (tt, tt)))))))))

-- ── Alike ──
alike : LookAlike one.core other.core
unfolding console
alike = record {
  one_protects = record { relocates = refl; forbids = refl };
  other_protects = record { relocates = refl; forbids = refl };
  status = refl;
  location = refl;
  registers = λ n. sym (get_or-set_other (replicate register_count 0) (slot 0 3) (slot 1 n) 7 0 (λ e. omega arith));
  segments = refl;
  window = λ p i. boards_alike 5 6 p (window_within p i).0;
}

-- ── Histories ──
-- A run of a new machine waits at once, whatever halfwords mean.
pub after_run : (meaning : ℕ → Prog) (s : Store) → Reached meaning s (devices false) (made s (devices false))
unfolding waits polls Steps
after_run meaning s = ran 1 1 [] [] (did_run 1 Waited) new (record {
  steps = 1;
  why = Waited;
  answer = refl;
  key = refl;
  ran = record {
    before = 0;
    state = (made s (devices false)).core;
    line = [];
    answer = Waiting;
    made = refl;
    within = omega arith;
    goes = (refl, refl);
    last = record { reply = devices false; does = refl };
    stops = refl;
  };
})

one_reached : Reached instruction (board 5) (devices false) one
one_reached = by_call (set_item Status program_status) (by_call (set_item (Segment 0) first_segment) (after_run instruction (board 5)))

-- The three calls as a tape spells them.
abbrev tape : List ℕ
tape = 83 ∷ 0 ∷ 0 ∷ 0 ∷ 2 ∷ 0x10 ∷ 82 ∷ 3 ∷ 0 ∷ 0 ∷ 0 ∷ 7 ∷ 80 ∷ 0 ∷ 0 ∷ 5 ∷ 0x10 ∷ []

other_reached : Reached instruction (board 6) (devices true) other
unfolding console command_of spell_from
other_reached = by_tape 1 tape [] [] (played 3) new (record {
  final = other;
  plays = goes_on done (refl, refl) refl (goes_on done (refl, refl) refl (goes_on done (refl, refl) refl ends));
  back = refl;
})

-- ── The lists ──
one_allowed : Allowed instruction one plain
unfolding instructions
one_allowed = record { outside = (tt, (tt, (tt, (tt, tt)))); undisturbed = λ e. let z : ◌≡◌ {A = ℕ} 0 1 = cc in omega arith }

other_allowed : Allowed instruction other mixed
unfolding instructions
other_allowed = record { outside = other_outside; undisturbed = λ e. let z : ◌≡◌ {A = ℕ} 0 1 = cc in omega arith }

deposit_accepted : by_deposits instruction 0xc8 mixed other (at other.core.store 0xc8) ≡ shows Writable 9
unfolding instructions
deposit_accepted = refl

one_calls : Calls (course instruction plain one)
unfolding instructions
one_calls = record { gives = refl; stored = refl; loaded = refl; status = refl; location = refl }

other_calls : Calls (course instruction mixed other)
unfolding instructions
other_calls = record { gives = refl; stored = refl; loaded = refl; status = refl; location = refl }

pub machines : AlikeMachines
unfolding console
machines = record {
  one_reached = one_reached;
  other_reached = other_reached;
  alike = alike;
  registers_differ = λ e. omega arith;
  stores_differ = λ e. omega arith;
  buses_differ = λ e. absurd (false≢true e);
  sum_inside = sum_inside;
  difference_outside = difference_outside;
  one_allowed = one_allowed;
  other_allowed = other_allowed;
  deposit_accepted = deposit_accepted;
  one_calls = one_calls;
  other_calls = other_calls;
}
