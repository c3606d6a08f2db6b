-- The two machines of the example are there, and meet every premise.
use Rattle.std.proofs.Common.{◌≡◌, ℕ, zero, suc, ◌+◌, ◌*◌, ◌/◌, ◌%◌, ◌^◌, ◌<◌, Bool, true, false, T, eqb, leb, List, [], ◌∷◌, get_or, set, replicate, sym, refl, ap, ◌∙◌, subst, arith, eqb→eq, leb→le, get_or-set_other}
use mathlib.Core.Bool.{false≢true}
use Rattle.model.specs.declared.Item.TheVariants.{Segment, Status}
use Rattle.model.specs.Stores.{at, full_at}
use Rattle.model.specs.Status.{waits, polls, relocated, protected, selected, slot, register_count, no_set, file_of, counter, address}
use Rattle.model.specs.Controller.{limit_of, relocation_of, no_execute_of, write_mode_of, present_of, used, chosen, block, within, present, no_execute, write_mode, real, place}
use Rattle.model.specs.Answers.{done, played}
use Rattle.model.specs.Console.{strange, set_item}
use Rattle.model.specs.Runs.{Steps}
use Rattle.model.specs.Tapes.{command_of, spell_from, ends, goes_on}
use Rattle.model.specs.Windows.{InWindow}
use Rattle.model.specs.Calls.{new, called, played as by_tape}
use Rattle.cases.specs.Example.{meaning, board, other, Example}
use Rattle.cases.proofs.Alike.{zeros, after_run}

-- ── The window ──
-- The segmentation registers of both: the first has P set and a limit of one block.
abbrev segments : List ℕ
segments = set (replicate 16 0) 0 0x10

first_present : (i : ℕ) → present_of (get_or segments i 0) ≡ true → i ≡ 0
unfolding present_of
first_present zero h = refl
first_present (suc i) h =
    absurd (false≢true (ap (λ (x : ℕ). eqb (x / 16 % 2) 1) (sym (zeros 15 i)) ∙ h))

-- The program reaches the first 128 places.
window_low : (p : ℕ) → InWindow segments p → p < 128
unfolding chosen block within present limit_of relocation_of real place
window_low p i =
    let a = i.0 in
    let r = i.1 in
    let e = first_present (a / 2 ^ 16 % 16) r.presence in
    let l : leb (a / 2 ^ 8 % 2 ^ 8) 0 ≡ true = ap (λ (x : ℕ). leb (a / 2 ^ 8 % 2 ^ 8) (get_or segments x 0 / 2 ^ 20 % 2 ^ 8)) (sym e) ∙ r.limited in
    let m = leb→le (a / 2 ^ 8 % 2 ^ 8) 0 (subst T (sym l) tt) in
    let q : ((0 + a / 2 ^ 8 % 2 ^ 8) % 2 ^ 12 * 2 ^ 8 + a % 2 ^ 8) / 2 ≡ p =
    ap (λ (x : ℕ). ((get_or segments x 0 / 2 ^ 8 % 2 ^ 12 + a / 2 ^ 8 % 2 ^ 8) % 2 ^ 12 * 2 ^ 8 + a % 2 ^ 8) / 2) (sym e) ∙ r.there in
    omega arith

board_low : (x y p : ℕ) → p < 128 → at (board x) p ≡ at (board y) p
board_low x y p h = go (eqb p 200) refl
  where
    go : (b : Bool) → eqb p 200 ≡ b → at (board x) p ≡ at (board y) p
    go true e = let f = eqb→eq p 200 (subst T (sym e) tt) in absurd (omega arith)
    go false e = rw e

-- ── Histories ──
-- The three calls as a tape spells them.
abbrev tape : List ℕ
tape = 83 ∷ 0 ∷ 0 ∷ 0 ∷ 0 ∷ 0x10 ∷ 82 ∷ 3 ∷ 0 ∷ 0 ∷ 0 ∷ 7 ∷ 80 ∷ 0 ∷ 0 ∷ 5 ∷ 0x10 ∷ []

pub example : Example
unfolding full_at waits polls relocated protected selected slot no_set file_of counter address limit_of relocation_of no_execute_of write_mode_of present_of used chosen block within present no_execute write_mode real place strange Steps command_of spell_from
example = record {
  one_reached = called (set_item Status 0x510) (called (set_item (Segment 0) 0x10) (after_run meaning (board 5)));
  other_reached = by_tape 1 tape [] [] (played 3) new (record {
    final = other;
    plays = goes_on done (refl, refl) refl (goes_on done (refl, refl) refl (goes_on done (refl, refl) refl ends));
    back = refl;
  });
  alike = record {
    one_protects = record { relocates = refl; forbids = refl };
    other_protects = record { relocates = refl; forbids = refl };
    status = refl;
    location = refl;
    registers = λ n. sym (get_or-set_other (replicate register_count 0) (slot 0 3) (slot 1 n) 7 0 (λ e. omega arith));
    segments = refl;
    window = λ p i. board_low 5 6 p (window_low p i);
  };
  registers_differ = λ e. omega arith;
  stores_differ = λ e. omega arith;
  buses_differ = λ e. absurd (false≢true e);
  one_allowed = record { outside = (tt, (tt, tt)); undisturbed = λ e. let z : ◌≡◌ {A = ℕ} 0 1 = cc in omega arith };
  other_allowed = record {
    outside = (tt, (tt, ((λ _ i. let h = window_low 200 i in omega arith), (tt, ((λ e. absurd (false≢true e)), (tt, (tt, tt)))))));
    undisturbed = λ e. let z : ◌≡◌ {A = ℕ} 0 1 = cc in omega arith;
  };
  deposit_accepted = refl;
  one_answers = refl;
  other_answers = refl;
}
