-- How the bytes behind a letter are spelt: a whole command, or where the tape stops.
use Rattle.std.proofs.Common.{◌≡◌, ℕ, zero, suc, ◌+◌, ◌≤◌, Bool, false, cond, ltb, List, [], ◌∷◌, length, drop, sym, refl, ap, ◌∙◌, add-zero, arith, rules}
use Rattle.model.specs.declared.Denial.{Denial}
use Rattle.model.specs.Answers.{number}
use Rattle.model.specs.Tapes.{Order, Command, unknown, known, command_of, Spelling, end, broken, order, spelled, spell_from}
use Rattle.tape.specs.Commands.{Stops, Broken}

pub spell_nothing : (place a : ℕ) → spell_from [] 0 place a ≡ end
unfolding spell_from
spell_nothing place a = refl

past : (b : ℕ) (bytes : List ℕ) (size place a : ℕ) → spell_from (b ∷ bytes) (suc size) place a ≡ spell_from bytes size (place + 1) a
unfolding spell_from
past b bytes size place a = refl

-- The bytes of an operand are passed over.
skip : (bytes : List ℕ) (size place a : ℕ) → size ≤ length bytes → spell_from bytes size place a ≡ spell_from (drop size bytes) 0 (place + size) a
skip bytes zero place a h = ap (λ (k : ℕ). spell_from bytes 0 k a) (sym (add-zero place))
skip [] (suc size) place a h = absurd (omega arith)
skip (b ∷ bytes) (suc size) place a h =
    let e : (place + 1) + size ≡ place + suc size = omega arith in
    past b bytes size place a ∙ (skip bytes size (place + 1) a (omega arith) ∙ ap (λ (k : ℕ). spell_from (drop size bytes) 0 k a) e)

here : (b : ℕ) (bytes : List ℕ) (place a : ℕ) → spell_from (b ∷ bytes) 0 place a ≡ spelled (command_of b a bytes) b place bytes (λ size next. spell_from bytes size (place + 1) next)
unfolding spell_from
here b bytes place a = refl

-- A whole command is an order, before what the bytes behind it spell.
pub spell_whole :
    (letter a size next place : ℕ) (bytes : List ℕ) (o : Order) →
    command_of letter a bytes ≡ known size o next →
    size ≤ length bytes →
    spell_from (letter ∷ bytes) 0 place a ≡ order o letter place (spell_from (drop size bytes) 0 (place + 1 + size) next)
spell_whole letter a size next place bytes o e h =
    let more : ℕ → ℕ → Spelling = λ s n. spell_from bytes s (place + 1) n in
    let enough : ltb (length bytes) size ≡ false = search rules in
    here letter bytes place a ∙
    (ap (λ (c : Command). spelled c letter place bytes more) e ∙
    (ap (λ (b : Bool). cond b (broken 6 place letter) (order o letter place (more size next))) enough ∙
    ap (λ (s : Spelling). order o letter place s) (skip bytes size (place + 1) next h)))

stops : (c : Command) (letter place : ℕ) (bytes : List ℕ) (more : ℕ → ℕ → Spelling) (d : Denial) → Stops c bytes d → spelled c letter place bytes more ≡ broken (number d) place letter
stops unknown letter place bytes more d h = search rules
stops (known size o next) letter place bytes more d h = search rules

pub spell_broken : (letter a place : ℕ) (bytes : List ℕ) (d : Denial) → Broken letter bytes d → spell_from (letter ∷ bytes) 0 place a ≡ broken (number d) place letter
spell_broken letter a place bytes d h = here letter bytes place a ∙ stops _ letter place bytes (λ s m. spell_from bytes s (place + 1) m) d (h a)
