-- Commands written as bytes are read back.
use Rattle.std.proofs.Common.{◌≡◌, ℕ, suc, ◌+◌, ◌^◌, ◌<◌, List, [], ◌∷◌, ◌++◌, length, refl, ap, ◌∙◌, arith, rules, length-append}
use Rattle.std.specs.List.{All}
use Rattle.std.proofs.lemmas.List.{drop_at}
use Rattle.model.specs.declared.Item.TheVariants.{General, Segment, Status, Location}
use Rattle.model.specs.Tapes.{two, three, four, known, command_of, Spelling, order, spell_from}
use Rattle.tape.specs.declared.orders.Order.{Order}
use Rattle.tape.specs.declared.orders.Order.TheVariants.{Point, Deposit, Set, Go}
use Rattle.tape.specs.Commands.{order_of, next_of}
use Rattle.tape.specs.Writing.{big_endian, letter_of, operand_of, InRange, written, tape_of, listed, ReadsBack}
use Rattle.tape.proofs.Spellings.{spell_whole, spell_nothing}

two_bytes : (v : ℕ) (rest : List ℕ) → v < 2 ^ 16 → two 0 (big_endian 2 v ++ rest) ≡ v
two_bytes v rest small = omega arith

three_bytes : (v : ℕ) (rest : List ℕ) → v < 2 ^ 24 → three 0 (big_endian 3 v ++ rest) ≡ v
three_bytes v rest small = omega arith

four_bytes : (v : ℕ) (rest : List ℕ) → v < 2 ^ 32 → four 0 (big_endian 4 v ++ rest) ≡ v
four_bytes v rest small = omega arith

-- The command of a letter before its operand.
command_back : (a : ℕ) (o : Order) (rest : List ℕ) → InRange o → command_of (letter_of o) a (operand_of o ++ rest) ≡ known (length (operand_of o)) (order_of a o) (next_of a o)
unfolding command_of
command_back a (Point b) rest h = search (rules, three_bytes)
command_back a (Deposit v) rest h = search (rules, two_bytes)
command_back a (Set (General k n) v) rest h = search (rules, four_bytes)
command_back a (Set (Segment n) v) rest h = search (rules, four_bytes)
command_back a (Set Status v) rest h = search (rules, four_bytes)
command_back a (Set Location v) rest h = search (rules, three_bytes)
command_back a (Go n) rest h = search (rules, three_bytes)

spelt : (os : List Order) (place a : ℕ) → All InRange os → spell_from (tape_of os) 0 place a ≡ listed os place a
spelt [] place a fits = spell_nothing place a
spelt (o ∷ os) place a fits =
    let rest = tape_of os in
    let operand = operand_of o in
    let behind : place + 1 + length operand ≡ place + length (written o) = omega arith in
    spell_whole (letter_of o) a (length operand) (next_of a o) place (operand ++ rest) (order_of a o) (command_back a o rest (fits 0 o (omega arith))) (omega (arith, length-append operand rest))
    ∙ ap (λ (s : Spelling). order (order_of a o) (letter_of o) place s)
    (ap (λ (l : List ℕ). spell_from l 0 (place + 1 + length operand) (next_of a o)) (drop_at operand rest (length operand) refl)
    ∙ ap (λ (p : ℕ). spell_from rest 0 p (next_of a o)) behind
    ∙ spelt os (place + length (written o)) (next_of a o) (λ k d l. fits (suc k) d (omega arith)))

pub read_back : ReadsBack
read_back os fits = spelt os 0 0 fits
