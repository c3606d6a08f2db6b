-- The commands of a tape, written as bytes, and what the bytes of a list of them spell.
use Rattle.std.specs.Prelude.{◌≡◌, ℕ, zero, suc, ◌+◌, ◌*◌, ◌/◌, ◌%◌, ◌^◌, ◌<◌, List, [], ◌∷◌, ◌++◌, length}
use Rattle.std.specs.List.{flat_map, All}
use Rattle.model.specs.declared.Item.{Item}
use Rattle.model.specs.declared.Item.TheVariants.{General, Segment, Status, Location}
use Rattle.model.specs.Tapes.{letter_a, letter_d, letter_r, letter_s, letter_p, letter_l, letter_g, Spelling, end, order, spell}
use Rattle.tape.specs.declared.orders.Order.{Order}
use Rattle.tape.specs.declared.orders.Order.TheVariants.{Point, Deposit, Set, Go}
use Rattle.tape.specs.Commands.{order_of, next_of}

-- A number as n bytes, high byte first.
abbrev pub big_endian : ℕ → ℕ → List ℕ
big_endian zero v = []
big_endian (suc n) v = big_endian n (v / 2 ^ 8) ++ (v % 2 ^ 8) ∷ []

-- The letter of a command.
abbrev pub letter_of_item : Item → ℕ
letter_of_item (General k n) = letter_r
letter_of_item (Segment n) = letter_s
letter_of_item Status = letter_p
letter_of_item Location = letter_l

abbrev pub letter_of : Order → ℕ
letter_of (Point a) = letter_a
letter_of (Deposit v) = letter_d
letter_of (Set i v) = letter_of_item i
letter_of (Go n) = letter_g

-- Its operand. A general register has a digit for its set and one for its number.
abbrev pub item_operand : Item → ℕ → List ℕ
item_operand (General k n) v = (k * 16 + n) ∷ big_endian 4 v
item_operand (Segment n) v = n ∷ big_endian 4 v
item_operand Status v = big_endian 4 v
item_operand Location v = big_endian 3 v

abbrev pub operand_of : Order → List ℕ
operand_of (Point a) = big_endian 3 a
operand_of (Deposit v) = big_endian 2 v
operand_of (Set i v) = item_operand i v
operand_of (Go n) = big_endian 3 n

-- The operands that the bytes can hold.
abbrev pub ItemInRange : Item → ℕ → Type 0
ItemInRange (General k n) v = (k < 16) × (n < 16) × (v < 2 ^ 32)
ItemInRange (Segment n) v = (n < 2 ^ 8) × (v < 2 ^ 32)
ItemInRange Status v = v < 2 ^ 32
ItemInRange Location v = v < 2 ^ 24

abbrev pub InRange : Order → Type 0
InRange (Point a) = a < 2 ^ 24
InRange (Deposit v) = v < 2 ^ 16
InRange (Set i v) = ItemInRange i v
InRange (Go n) = n < 2 ^ 24

-- A command as bytes, and a list of them.
abbrev pub written : Order → List ℕ
written o = letter_of o ∷ operand_of o

abbrev pub tape_of : List Order → List ℕ
tape_of os = flat_map written os

-- A list of commands as a tape spells them: each at its letter's place, the deposits at their addresses, and nothing broken.
abbrev pub listed : List Order → ℕ → ℕ → Spelling
listed [] place a = end
listed (o ∷ os) place a = order (order_of a o) (letter_of o) place (listed os (place + length (written o)) (next_of a o))

-- What is written is read back.
abbrev pub ReadsBack : Type 0
ReadsBack = (os : List Order) → All InRange os → spell (tape_of os) ≡ listed os 0 0
