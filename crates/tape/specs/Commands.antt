-- The commands of a tape, read by the code.
use Rattle.std.specs.Prelude.{◌≡◌, ℕ, zero, suc, ◌+◌, ◌*◌, ◌^◌, ◌<◌, ◌≤◌, List, length, drop, slice_index}
use Rattle.model.specs.declared.Denial.{Denial}
use Rattle.model.specs.declared.Denial.TheVariants.{UnknownLetter, CutShort}
use Rattle.model.specs.Console.{deposit, set_item}
use Rattle.model.specs.Tapes.{Order, point, obey, go, Command, unknown, known, command_of}
use Rattle.tape.specs.declared.orders.Order.{Order as TapeOrder}
use Rattle.tape.specs.declared.orders.Order.TheVariants.{Point, Deposit, Set, Go}

-- The number of the first n bytes, high byte first.
abbrev pub number_of : ℕ → List ℕ → ℕ
number_of zero bytes = 0
number_of (suc n) bytes = number_of n bytes * 2 ^ 8 + slice_index bytes n

-- The order that a command of the code is, where the next deposit is at the address a.
abbrev pub order_of : ℕ → TapeOrder → Order
order_of a (Point b) = point
order_of a (Deposit v) = obey (deposit a v)
order_of a (Set i v) = obey (set_item i v)
order_of a (Go n) = go n

-- The address of the next deposit after it.
abbrev pub next_of : ℕ → TapeOrder → ℕ
next_of a (Point b) = b
next_of a (Deposit v) = a + 2
next_of a (Set i v) = a
next_of a (Go n) = a

-- A command whose operand the bytes hold whole, with the bytes behind it.
abbrev pub Holds : Command → List ℕ → Order → ℕ → List ℕ → Type 0
Holds unknown bytes o next rest = ⊥
Holds (known size p n) bytes o next rest = (p ≡ o) × (n ≡ next) × (size ≤ length bytes) × (rest ≡ drop size bytes)

-- A letter that, with the bytes behind it, is a whole command, wherever the next deposit is.
abbrev pub Whole : ℕ → List ℕ → TapeOrder → List ℕ → Type 0
Whole letter bytes o rest = (a : ℕ) → Holds (command_of letter a bytes) bytes (order_of a o) (next_of a o) rest

-- A letter that is no command, or whose operand the bytes cut short.
abbrev pub Stops : Command → List ℕ → Denial → Type 0
Stops unknown bytes d = d ≡ UnknownLetter
Stops (known size p n) bytes d = (length bytes < size) × (d ≡ CutShort)

-- .. wherever the next deposit is.
abbrev pub Broken : ℕ → List ℕ → Denial → Type 0
Broken letter bytes d = (a : ℕ) → Stops (command_of letter a bytes) bytes d
