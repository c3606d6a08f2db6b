-- The forms of instructions, the halfwords that they take, and the address rule.
use Rattle.std.specs.Prelude.{◌≡◌, ℕ, ◌+◌, ◌-◌, ◌*◌, ◌/◌, ◌%◌, ◌^◌, ◌≤◌, Bool, cond, List, length, drop, ◌==◌, nat_lt, slice_index}
use Rattle.decode.specs.declared.operations.Operation.{Operation}
use Rattle.decode.specs.declared.operations.Operation.TheVariants.{Register, Short, Memory, Immediate, LongImmediate, Illegal}
use Rattle.decode.specs.declared.operations.Form.{Form}
use Rattle.decode.specs.declared.operations.Form.TheVariants.{Single, Indexed, Pair, Triple}

-- The form of an operation.
abbrev pub form_of : Operation → Form
form_of (Register o) = Single
form_of (Short o) = Single
form_of (Memory o) = Indexed
form_of (Immediate o) = Pair
form_of (LongImmediate f) = Triple
form_of Illegal = Single

-- ── The first halfword: an 8-bit code, R1, and a field R2, N, X2 or FX2 ──
unfoldable pub code_field : ℕ → ℕ
code_field h = h / 2 ^ 8

unfoldable pub first_field : ℕ → ℕ
first_field h = h / 2 ^ 4 % 2 ^ 4

unfoldable pub second_field : ℕ → ℕ
second_field h = h % 2 ^ 4

-- ── The second: it begins 00 (RX1), 1 (RX2) or 01 (RX3) ──
unfoldable pub is_long : ℕ → Bool
is_long w = w / 2 ^ 14 == 1

-- The second index SX2 of RX3: its bits 4:7.
unfoldable pub index_field : ℕ → ℕ
index_field w = w / 2 ^ 8 % 2 ^ 4

-- How many halfwords an instruction of a form takes, by its second halfword.
abbrev pub size_of : Form → ℕ → ℕ
size_of Single w = 1
size_of Indexed w = cond (is_long w) 3 2
size_of Pair w = 2
size_of Triple w = 3

-- .. and at the front of a list of halfwords.
abbrev pub size_at : Form → List ℕ → ℕ
size_at f words = size_of f (slice_index words 1)

-- ── Addresses ──
-- A signed number of 15 bits, modulo 2^20.
unfoldable pub signed15 : ℕ → ℕ
signed15 v = cond (nat_lt v (2 ^ 14)) v (v + (2 ^ 20 - 2 ^ 15))

-- The address of an instruction at own with the halfwords w and x behind the first, and the index registers i and j. RX1: the
-- low 14 bits plus X2. RX2: the signed low 15 bits plus the next instruction's address plus X2. RX3: A2, the last byte of the second
-- halfword and the third one, plus FX2 plus SX2. The low 20 bits count.
unfoldable pub address_of : ℕ → ℕ → ℕ → ℕ → ℕ → ℕ
address_of own w x i j =
    cond (nat_lt w (2 ^ 14)) ((w + i) % 2 ^ 20)
    (cond (nat_lt w (2 ^ 15)) ((w % 2 ^ 8 * 2 ^ 16 + x + i + j) % 2 ^ 20)
    ((signed15 (w % 2 ^ 15) + (own + 4) + i) % 2 ^ 20))

-- ── Taking apart ──
-- The k-th halfword of an instruction of size halfwords, or 0 if it has none.
abbrev pub part_of : ℕ → ℕ → List ℕ → ℕ
part_of size k words = cond (nat_lt k size) (slice_index words k) 0

-- An instruction of size halfwords at the front of a list: its three halfwords, and those behind it.
pub record Taken (size : ℕ) (words : List ℕ) (first second third : ℕ) (rest : List ℕ) : Type 0 where
  pub enough : size ≤ length words
  pub one : first ≡ part_of size 0 words
  pub two : second ≡ part_of size 1 words
  pub three : third ≡ part_of size 2 words
  pub behind : rest ≡ drop size words
