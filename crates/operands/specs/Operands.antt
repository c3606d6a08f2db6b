-- What instructions share: indexes and addresses, fullwords in the store, the functions of the families, and branches.
use Rattle.std.specs.Prelude.{ℕ, ◌+◌, ◌%◌, cond, ◌==◌, bit_and, bit_or, bit_xor}
use Rattle.model.specs.Status.{address}
use Rattle.model.specs.Effects.{Prog, ret, reg, set_reg, get_code, set_code, jump, fetch, load, store, seq}
use Rattle.registers.specs.Parity.{is_odd}
use Rattle.processor.specs.Writes.{put}
use Rattle.words.specs.Sums.{marks, sum, sum_code, difference, difference_code, compare_code, compare_logical_code}
use Rattle.fields.specs.Parts.{joined, high_half, low_half, byte_at}
use Rattle.decode.specs.declared.operations.Function.{Function}
use Rattle.decode.specs.declared.operations.Function.TheVariants.{And, CompareLogical, Or, ExclusiveOr, Load, Compare, Add, Subtract, Test}
use Rattle.decode.specs.Forms.{second_field, is_long, index_field, address_of}

-- One after the other, the first one's number not used.
abbrev pub then : Prog → Prog → Prog
then p q = seq p (λ _. q)

-- ── Addresses ──
-- Register 0 as an index counts 0.
abbrev pub index_tree : ℕ → Prog
index_tree n = cond (n == 0) (ret 0) (reg n)

-- The third halfword of an instruction at own, if the second, w, says that there is one.
abbrev pub third_tree : ℕ → ℕ → Prog
third_tree own w = cond (is_long w) (fetch (address (own + 4))) (ret 0)

-- The address of the next instruction.
abbrev pub next_of : ℕ → ℕ → ℕ
next_of own w = cond (is_long w) (address (own + 6)) (address (own + 4))

-- The address of an instruction at own with the halfwords h, w and x.
unfoldable pub address_tree : ℕ → ℕ → ℕ → ℕ → Prog
address_tree own h w x =
    seq (index_tree (second_field h)) (λ i. seq (index_tree (cond (is_long w) (index_field w) 0)) (λ j. ret (address_of own w x i j)))

-- ── Register numbers ──
-- The register k after register n; after 15 comes 0.
unfoldable pub following : ℕ → ℕ → ℕ
following n k = (n + k) % 16

-- ── Bytes, and fullwords, the high half first ──
unfoldable pub load_byte : ℕ → Prog
load_byte a = seq (load a) (λ h. ret (byte_at (is_odd a) h))

unfoldable pub load_full : ℕ → Prog
load_full a = seq (load a) (λ high. seq (load (address (a + 2))) (λ low. ret (joined high low)))

unfoldable pub store_full : ℕ → ℕ → Prog
store_full a v = then (store a (put (high_half v))) (store (address (a + 2)) (put (low_half v)))

-- ── The functions, of register r and the operand y ──
-- A result that goes to the register, with its marks.
abbrev pub result_tree : ℕ → ℕ → Prog
result_tree r v = then (set_reg r v) (set_code (marks v))

abbrev pub apply_tree : Function → ℕ → ℕ → Prog
apply_tree And r y = seq (reg r) (λ x. result_tree r (bit_and x y))
apply_tree CompareLogical r y = seq (reg r) (λ x. set_code (compare_logical_code x y))
apply_tree Or r y = seq (reg r) (λ x. result_tree r (bit_or x y))
apply_tree ExclusiveOr r y = seq (reg r) (λ x. result_tree r (bit_xor x y))
apply_tree Load r y = result_tree r y
apply_tree Compare r y = seq (reg r) (λ x. set_code (compare_code x y))
apply_tree Add r y = seq (reg r) (λ x. then (set_reg r (sum x y)) (set_code (sum_code x y)))
apply_tree Subtract r y = seq (reg r) (λ x. then (set_reg r (difference x y)) (set_code (difference_code x y)))
apply_tree Test r y = seq (reg r) (λ x. set_code (marks (bit_and x y)))

-- .. and on to the next instruction.
abbrev pub applied_tree : Function → ℕ → ℕ → ℕ → Prog
applied_tree f r y next = then (apply_tree f r y) (jump next)

-- ── Branches: to the target if a bit of the mask is in the condition code, or if none is ──
abbrev pub branch_true : ℕ → ℕ → ℕ → Prog
branch_true mask target next = seq get_code (λ c. cond (bit_and c mask == 0) (jump next) (jump target))

abbrev pub branch_false : ℕ → ℕ → ℕ → Prog
branch_false mask target next = seq get_code (λ c. cond (bit_and c mask == 0) (jump target) (jump next))
