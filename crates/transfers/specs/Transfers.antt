-- Moves between registers and the store, single bits, and the branches on an index.
use Rattle.std.specs.Prelude.{ℕ, ◌+◌, ◌*◌, cond, ◌==◌, nat_lt}
use Rattle.model.specs.Status.{address, to_half, to_full}
use Rattle.model.specs.Effects.{Prog, ret, as_number, reg, set_reg, set_code, jump, load, store, seq}
use Rattle.registers.specs.Parity.{is_odd}
use Rattle.processor.specs.Writes.{put, put_byte}
use Rattle.words.specs.Sums.{sum, sum_code, compare_logical_code, extended}
use Rattle.fields.specs.Parts.{low_half, with_low_half, halves_exchanged, low_byte, with_low_byte, bytes_exchanged}
use Rattle.fields.specs.Bits.{bit_offset, bit_of, with_bit, without_bit, with_bit_flipped}
use Rattle.transfers.specs.declared.bits.BitChange.{BitChange}
use Rattle.transfers.specs.declared.bits.BitChange.TheVariants.{Set, Clear, Complement}
use Rattle.operands.specs.Operands.{then, following, load_byte, load_full, store_full, result_tree}

-- ── Between registers ──
abbrev pub exhr_tree : ℕ → ℕ → Prog
exhr_tree r1 r2 = seq (reg r2) (λ v. set_reg r1 (halves_exchanged v))

-- The high half of r1 stays.
abbrev pub exbr_tree : ℕ → ℕ → Prog
exbr_tree r1 r2 = seq (reg r1) (λ x. seq (reg r2) (λ y. set_reg r1 (with_low_half x (bytes_exchanged y))))

abbrev pub lbr_tree : ℕ → ℕ → Prog
lbr_tree r1 r2 = seq (reg r2) (λ v. set_reg r1 (low_byte v))

-- It is r2 that takes the byte, and keeps its others.
abbrev pub stbr_tree : ℕ → ℕ → Prog
stbr_tree r1 r2 = seq (reg r1) (λ x. seq (reg r2) (λ y. set_reg r2 (with_low_byte y (low_byte x))))

-- ── Halfwords and bytes of the store ──
abbrev pub sth_tree : ℕ → ℕ → ℕ → Prog
sth_tree r1 a next = seq (reg r1) (λ v. then (store (to_half a) (put (low_half v))) (jump next))

abbrev pub st_tree : ℕ → ℕ → ℕ → Prog
st_tree r1 a next = seq (reg r1) (λ v. then (store_full (to_full a) v) (jump next))

abbrev pub lhl_tree : ℕ → ℕ → ℕ → Prog
lhl_tree r1 a next = seq (load (to_half a)) (λ h. then (result_tree r1 h) (jump next))

abbrev pub lb_tree : ℕ → ℕ → ℕ → Prog
lb_tree r1 a next = seq (load_byte a) (λ b. then (set_reg r1 b) (jump next))

-- One write, and no read.
abbrev pub stb_tree : ℕ → ℕ → ℕ → Prog
stb_tree r1 a next = seq (reg r1) (λ v. then (store a (put_byte (is_odd a) (low_byte v))) (jump next))

abbrev pub clb_tree : ℕ → ℕ → ℕ → Prog
clb_tree r1 a next = seq (reg r1) (λ v. seq (load_byte a) (λ b. then (set_code (compare_logical_code (low_byte v) b)) (jump next)))

-- ── An operand that is read, then written; the code is set after both ──
-- A halfword goes to the store, with a condition code.
abbrev pub written_tree : ℕ → ℕ → ℕ → ℕ → Prog
written_tree a h code next = then (store a (put h)) (then (set_code code) (jump next))

abbrev pub am_tree : ℕ → ℕ → ℕ → Prog
am_tree r1 a next =
    seq (reg r1) (λ x.
    seq (load_full (to_full a)) (λ y.
    then (store_full (to_full a) (sum y x)) (then (set_code (sum_code y x)) (jump next))))

-- The code is that of the sum of 32 bits.
abbrev pub ahm_tree : ℕ → ℕ → ℕ → Prog
ahm_tree r1 a next =
    seq (reg r1) (λ x.
    seq (load (to_half a)) (λ h.
    written_tree (to_half a) (low_half (sum (extended h) x)) (sum_code (extended h) x) next))

-- L if the first bit was 1.
abbrev pub ts_tree : ℕ → ℕ → Prog
ts_tree a next = seq (load (to_half a)) (λ h. written_tree (to_half a) (with_bit 0 h) (bit_of 0 h) next)

-- ── A row of bits from the address a on; register r1 says which one. G if the bit was 1 ──
unfoldable pub bit_place : ℕ → ℕ → ℕ
bit_place a n = to_half (address (a + bit_offset n))

abbrev pub tbt_tree : ℕ → ℕ → ℕ → Prog
tbt_tree r1 a next = seq (reg r1) (λ n. seq (load (bit_place a n)) (λ h. then (set_code (2 * bit_of n h)) (jump next)))

-- Set, cleared or complemented: change_bit_tree Set is sbt_tree, and so on.
abbrev pub changed : BitChange → ℕ → ℕ → ℕ
changed Set n h = with_bit n h
changed Clear n h = without_bit n h
changed Complement n h = with_bit_flipped n h

abbrev pub change_bit_tree : BitChange → ℕ → ℕ → ℕ → Prog
change_bit_tree c r1 a next = seq (reg r1) (λ n. seq (load (bit_place a n)) (λ h. written_tree (bit_place a n) (changed c n h) (2 * bit_of n h) next))

abbrev pub sbt_tree : ℕ → ℕ → ℕ → Prog
sbt_tree r1 a next = seq (reg r1) (λ n. seq (load (bit_place a n)) (λ h. written_tree (bit_place a n) (with_bit n h) (2 * bit_of n h) next))

abbrev pub rbt_tree : ℕ → ℕ → ℕ → Prog
rbt_tree r1 a next = seq (reg r1) (λ n. seq (load (bit_place a n)) (λ h. written_tree (bit_place a n) (without_bit n h) (2 * bit_of n h) next))

abbrev pub cbt_tree : ℕ → ℕ → ℕ → Prog
cbt_tree r1 a next = seq (reg r1) (λ n. seq (load (bit_place a n)) (λ h. written_tree (bit_place a n) (with_bit_flipped n h) (2 * bit_of n h) next))

-- ── Branches on an index ──
-- Register r rises by the next register; 1 if it is then above the one after that, as numbers from 0 on, else 0.
abbrev pub raise_tree : ℕ → Prog
raise_tree r =
    seq (reg r) (λ x.
    seq (reg (following r 1)) (λ y.
    seq (reg (following r 2)) (λ limit.
    then (set_reg r (sum x y)) (ret (as_number (nat_lt limit (sum x y)))))))

abbrev pub bxh_tree : ℕ → ℕ → ℕ → Prog
bxh_tree r1 a next = seq (raise_tree r1) (λ above. cond (above == 0) (jump next) (jump a))

abbrev pub bxle_tree : ℕ → ℕ → ℕ → Prog
bxle_tree r1 a next = seq (raise_tree r1) (λ above. cond (above == 0) (jump a) (jump next))
