-- Shifts, products and quotients in the registers.
use Rattle.std.specs.Prelude.{ℕ, ◌+◌, ◌*◌, ◌/◌, ◌%◌, Some, None, Option}
use Rattle.model.specs.declared.Trap.TheVariants.{Arithmetic}
use Rattle.model.specs.Status.{to_full}
use Rattle.model.specs.Effects.{Prog, stop, reg, set_reg, set_code, jump, seq}
use Rattle.words.specs.Products.{product_high, product_low, divided}
use Rattle.shifts.specs.declared.Shift.{Shift}
use Rattle.shifts.specs.Shifts.{shifted, shifted_code, shift_right, shift_left, shift_right_arithmetic, shift_left_arithmetic, rotate_right, rotate_left, shift_right_code, shift_left_code, shift_right_arithmetic_code, shift_left_arithmetic_code, rotate_right_code, rotate_left_code}
use Rattle.operands.specs.Operands.{then, load_full}

-- ── Shifts and rotates of register r; a count is taken modulo 32 ──
-- A result that goes to the register, with its condition code.
abbrev pub coded_tree : ℕ → ℕ → ℕ → Prog
coded_tree r v code = then (set_reg r v) (set_code code)

-- shift_tree Right is srl_tree, shift_tree Left is sll_tree, and so on.
abbrev pub shift_tree : Shift → ℕ → ℕ → Prog
shift_tree s r n = seq (reg r) (λ v. coded_tree r (shifted s v (n % 32)) (shifted_code s v (n % 32)))

abbrev pub srl_tree : ℕ → ℕ → Prog
srl_tree r n = seq (reg r) (λ v. coded_tree r (shift_right v (n % 32)) (shift_right_code v (n % 32)))

abbrev pub sll_tree : ℕ → ℕ → Prog
sll_tree r n = seq (reg r) (λ v. coded_tree r (shift_left v (n % 32)) (shift_left_code v (n % 32)))

abbrev pub sra_tree : ℕ → ℕ → Prog
sra_tree r n = seq (reg r) (λ v. coded_tree r (shift_right_arithmetic v (n % 32)) (shift_right_arithmetic_code v (n % 32)))

abbrev pub sla_tree : ℕ → ℕ → Prog
sla_tree r n = seq (reg r) (λ v. coded_tree r (shift_left_arithmetic v (n % 32)) (shift_left_arithmetic_code v (n % 32)))

abbrev pub rrl_tree : ℕ → ℕ → Prog
rrl_tree r n = seq (reg r) (λ v. coded_tree r (rotate_right v (n % 32)) (rotate_right_code v (n % 32)))

abbrev pub rll_tree : ℕ → ℕ → Prog
rll_tree r n = seq (reg r) (λ v. coded_tree r (rotate_left v (n % 32)) (rotate_left_code v (n % 32)))

-- ── The pair of register r: r with its last bit cleared, and the next ──
unfoldable pub pair_of : ℕ → ℕ
pair_of r = r / 2 * 2

-- The second register of the pair times y: the high fullword of the product goes to the first, the low one to the second.
abbrev pub multiply_tree : ℕ → ℕ → Prog
multiply_tree r y =
    seq (reg (pair_of r + 1)) (λ x. then (set_reg (pair_of r) (product_high x y)) (set_reg (pair_of r + 1) (product_low x y)))

-- The remainder goes to the first, the quotient to the second; without a quotient no register changes.
abbrev pub quotient_tree : ℕ → Option (ℕ × ℕ) → Prog
quotient_tree r None = stop Arithmetic
quotient_tree r (Some p) = then (set_reg (pair_of r) p.1) (set_reg (pair_of r + 1) p.0)

-- The pair by y. A fault leaves the next instruction's address.
abbrev pub divide_tree : ℕ → ℕ → ℕ → Prog
divide_tree r y next =
    seq (reg (pair_of r)) (λ high. seq (reg (pair_of r + 1)) (λ low. then (jump next) (quotient_tree r (divided high low y))))

-- ── The other operand in the store ──
abbrev pub m_tree : ℕ → ℕ → ℕ → Prog
m_tree r a next = seq (load_full (to_full a)) (λ y. then (multiply_tree r y) (jump next))

abbrev pub d_tree : ℕ → ℕ → ℕ → Prog
d_tree r a next = seq (load_full (to_full a)) (λ y. divide_tree r y next)
