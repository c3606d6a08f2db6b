-- What each instruction does, as a tree of effects.
use Rattle.std.specs.Prelude.{ℕ, ◌+◌, ◌-◌, ◌*◌, ◌^◌, Bool, true, false}
use Rattle.model.specs.declared.Trap.TheVariants.{Illegal as unlawful, Supervisor}
use Rattle.model.specs.Status.{address, to_half, to_full, to_psw}
use Rattle.model.specs.Effects.{Prog, stop, privileged, reg, set_reg, get_location, jump, fetch, load, get_status, set_status, seq}
use Rattle.words.specs.Sums.{sum, difference, extended}
use Rattle.fields.specs.Parts.{joined}
use Rattle.decode.specs.declared.operations.Function.{Function}
use Rattle.decode.specs.declared.operations.Function.TheVariants.{Load, Add, Subtract}
use Rattle.decode.specs.declared.operations.RegisterOp.{RegisterOp}
use Rattle.decode.specs.declared.operations.RegisterOp.TheVariants.{Balr, Btcr, Bfcr, WithRegister, Lpswr, Mr, Dr, Exhr, Stbr, Lbr, Exbr, Epsr, Wdr, Rdr, Ssr, Ocr}
use Rattle.decode.specs.declared.operations.ShortOp.{ShortOp}
use Rattle.decode.specs.declared.operations.ShortOp.TheVariants.{Srls, Slls, Btbs, Btfs, Bfbs, Bffs, Lis, Lcs, Ais, Sis}
use Rattle.decode.specs.declared.operations.MemoryOp.{MemoryOp}
use Rattle.decode.specs.declared.operations.MemoryOp.TheVariants.{Sth, Bal, Btc, Bfc, WithHalf, St, Am, WithFull, M, D, Ahm, Lhl, Tbt, Sbt, Rbt, Cbt, Bxh, Bxle, Lpsw, Stm, Lm, Stb, Lb, Clb, Wd, Rd, Ss, Oc, Ts, Svc, La}
use Rattle.decode.specs.declared.operations.ImmediateOp.{ImmediateOp}
use Rattle.decode.specs.declared.operations.ImmediateOp.TheVariants.{WithImmediate, Rrl, Rll, Srl, Sll, Sra, Sla}
use Rattle.decode.specs.declared.operations.Operation.{Operation}
use Rattle.decode.specs.declared.operations.Operation.TheVariants.{Register, Short, Memory, Immediate, LongImmediate, Illegal}
use Rattle.decode.specs.Codes.{is_privileged, operation_of}
use Rattle.decode.specs.Forms.{code_field, first_field, second_field}
use Rattle.operands.specs.Operands.{then, following, index_tree, third_tree, next_of, address_tree, load_full, apply_tree, applied_tree, branch_true, branch_false}
use Rattle.computing.specs.Computing.{srl_tree, sll_tree, sra_tree, sla_tree, rrl_tree, rll_tree, multiply_tree, divide_tree, m_tree, d_tree}
use Rattle.transfers.specs.Transfers.{exhr_tree, exbr_tree, lbr_tree, stbr_tree, sth_tree, st_tree, lhl_tree, lb_tree, stb_tree, clb_tree, am_tree, ahm_tree, ts_tree, tbt_tree, sbt_tree, rbt_tree, cbt_tree, bxh_tree, bxle_tree}
use Rattle.multiples.specs.Multiples.{lm_tree, stm_tree}
use Rattle.devices.specs.Devices.{wdr_tree, ocr_tree, rdr_tree, ssr_tree, wd_tree, oc_tree, rd_tree, ss_tree}

-- ── RR: registers r1 and r2; next is the address of the next instruction ──
abbrev pub balr_tree : ℕ → ℕ → ℕ → Prog
balr_tree r1 r2 next = seq (reg r2) (λ t. then (set_reg r1 next) (jump (address t)))

-- The two registers are those of the set in use before; after register 15 comes 0.
abbrev pub lpswr_tree : ℕ → Prog
lpswr_tree r2 = seq (reg r2) (λ status. seq (reg (following r2 1)) (λ location. then (set_status status) (jump (address location))))

-- r1 takes the status before r2 is read, so that equal ones leave the status.
abbrev pub epsr_tree : ℕ → ℕ → ℕ → Prog
epsr_tree r1 r2 next =
    seq get_status (λ old. then (set_reg r1 old) (seq (reg r2) (λ new. then (set_status new) (jump next))))

abbrev pub register_tree : RegisterOp → ℕ → ℕ → ℕ → Prog
register_tree Balr r1 r2 next = balr_tree r1 r2 next
register_tree Btcr r1 r2 next = seq (reg r2) (λ t. branch_true r1 (address t) next)
register_tree Bfcr r1 r2 next = seq (reg r2) (λ t. branch_false r1 (address t) next)
register_tree (WithRegister f) r1 r2 next = seq (reg r2) (λ y. applied_tree f r1 y next)
register_tree Lpswr r1 r2 next = lpswr_tree r2
register_tree Mr r1 r2 next = seq (reg r2) (λ y. then (multiply_tree r1 y) (jump next))
register_tree Dr r1 r2 next = seq (reg r2) (λ y. divide_tree r1 y next)
register_tree Exhr r1 r2 next = then (exhr_tree r1 r2) (jump next)
register_tree Stbr r1 r2 next = then (stbr_tree r1 r2) (jump next)
register_tree Lbr r1 r2 next = then (lbr_tree r1 r2) (jump next)
register_tree Exbr r1 r2 next = then (exbr_tree r1 r2) (jump next)
register_tree Epsr r1 r2 next = epsr_tree r1 r2 next
register_tree Wdr r1 r2 next = wdr_tree r1 r2 next
register_tree Rdr r1 r2 next = rdr_tree r1 r2 next
register_tree Ssr r1 r2 next = ssr_tree r1 r2 next
register_tree Ocr r1 r2 next = ocr_tree r1 r2 next

-- ── SF: register r1 and the number n ──
abbrev pub short_tree : ShortOp → ℕ → ℕ → ℕ → Prog
short_tree Srls own r1 n = then (srl_tree r1 n) (jump (address (own + 2)))
short_tree Slls own r1 n = then (sll_tree r1 n) (jump (address (own + 2)))
short_tree Btbs own r1 n = branch_true r1 (address (own + (2 ^ 20 - 2 * n))) (address (own + 2))
short_tree Btfs own r1 n = branch_true r1 (address (own + 2 * n)) (address (own + 2))
short_tree Bfbs own r1 n = branch_false r1 (address (own + (2 ^ 20 - 2 * n))) (address (own + 2))
short_tree Bffs own r1 n = branch_false r1 (address (own + 2 * n)) (address (own + 2))
short_tree Lis own r1 n = then (apply_tree Load r1 n) (jump (address (own + 2)))
short_tree Lcs own r1 n = then (apply_tree Load r1 (difference 0 n)) (jump (address (own + 2)))
short_tree Ais own r1 n = then (apply_tree Add r1 n) (jump (address (own + 2)))
short_tree Sis own r1 n = then (apply_tree Subtract r1 n) (jump (address (own + 2)))

-- ── RX: register r1 and the address a; next is the address of the next instruction ──
abbrev pub with_half_tree : Function → ℕ → ℕ → ℕ → Prog
with_half_tree f r1 a next = seq (load (to_half a)) (λ h. then (apply_tree f r1 (extended h)) (jump next))

abbrev pub with_full_tree : Function → ℕ → ℕ → ℕ → Prog
with_full_tree f r1 a next = seq (load_full (to_full a)) (λ y. then (apply_tree f r1 y) (jump next))

-- A PSW: four halfwords in their order, and all status bits are loaded.
abbrev pub lpsw_tree : ℕ → Prog
lpsw_tree a =
    seq (load_full (to_psw a)) (λ status. seq (load_full (address (to_psw a + 4))) (λ location. then (set_status status) (jump (address location))))

-- The status and the Location Counter of the next instruction are saved.
abbrev pub svc_tree : ℕ → ℕ → ℕ → Prog
svc_tree r1 a next = then (jump next) (stop (Supervisor r1 a))

abbrev pub memory_tree : MemoryOp → ℕ → ℕ → ℕ → Prog
memory_tree Sth r1 a next = sth_tree r1 a next
memory_tree Bal r1 a next = then (set_reg r1 next) (jump a)
memory_tree Btc r1 a next = branch_true r1 a next
memory_tree Bfc r1 a next = branch_false r1 a next
memory_tree (WithHalf f) r1 a next = with_half_tree f r1 a next
memory_tree St r1 a next = st_tree r1 a next
memory_tree Am r1 a next = am_tree r1 a next
memory_tree (WithFull f) r1 a next = with_full_tree f r1 a next
memory_tree M r1 a next = m_tree r1 a next
memory_tree D r1 a next = d_tree r1 a next
memory_tree Ahm r1 a next = ahm_tree r1 a next
memory_tree Lhl r1 a next = lhl_tree r1 a next
memory_tree Tbt r1 a next = tbt_tree r1 a next
memory_tree Sbt r1 a next = sbt_tree r1 a next
memory_tree Rbt r1 a next = rbt_tree r1 a next
memory_tree Cbt r1 a next = cbt_tree r1 a next
memory_tree Bxh r1 a next = bxh_tree r1 a next
memory_tree Bxle r1 a next = bxle_tree r1 a next
memory_tree Lpsw r1 a next = lpsw_tree a
memory_tree Stm r1 a next = stm_tree r1 a next
memory_tree Lm r1 a next = lm_tree r1 a next
memory_tree Stb r1 a next = stb_tree r1 a next
memory_tree Lb r1 a next = lb_tree r1 a next
memory_tree Clb r1 a next = clb_tree r1 a next
memory_tree Wd r1 a next = wd_tree r1 a next
memory_tree Rd r1 a next = rd_tree r1 a next
memory_tree Ss r1 a next = ss_tree r1 a next
memory_tree Oc r1 a next = oc_tree r1 a next
memory_tree Ts r1 a next = ts_tree a next
memory_tree Svc r1 a next = svc_tree r1 a next
memory_tree La r1 a next = then (set_reg r1 a) (jump next)

-- ── RI1: register r1 and the operand y ──
abbrev pub immediate_tree : ImmediateOp → ℕ → ℕ → Prog
immediate_tree (WithImmediate f) r1 y = apply_tree f r1 y
immediate_tree Rrl r1 y = rrl_tree r1 y
immediate_tree Rll r1 y = rll_tree r1 y
immediate_tree Srl r1 y = srl_tree r1 y
immediate_tree Sll r1 y = sll_tree r1 y
immediate_tree Sra r1 y = sra_tree r1 y
immediate_tree Sla r1 y = sla_tree r1 y

-- ── By the form: h is the first halfword, of the instruction at own ──
-- w and x are the second halfword and the third.
unfoldable pub addressed_tree : MemoryOp → ℕ → ℕ → ℕ → ℕ → Prog
addressed_tree o own h w x = seq (address_tree own h w x) (λ a. memory_tree o (first_field h) a (next_of own w))

unfoldable pub memory_body : MemoryOp → ℕ → ℕ → Prog
memory_body o own h = seq (fetch (address (own + 2))) (λ w. seq (third_tree own w) (λ x. addressed_tree o own h w x))

-- The operand is the second halfword, sign-extended, plus the index.
unfoldable pub immediate_body : ImmediateOp → ℕ → ℕ → Prog
immediate_body o own h =
    seq (fetch (address (own + 2))) (λ w.
    seq (index_tree (second_field h)) (λ i.
    then (immediate_tree o (first_field h) (sum (extended w) i))
    (jump (address (own + 4)))))

-- The operand is the second and third halfwords plus the index.
unfoldable pub long_body : Function → ℕ → ℕ → Prog
long_body f own h =
    seq (fetch (address (own + 2))) (λ w.
    seq (fetch (address (own + 4))) (λ x.
    seq (index_tree (second_field h)) (λ i.
    then (apply_tree f (first_field h) (sum (joined w x) i))
    (jump (address (own + 6))))))

abbrev pub body_of : Operation → ℕ → ℕ → Prog
body_of (Register o) own h = register_tree o (first_field h) (second_field h) (address (own + 2))
body_of (Short o) own h = short_tree o own (first_field h) (second_field h)
body_of (Memory o) own h = memory_body o own h
body_of (Immediate o) own h = immediate_body o own h
body_of (LongImmediate f) own h = long_body f own h
body_of Illegal own h = stop unlawful

-- A privileged code stops under protection, before more halfwords are fetched.
abbrev pub guarded : Bool → Prog → Prog
guarded true p = then privileged p
guarded false p = p

-- The instruction that begins with the halfword h.
unfoldable pub instruction : ℕ → Prog
instruction h = seq get_location (λ own. guarded (is_privileged (code_field h)) (body_of (operation_of (code_field h)) own h))
