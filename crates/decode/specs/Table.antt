-- The whole table of operation codes, and what holds of it.
use Rattle.std.specs.Prelude.{◌≡◌, ℕ, zero, suc, ◌+◌, Bool, true, false, cond, ◌&&◌, List, [], ◌∷◌, map}
use Rattle.decode.specs.declared.operations.Function.TheVariants.{And, CompareLogical, Or, ExclusiveOr, Load, Compare, Add, Subtract, Test}
use Rattle.decode.specs.declared.operations.RegisterOp.TheVariants.{Balr, Btcr, Bfcr, WithRegister, Lpswr, Mr, Dr, Exhr, Stbr, Lbr, Exbr, Epsr, Wdr, Rdr, Ssr, Ocr}
use Rattle.decode.specs.declared.operations.ShortOp.TheVariants.{Srls, Slls, Btbs, Btfs, Bfbs, Bffs, Lis, Lcs, Ais, Sis}
use Rattle.decode.specs.declared.operations.MemoryOp.TheVariants.{Sth, Bal, Btc, Bfc, WithHalf, St, Am, WithFull, M, D, Ahm, Lhl, Tbt, Sbt, Rbt, Cbt, Bxh, Bxle, Lpsw, Stm, Lm, Stb, Lb, Clb, Wd, Rd, Ss, Oc, Ts, Svc, La}
use Rattle.decode.specs.declared.operations.ImmediateOp.TheVariants.{WithImmediate, Rrl, Rll, Srl, Sll, Sra, Sla}
use Rattle.decode.specs.declared.operations.Operation.{Operation}
use Rattle.decode.specs.declared.operations.Operation.TheVariants.{Register, Short, Memory, Immediate, LongImmediate, Illegal}
use Rattle.decode.specs.Codes.{operation_of, is_privileged}

-- All 256 codes, sixteen to a row.
abbrev pub table : List Operation
table =
    -- X'00' to X'0F'
    Illegal ∷ Register Balr ∷ Register Btcr ∷ Register Bfcr ∷
    Register (WithRegister And) ∷ Register (WithRegister CompareLogical) ∷ Register (WithRegister Or) ∷ Register (WithRegister ExclusiveOr) ∷
    Register (WithRegister Load) ∷ Register (WithRegister Compare) ∷ Register (WithRegister Add) ∷ Register (WithRegister Subtract) ∷
    Illegal ∷ Illegal ∷ Illegal ∷ Illegal ∷
    -- X'10' to X'1F'
    Short Srls ∷ Short Slls ∷ Illegal ∷ Illegal ∷
    Illegal ∷ Illegal ∷ Illegal ∷ Illegal ∷
    Register Lpswr ∷ Illegal ∷ Illegal ∷ Illegal ∷
    Register Mr ∷ Register Dr ∷ Illegal ∷ Illegal ∷
    -- X'20' to X'2F'
    Short Btbs ∷ Short Btfs ∷ Short Bfbs ∷ Short Bffs ∷
    Short Lis ∷ Short Lcs ∷ Short Ais ∷ Short Sis ∷
    Illegal ∷ Illegal ∷ Illegal ∷ Illegal ∷
    Illegal ∷ Illegal ∷ Illegal ∷ Illegal ∷
    -- X'30' to X'3F'
    Illegal ∷ Illegal ∷ Illegal ∷ Illegal ∷
    Register Exhr ∷ Illegal ∷ Illegal ∷ Illegal ∷
    Illegal ∷ Illegal ∷ Illegal ∷ Illegal ∷
    Illegal ∷ Illegal ∷ Illegal ∷ Illegal ∷
    -- X'40' to X'4F'
    Memory Sth ∷ Memory Bal ∷ Memory Btc ∷ Memory Bfc ∷
    Memory (WithHalf And) ∷ Memory (WithHalf CompareLogical) ∷ Memory (WithHalf Or) ∷ Memory (WithHalf ExclusiveOr) ∷
    Memory (WithHalf Load) ∷ Memory (WithHalf Compare) ∷ Memory (WithHalf Add) ∷ Memory (WithHalf Subtract) ∷
    Illegal ∷ Illegal ∷ Illegal ∷ Illegal ∷
    -- X'50' to X'5F'
    Memory St ∷ Memory Am ∷ Illegal ∷ Illegal ∷
    Memory (WithFull And) ∷ Memory (WithFull CompareLogical) ∷ Memory (WithFull Or) ∷ Memory (WithFull ExclusiveOr) ∷
    Memory (WithFull Load) ∷ Memory (WithFull Compare) ∷ Memory (WithFull Add) ∷ Memory (WithFull Subtract) ∷
    Memory M ∷ Memory D ∷ Illegal ∷ Illegal ∷
    -- X'60' to X'6F'
    Illegal ∷ Memory Ahm ∷ Illegal ∷ Illegal ∷
    Illegal ∷ Illegal ∷ Illegal ∷ Illegal ∷
    Illegal ∷ Illegal ∷ Illegal ∷ Illegal ∷
    Illegal ∷ Illegal ∷ Illegal ∷ Illegal ∷
    -- X'70' to X'7F'
    Illegal ∷ Illegal ∷ Illegal ∷ Memory Lhl ∷
    Memory Tbt ∷ Memory Sbt ∷ Memory Rbt ∷ Memory Cbt ∷
    Illegal ∷ Illegal ∷ Illegal ∷ Illegal ∷
    Illegal ∷ Illegal ∷ Illegal ∷ Illegal ∷
    -- X'80' to X'8F'
    Illegal ∷ Illegal ∷ Illegal ∷ Illegal ∷
    Illegal ∷ Illegal ∷ Illegal ∷ Illegal ∷
    Illegal ∷ Illegal ∷ Illegal ∷ Illegal ∷
    Illegal ∷ Illegal ∷ Illegal ∷ Illegal ∷
    -- X'90' to X'9F'
    Illegal ∷ Illegal ∷ Register Stbr ∷ Register Lbr ∷
    Register Exbr ∷ Register Epsr ∷ Illegal ∷ Illegal ∷
    Illegal ∷ Illegal ∷ Register Wdr ∷ Register Rdr ∷
    Illegal ∷ Register Ssr ∷ Register Ocr ∷ Illegal ∷
    -- X'A0' to X'AF'
    Illegal ∷ Illegal ∷ Illegal ∷ Illegal ∷
    Illegal ∷ Illegal ∷ Illegal ∷ Illegal ∷
    Illegal ∷ Illegal ∷ Illegal ∷ Illegal ∷
    Illegal ∷ Illegal ∷ Illegal ∷ Illegal ∷
    -- X'B0' to X'BF'
    Illegal ∷ Illegal ∷ Illegal ∷ Illegal ∷
    Illegal ∷ Illegal ∷ Illegal ∷ Illegal ∷
    Illegal ∷ Illegal ∷ Illegal ∷ Illegal ∷
    Illegal ∷ Illegal ∷ Illegal ∷ Illegal ∷
    -- X'C0' to X'CF'
    Memory Bxh ∷ Memory Bxle ∷ Memory Lpsw ∷ Immediate (WithImmediate Test) ∷
    Immediate (WithImmediate And) ∷ Immediate (WithImmediate CompareLogical) ∷ Immediate (WithImmediate Or) ∷ Immediate (WithImmediate ExclusiveOr) ∷
    Immediate (WithImmediate Load) ∷ Immediate (WithImmediate Compare) ∷ Immediate (WithImmediate Add) ∷ Immediate (WithImmediate Subtract) ∷
    Illegal ∷ Illegal ∷ Illegal ∷ Illegal ∷
    -- X'D0' to X'DF'
    Memory Stm ∷ Memory Lm ∷ Memory Stb ∷ Memory Lb ∷
    Memory Clb ∷ Illegal ∷ Illegal ∷ Illegal ∷
    Illegal ∷ Illegal ∷ Memory Wd ∷ Memory Rd ∷
    Illegal ∷ Memory Ss ∷ Memory Oc ∷ Illegal ∷
    -- X'E0' to X'EF'
    Memory Ts ∷ Memory Svc ∷ Illegal ∷ Illegal ∷
    Illegal ∷ Illegal ∷ Memory La ∷ Illegal ∷
    Illegal ∷ Illegal ∷ Immediate Rrl ∷ Immediate Rll ∷
    Immediate Srl ∷ Immediate Sll ∷ Immediate Sra ∷ Immediate Sla ∷
    -- X'F0' to X'FF'
    Illegal ∷ Illegal ∷ Illegal ∷ LongImmediate Test ∷
    LongImmediate And ∷ LongImmediate CompareLogical ∷ LongImmediate Or ∷ LongImmediate ExclusiveOr ∷
    LongImmediate Load ∷ LongImmediate Compare ∷ LongImmediate Add ∷ LongImmediate Subtract ∷
    Illegal ∷ Illegal ∷ Illegal ∷ Illegal ∷
    []

-- The n numbers from k on.
abbrev pub numbers : ℕ → ℕ → List ℕ
numbers zero k = []
numbers (suc n) k = k ∷ numbers n (k + 1)

-- The operations of the codes 0 to 255, in their order, are the table.
abbrev pub TableHolds : Type 0
TableHolds = map operation_of (numbers 256 0) ≡ table

abbrev pub is_legal : Operation → Bool
is_legal (Register o) = true
is_legal (Short o) = true
is_legal (Memory o) = true
is_legal (Immediate o) = true
is_legal (LongImmediate f) = true
is_legal Illegal = false

abbrev pub count_of : List Bool → ℕ
count_of [] = 0
count_of (b ∷ bs) = cond b 1 0 + count_of bs

-- 102 codes are legal, and 11 of them are privileged.
abbrev pub CountsHold : Type 0
CountsHold =
    (count_of (map is_legal table) ≡ 102)
    × (count_of (map is_privileged (numbers 256 0)) ≡ 11)
    × (count_of (map (λ c. is_privileged c && is_legal (operation_of c)) (numbers 256 0)) ≡ 11)
