-- The operation codes.
use Rattle.std.specs.Prelude.{ℕ, ◌%◌, Bool, true, false, cond, ◌&&◌, ◌==◌, nat_le}
use Rattle.decode.specs.declared.operations.Function.{Function}
use Rattle.decode.specs.declared.operations.Function.TheVariants.{And, CompareLogical, Or, ExclusiveOr, Load, Compare, Add, Subtract, Test}
use Rattle.decode.specs.declared.operations.RegisterOp.TheVariants.{Balr, Btcr, Bfcr, WithRegister, Lpswr, Mr, Dr, Exhr, Stbr, Lbr, Exbr, Epsr, Wdr, Rdr, Ssr, Ocr}
use Rattle.decode.specs.declared.operations.ShortOp.TheVariants.{Srls, Slls, Btbs, Btfs, Bfbs, Bffs, Lis, Lcs, Ais, Sis}
use Rattle.decode.specs.declared.operations.MemoryOp.TheVariants.{Sth, Bal, Btc, Bfc, WithHalf, St, Am, WithFull, M, D, Ahm, Lhl, Tbt, Sbt, Rbt, Cbt, Bxh, Bxle, Lpsw, Stm, Lm, Stb, Lb, Clb, Wd, Rd, Ss, Oc, Ts, Svc, La}
use Rattle.decode.specs.declared.operations.ImmediateOp.TheVariants.{WithImmediate, Rrl, Rll, Srl, Sll, Sra, Sla}
use Rattle.decode.specs.declared.operations.Operation.{Operation}
use Rattle.decode.specs.declared.operations.Operation.TheVariants.{Register, Short, Memory, Immediate, LongImmediate, Illegal}

-- What the second digit stands for, where the first is 0 (RR), 4 (RX with a halfword), 5 (RX with a fullword), C (RI1) or F (RI2).
-- Test is there at C and F only.
unfoldable pub function_of : ℕ → Function
function_of d =
    cond (d == 4) And
    (cond (d == 5) CompareLogical
    (cond (d == 6) Or
    (cond (d == 7) ExclusiveOr
    (cond (d == 8) Load
    (cond (d == 9) Compare
    (cond (d == 10) Add
    (cond (d == 11) Subtract
    Test)))))))

-- The codes X'00' to X'3F' outside the families.
unfoldable pub low : ℕ → Operation
low c =
    cond (c == 0x01) (Register Balr)
    (cond (c == 0x02) (Register Btcr)
    (cond (c == 0x03) (Register Bfcr)
    (cond (c == 0x10) (Short Srls)
    (cond (c == 0x11) (Short Slls)
    (cond (c == 0x18) (Register Lpswr)
    (cond (c == 0x1c) (Register Mr)
    (cond (c == 0x1d) (Register Dr)
    (cond (c == 0x20) (Short Btbs)
    (cond (c == 0x21) (Short Btfs)
    (cond (c == 0x22) (Short Bfbs)
    (cond (c == 0x23) (Short Bffs)
    (cond (c == 0x24) (Short Lis)
    (cond (c == 0x25) (Short Lcs)
    (cond (c == 0x26) (Short Ais)
    (cond (c == 0x27) (Short Sis)
    (cond (c == 0x34) (Register Exhr)
    Illegal))))))))))))))))

-- The codes X'40' to X'7F' outside the families.
unfoldable pub middle : ℕ → Operation
middle c =
    cond (c == 0x40) (Memory Sth)
    (cond (c == 0x41) (Memory Bal)
    (cond (c == 0x42) (Memory Btc)
    (cond (c == 0x43) (Memory Bfc)
    (cond (c == 0x50) (Memory St)
    (cond (c == 0x51) (Memory Am)
    (cond (c == 0x5c) (Memory M)
    (cond (c == 0x5d) (Memory D)
    (cond (c == 0x61) (Memory Ahm)
    (cond (c == 0x73) (Memory Lhl)
    (cond (c == 0x74) (Memory Tbt)
    (cond (c == 0x75) (Memory Sbt)
    (cond (c == 0x76) (Memory Rbt)
    (cond (c == 0x77) (Memory Cbt)
    Illegal)))))))))))))

-- The codes X'80' to X'BF'.
unfoldable pub upper : ℕ → Operation
upper c =
    cond (c == 0x92) (Register Stbr)
    (cond (c == 0x93) (Register Lbr)
    (cond (c == 0x94) (Register Exbr)
    (cond (c == 0x95) (Register Epsr)
    (cond (c == 0x9a) (Register Wdr)
    (cond (c == 0x9b) (Register Rdr)
    (cond (c == 0x9d) (Register Ssr)
    (cond (c == 0x9e) (Register Ocr)
    Illegal)))))))

-- The codes X'C0' to X'FF' outside the families.
unfoldable pub high : ℕ → Operation
high c =
    cond (c == 0xc0) (Memory Bxh)
    (cond (c == 0xc1) (Memory Bxle)
    (cond (c == 0xc2) (Memory Lpsw)
    (cond (c == 0xd0) (Memory Stm)
    (cond (c == 0xd1) (Memory Lm)
    (cond (c == 0xd2) (Memory Stb)
    (cond (c == 0xd3) (Memory Lb)
    (cond (c == 0xd4) (Memory Clb)
    (cond (c == 0xda) (Memory Wd)
    (cond (c == 0xdb) (Memory Rd)
    (cond (c == 0xdd) (Memory Ss)
    (cond (c == 0xde) (Memory Oc)
    (cond (c == 0xe0) (Memory Ts)
    (cond (c == 0xe1) (Memory Svc)
    (cond (c == 0xe6) (Memory La)
    (cond (c == 0xea) (Immediate Rrl)
    (cond (c == 0xeb) (Immediate Rll)
    (cond (c == 0xec) (Immediate Srl)
    (cond (c == 0xed) (Immediate Sll)
    (cond (c == 0xee) (Immediate Sra)
    (cond (c == 0xef) (Immediate Sla)
    Illegal))))))))))))))))))))

abbrev pub between : ℕ → ℕ → ℕ → Bool
between a b c = nat_le a c && nat_le c b

-- What a code stands for: the families, and the others by their first digit.
abbrev pub operation_of : ℕ → Operation
operation_of c =
    cond (between 0x04 0x0b c) (Register (WithRegister (function_of (c % 16))))
    (cond (between 0x44 0x4b c) (Memory (WithHalf (function_of (c % 16))))
    (cond (between 0x54 0x5b c) (Memory (WithFull (function_of (c % 16))))
    (cond (between 0xc3 0xcb c) (Immediate (WithImmediate (function_of (c % 16))))
    (cond (between 0xf3 0xfb c) (LongImmediate (function_of (c % 16)))
    (cond (between 0x00 0x3f c) (low c)
    (cond (between 0x40 0x7f c) (middle c)
    (cond (between 0x80 0xbf c) (upper c)
    (high c))))))))

-- The privileged codes: LPSWR, EPSR, WDR, RDR, SSR, OCR, LPSW, WD, RD, SS and OC.
unfoldable pub is_privileged : ℕ → Bool
is_privileged c =
    cond (c == 0x18) true
    (cond (c == 0x95) true
    (cond (c == 0x9a) true
    (cond (c == 0x9b) true
    (cond (c == 0x9d) true
    (cond (c == 0x9e) true
    (cond (c == 0xc2) true
    (cond (c == 0xda) true
    (cond (c == 0xdb) true
    (cond (c == 0xdd) true
    (cond (c == 0xde) true
    false))))))))))

-- What a code stands for with protection on or off: a privileged one is illegal under protection.
unfoldable pub permitted : Bool → ℕ → Operation
permitted protected c = cond (protected && is_privileged c) Illegal (operation_of c)
