-- The bits of the status word, the register sets that it selects, and the Location Counter.
use Rattle.std.specs.Prelude.{ℕ, ◌+◌, ◌-◌, ◌*◌, ◌/◌, ◌%◌, ◌^◌, Bool, cond, not, ◌||◌, ◌==◌}

-- Bit n of a 32-bit word; bit 0 is the leftmost.
abbrev pub bit : ℕ → ℕ → Bool
bit n w = w / 2 ^ (31 - n) % 2 == 1

-- Bit 16: the processor waits.
unfoldable pub waits : ℕ → Bool
waits status = bit 16 status

-- Bit 17: device requests are taken.
unfoldable pub polls : ℕ → Bool
polls status = bit 17 status

-- Bit 19: arithmetic faults interrupt.
unfoldable pub arithmetic_on : ℕ → Bool
arithmetic_on status = bit 19 status

-- Bit 21: addresses go through the segmentation registers.
unfoldable pub relocated : ℕ → Bool
relocated status = bit 21 status

-- Bit 23: privileged codes are illegal.
unfoldable pub protected : ℕ → Bool
protected status = bit 23 status

-- Bits 28:31, the condition code; all others; and the status with another condition code.
abbrev pub code_of : ℕ → ℕ
code_of status = status % 16

unfoldable pub upper : ℕ → ℕ
upper status = status / 16

unfoldable pub recoded : ℕ → ℕ → ℕ
recoded status c = status / 16 * 16 + c % 16

-- ── Register sets ──
-- Set 0 stands first in the register file, set 15 behind it.
abbrev pub register_count : ℕ
register_count = 32

-- There are the sets 0 and 15.
unfoldable pub no_set : ℕ → Bool
no_set k = not (k == 0 || k == 15)

-- Which set of the file has the number k.
unfoldable pub file_of : ℕ → ℕ
file_of k = cond (k == 0) 0 1

-- Bits 24:27 select: 0 is set 0, all else is set 15.
unfoldable pub selected : ℕ → ℕ
selected status = cond (status / 16 % 16 == 0) 0 1

-- Where register n of the f-th set of the file stands; register numbers wrap at 16.
unfoldable pub slot : ℕ → ℕ → ℕ
slot f n = f * 16 + n % 16

-- ── Location Counter ──
-- The Location Counter that a loaded number stands for: its low 20 bits, the last cleared.
unfoldable pub counter : ℕ → ℕ
counter v = v % 2 ^ 20 / 2 * 2

-- A program address: the low 20 bits.
unfoldable pub address : ℕ → ℕ
address a = a % 2 ^ 20

-- A halfword's address drops the last bit, a fullword's two, a PSW's three.
unfoldable pub to_half : ℕ → ℕ
to_half a = a / 2 * 2

unfoldable pub to_full : ℕ → ℕ
to_full a = a / 4 * 4

unfoldable pub to_psw : ℕ → ℕ
to_psw a = a / 8 * 8
