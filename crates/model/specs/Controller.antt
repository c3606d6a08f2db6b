-- The access controller: segmentation registers, the checks of an access, and the registers as a program reaches them.
use Rattle.std.specs.Prelude.{ℕ, ◌+◌, ◌*◌, ◌/◌, ◌%◌, ◌^◌, Bool, true, false, cond, List, Ok, Err, Result, ◌==◌, nat_le, nat_lt, bit_or, slice_index, slice_set}
use Rattle.model.specs.declared.Access.{Access}
use Rattle.model.specs.declared.Access.TheVariants.{Fetch, Read, Write}
use Rattle.model.specs.declared.Grant.{Grant}
use Rattle.model.specs.declared.Grant.TheVariants.{Plain, Reported}
use Rattle.model.specs.declared.Violation.{Violation}
use Rattle.model.specs.declared.Violation.TheVariants.{Limit, Absent, NoExecute, WriteProtected}
use Rattle.model.specs.Status.{bit}

-- ── A segmentation register ──
-- Bits 4:11 are the limit, 12:23 the relocation, 24 is E, 25:26 are W, 27 is P; the others are always zero.
unfoldable pub limit_of : ℕ → ℕ
limit_of g = g / 2 ^ 20 % 2 ^ 8

unfoldable pub relocation_of : ℕ → ℕ
relocation_of g = g / 2 ^ 8 % 2 ^ 12

unfoldable pub no_execute_of : ℕ → Bool
no_execute_of g = bit 24 g

unfoldable pub write_mode_of : ℕ → ℕ
write_mode_of g = g / 2 ^ 5 % 4

unfoldable pub present_of : ℕ → Bool
present_of g = bit 27 g

-- The bits 4:27 of a word, the others zero.
unfoldable pub used : ℕ → ℕ
used g = g / 2 ^ 4 % 2 ^ 24 * 2 ^ 4

-- ── A program address, relocation on ──
-- Bits 0:3 choose a register, 4:11 are the block number, 12:19 the displacement.
unfoldable pub chosen : List ℕ → ℕ → ℕ
chosen segments a = slice_index segments (a / 2 ^ 16 % 16)

unfoldable pub block : ℕ → ℕ
block a = a / 2 ^ 8 % 2 ^ 8

-- The block number is within the limit; P is set; E is set; W.
unfoldable pub within : List ℕ → ℕ → Bool
within segments a = nat_le (block a) (limit_of (chosen segments a))

unfoldable pub present : List ℕ → ℕ → Bool
present segments a = present_of (chosen segments a)

unfoldable pub no_execute : List ℕ → ℕ → Bool
no_execute segments a = no_execute_of (chosen segments a)

unfoldable pub write_mode : List ℕ → ℕ → ℕ
write_mode segments a = write_mode_of (chosen segments a)

-- The real address: the real block is relocation plus block number modulo 4096.
unfoldable pub real : List ℕ → ℕ → ℕ
real segments a = (relocation_of (chosen segments a) + block a) % 2 ^ 12 * 2 ^ 8 + a % 2 ^ 8

-- The place that a program address reaches.
unfoldable pub place : List ℕ → ℕ → ℕ
place segments a = real segments a / 2

-- ── The checks ──
-- Interrupt status bits 27 to 31.
abbrev pub limit_fault : ℕ
limit_fault = 16

abbrev pub absent_fault : ℕ
absent_fault = 8

abbrev pub write_fault : ℕ
write_fault = 4

abbrev pub write_report : ℕ
write_report = 2

abbrev pub execute_fault : ℕ
execute_fault = 1

-- The bit that a violation sets.
abbrev pub fault_bit : Violation → ℕ
fault_bit Limit = limit_fault
fault_bit Absent = absent_fault
fault_bit NoExecute = execute_fault
fault_bit WriteProtected = write_fault

-- What the controller says of an access: how it is let through, or why it is not.
abbrev pub Verdict : Type 0
Verdict = Result Grant Violation

-- The interrupt status after a verdict.
abbrev pub faults_noted : Verdict → ℕ → ℕ
faults_noted (Ok g) faults = faults
faults_noted (Err v) faults = bit_or faults (fault_bit v)

-- W 01 and 11 refuse a write, 10 lets it through and reports it, 00 lets it through.
abbrev pub lets_write : ℕ → Bool
lets_write w = cond (w % 2 == 1) false true

abbrev pub on_write : ℕ → Verdict
on_write w = cond (w % 2 == 1) (Err WriteProtected) (cond (w == 2) (Ok Reported) (Ok Plain))

-- The first check that fails decides: the block within the limit, P, E for a fetch, W for a write.
abbrev pub judged : Access → Bool → Bool → Bool → ℕ → Verdict
judged u false p e w = Err Limit
judged u true false e w = Err Absent
judged Fetch true true true w = Err NoExecute
judged Fetch true true false w = Ok Plain
judged Read true true e w = Ok Plain
judged Write true true e w = on_write w

abbrev pub verdict : Access → List ℕ → ℕ → Verdict
verdict u segments a = judged u (within segments a) (present segments a) (no_execute segments a) (write_mode segments a)

-- ── The controller's own addresses, relocation off ──
-- X'300' to X'3FF'.
unfoldable pub is_controller : ℕ → Bool
is_controller r = r / 2 ^ 8 == 3

-- X'300' to X'33F' are the segmentation registers, four bytes each; which one, and which of its halves (0 is the high one).
unfoldable pub is_segment : ℕ → Bool
is_segment r = nat_lt (r % 2 ^ 8) 0x40

abbrev pub segment_at : ℕ → ℕ
segment_at r = r / 4 % 16

-- X'340' to X'343' are the interrupt status.
unfoldable pub is_faults : ℕ → Bool
is_faults r = r % 2 ^ 8 / 4 == 0x10

-- X'342' and X'343': a read there clears the interrupt status.
unfoldable pub clears_faults : ℕ → Bool
clears_faults r = r % 2 ^ 8 / 2 == 0x21

-- The half of a 32-bit word at an address, and the word with that half replaced.
unfoldable pub half_of : ℕ → ℕ → ℕ
half_of r w = cond (r / 2 % 2 == 0) (w / 2 ^ 16) (w % 2 ^ 16)

unfoldable pub with_half : ℕ → ℕ → ℕ → ℕ
with_half r h w = cond (r / 2 % 2 == 0) (h * 2 ^ 16 + w % 2 ^ 16) (w / 2 ^ 16 * 2 ^ 16 + h)

-- What the controller shows at r: a half of a register, of the interrupt status, or 0.
unfoldable pub controller_half : List ℕ → ℕ → ℕ → ℕ
controller_half segments faults r =
    cond (is_segment r) (half_of r (slice_index segments (segment_at r))) (cond (is_faults r) (half_of r faults) 0)

-- The segmentation registers after the half h was written at r: the unused bits are forced to zero.
unfoldable pub segments_after : List ℕ → ℕ → ℕ → List ℕ
segments_after segments r h =
    cond (is_segment r) (slice_set segments (segment_at r) (used (with_half r h (slice_index segments (segment_at r))))) segments

-- The interrupt status after a read at r; a write there does nothing to it.
unfoldable pub faults_after_read : ℕ → ℕ → ℕ
faults_after_read faults r = cond (clears_faults r) 0 faults
