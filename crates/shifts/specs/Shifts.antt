use Rattle.std.specs.Prelude.{ℕ, ◌+◌, ◌-◌, ◌*◌, ◌/◌, ◌%◌, ◌^◌, cond, ◌==◌}
use Rattle.std.specs.Int.Signed.{shr_z}
use Rattle.std.proofs.Common.{of_z}
use Rattle.std.specs.Int.{w32}
use Rattle.words.specs.Sums.{full, marks}
use Rattle.shifts.specs.declared.Shift.{Shift}
use Rattle.shifts.specs.declared.Shift.TheVariants.{Right, Left, RightArithmetic, LeftArithmetic, RotateRight, RotateLeft}

-- Shifts and rotates of a fullword v by n places, n from 0 to 31.

-- Logical shifts: zeros come in.
unfoldable pub shift_right : ℕ → ℕ → ℕ
shift_right v n = v / 2 ^ n

unfoldable pub shift_left : ℕ → ℕ → ℕ
shift_left v n = (v * 2 ^ n) % 2 ^ 32

-- Arithmetic shifts keep the sign, bit 0. To the right copies of it come in: the signed number divided, rounded down.
unfoldable pub shift_right_arithmetic : ℕ → ℕ → ℕ
shift_right_arithmetic v n = of_z w32 (shr_z (full v) (2 ^ n))

-- To the left the 31 bits below the sign shift, and zeros come in.
unfoldable pub shift_left_arithmetic : ℕ → ℕ → ℕ
shift_left_arithmetic v n = v / 2 ^ 31 * 2 ^ 31 + (v * 2 ^ n) % 2 ^ 31

-- Rotates: what goes out at one end comes in at the other.
unfoldable pub rotate_right : ℕ → ℕ → ℕ
rotate_right v n = v / 2 ^ n + (v * 2 ^ (32 - n)) % 2 ^ 32

unfoldable pub rotate_left : ℕ → ℕ → ℕ
rotate_left v n = (v * 2 ^ n) % 2 ^ 32 + v / 2 ^ (32 - n)

-- The bit of v that has the weight 2^k.
abbrev pub bit : ℕ → ℕ → ℕ
bit v k = v / 2 ^ k % 2

-- The last bit out at the right; 0 where nothing goes out.
unfoldable pub out_right : ℕ → ℕ → ℕ
out_right v n = cond (n == 0) 0 (bit v (n - 1))

-- The last bit out at the left of the low `size` bits; 0 where nothing goes out.
unfoldable pub out_left : ℕ → ℕ → ℕ → ℕ
out_left size v n = cond (n == 0) 0 (bit v (size - n))

-- The condition codes: C (8) is the last bit out, none for a rotate; G and L are those of the result.
unfoldable pub shift_right_code : ℕ → ℕ → ℕ
shift_right_code v n = 8 * out_right v n + marks (shift_right v n)

unfoldable pub shift_left_code : ℕ → ℕ → ℕ
shift_left_code v n = 8 * out_left 32 v n + marks (shift_left v n)

unfoldable pub shift_right_arithmetic_code : ℕ → ℕ → ℕ
shift_right_arithmetic_code v n = 8 * out_right v n + marks (shift_right_arithmetic v n)

unfoldable pub shift_left_arithmetic_code : ℕ → ℕ → ℕ
shift_left_arithmetic_code v n = 8 * out_left 31 v n + marks (shift_left_arithmetic v n)

unfoldable pub rotate_right_code : ℕ → ℕ → ℕ
rotate_right_code v n = marks (rotate_right v n)

unfoldable pub rotate_left_code : ℕ → ℕ → ℕ
rotate_left_code v n = marks (rotate_left v n)

-- What each shift leaves of v, and the condition code that it sets.
abbrev pub shifted : Shift → ℕ → ℕ → ℕ
shifted Right = shift_right
shifted Left = shift_left
shifted RightArithmetic = shift_right_arithmetic
shifted LeftArithmetic = shift_left_arithmetic
shifted RotateRight = rotate_right
shifted RotateLeft = rotate_left

abbrev pub shifted_code : Shift → ℕ → ℕ → ℕ
shifted_code Right = shift_right_code
shifted_code Left = shift_left_code
shifted_code RightArithmetic = shift_right_arithmetic_code
shifted_code LeftArithmetic = shift_left_arithmetic_code
shifted_code RotateRight = rotate_right_code
shifted_code RotateLeft = rotate_left_code
