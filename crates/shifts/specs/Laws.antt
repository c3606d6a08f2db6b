use Rattle.std.specs.Prelude.{◌≡◌, ℕ, ◌^◌, ◌<◌}
use Rattle.shifts.specs.Shifts.{rotate_left, rotate_right, shift_left, shift_left_code}

-- A rotate by any count, and back, gives the number again.
abbrev pub RotatesBack : Type 0
RotatesBack =
    ((v n : ℕ) → v < 2 ^ 32 → n < 32 → rotate_right (rotate_left v n) n ≡ v)
    × ((v n : ℕ) → v < 2 ^ 32 → n < 32 → rotate_left (rotate_right v n) n ≡ v)

-- X'80000001' shifted left by one place is 2, with C and G.
abbrev pub ShiftExample : Type 0
ShiftExample = (shift_left 0x8000_0001 1 ≡ 2) × (shift_left_code 0x8000_0001 1 ≡ 0xA)
