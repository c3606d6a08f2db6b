-- The line that a played tape leaves: the Location Counter in 5 hexadecimal digits, a space, the status in 8, a newline.
use Rattle.std.specs.Prelude.{ℕ, zero, suc, ◌+◌, ◌/◌, ◌%◌, ◌^◌, cond, List, [], ◌∷◌, ◌++◌, nat_lt}

-- The character of a hexadecimal digit: 0 to 9, A to F.
unfoldable pub hex_digit : ℕ → ℕ
hex_digit d = cond (nat_lt d 10) (48 + d) (55 + d)

-- The last n digits of a number, the first of them first.
abbrev pub digits : ℕ → ℕ → List ℕ
digits zero v = []
digits (suc n) v = hex_digit (v / 16 ^ n % 16) ∷ digits n v

unfoldable pub line_of : ℕ → ℕ → List ℕ
line_of location status = digits 5 location ++ 32 ∷ (digits 8 status ++ 10 ∷ [])
