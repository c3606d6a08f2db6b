-- The letter of a tape's fault as the tests write it.
use Rattle.std.specs.Prelude.{ℕ, Option, Some, None}

-- The letter, and 256 for none.
abbrev pub letter_number : Option ℕ → ℕ
letter_number (Some letter) = letter
letter_number None = 256
