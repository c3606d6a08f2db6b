-- What a write makes of the old halfword.
use Rattle.std.specs.Prelude.{ℕ, Bool}
use Rattle.fields.specs.Parts.{with_byte}

-- A halfword is written: the old one is gone.
unfoldable pub put : ℕ → ℕ → ℕ
put new old = new

-- A byte is written: the other one stays.
unfoldable pub put_byte : Bool → ℕ → ℕ → ℕ
put_byte odd byte old = with_byte odd old byte
