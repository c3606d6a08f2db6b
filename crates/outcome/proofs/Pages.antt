-- The page of an input, from what its tape leaves.
use Rattle.std.proofs.Common.{◌≡◌, ℕ, min, List, length, take, ap, ◌∙◌, arith}
use Rattle.std.proofs.lemmas.List.{take_min}
use Rattle.session.specs.Sessions.{tape_bytes}
use Rattle.session.proofs.Inputs.{bytes_named}

first_bytes : (n k : ℕ) (input : List ℕ) → k ≡ min (length input) n → take k input ≡ take n input
first_bytes n k input e = let order : k ≡ min n (length input) = omega arith in ap (λ (j : ℕ). take j input) order ∙ take_min n input

-- the tape is the first bytes of the input
pub tape_of : (k : ℕ) (input : List ℕ) → k ≡ min (length input) 65_536 → take k input ≡ take tape_bytes input
tape_of k input e = first_bytes 65_536 k input e ∙ ap (λ (n : ℕ). take n input) bytes_named
