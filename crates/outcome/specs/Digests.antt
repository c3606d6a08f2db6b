-- The 64-bit FNV-1a digest of the bytes of halfwords, the high byte of each first.
use Rattle.std.specs.Prelude.{ℕ, ◌*◌, ◌/◌, ◌%◌, ◌^◌, List, bit_xor}
use Rattle.std.specs.List.{fold}

-- The digest of nothing.
abbrev pub start : ℕ
start = 14695981039346656037

-- A digest with one more byte taken in.
abbrev pub taken : ℕ → ℕ → ℕ
taken digest byte = bit_xor digest byte * 1099511628211 % 2 ^ 64

-- A digest with one more halfword taken in.
abbrev pub taken_word : ℕ → ℕ → ℕ
taken_word digest word = taken (taken digest (word / 256)) (word % 256)

-- A digest with halfwords taken in, the first of them first.
abbrev pub digest_from : ℕ → List ℕ → ℕ
digest_from = fold taken_word
