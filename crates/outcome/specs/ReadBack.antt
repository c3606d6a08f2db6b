-- What the console reads back of a store.
use Rattle.std.specs.Prelude.{ℕ, ◌+◌, ◌*◌, ◌/◌, ◌%◌, ◌^◌, ◌||◌, cond, map}
use Rattle.std.specs.List.{fold, range_with_len}
use Rattle.model.specs.Stores.{Store, half_at}
use Rattle.model.specs.Console.{strange, is_unfitted}

-- The halfword at a real address, or X'FFFF' where reading it is denied.
abbrev pub read_back : Store → ℕ → ℕ
read_back m a = cond (strange a || is_unfitted (m.kind (a / 2))) 0xFFFF (half_at m a)

-- A digest with one more halfword taken in.
abbrev pub with_word : ℕ → ℕ → ℕ
with_word digest word = (digest * 31 + word) % 2 ^ 32

-- A digest of so many halfwords, the first of them first.
abbrev pub digest_of : Store → ℕ → ℕ
digest_of m count = fold with_word 0 (map (λ place. read_back m (2 * place)) (range_with_len 0 count))

-- A digest of the first 8,192.
unfoldable pub words_digest : Store → ℕ
words_digest m = digest_of m 0x2000
