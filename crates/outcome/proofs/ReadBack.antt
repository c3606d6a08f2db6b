-- The digest of what the console reads back, halfword by halfword.
use Rattle.std.proofs.Common.{◌≡◌, ℕ, ◌+◌, ◌*◌, ◌%◌, ◌^◌, [], ◌∷◌, map, sym, ap, ap₂, ◌∙◌, arith}
use Rattle.std.specs.List.{fold, range_with_len}
use Rattle.std.proofs.lemmas.List.Sums.{fold-append}
use Rattle.std.proofs.lemmas.List.FromFn.{map-range_with_len_more}
use Rattle.model.specs.Stores.{Store}
use Rattle.outcome.specs.ReadBack.{read_back, with_word, digest_of, words_digest}

wrapped : (digest word : ℕ) → (digest * 31 % 2 ^ 32 + word) % 2 ^ 32 ≡ with_word digest word
wrapped digest word = omega arith

pub digest_more :
    (m : Store) (k digest word : ℕ) → digest ≡ digest_of m k → word ≡ read_back m (2 * k) →
    (digest * 31 % 2 ^ 32 + word) % 2 ^ 32 ≡ digest_of m (k + 1)
digest_more m k digest word so_far here =
    let f : ℕ → ℕ = λ place. read_back m (2 * place) in
    let from_first : 0 + k ≡ k = omega arith in
    wrapped digest word
    ∙ ap₂ with_word so_far here
    ∙ sym (fold-append with_word 0 (map f (range_with_len 0 k)) (f k ∷ []))
    ∙ ap (fold with_word 0) (sym (map-range_with_len_more f 0 k k from_first))

pub digest_whole : (m : Store) (k digest : ℕ) → k ≡ 0x2000 → digest ≡ digest_of m k → digest ≡ words_digest m
unfolding words_digest
digest_whole m k digest all so_far = so_far ∙ ap (digest_of m) all
