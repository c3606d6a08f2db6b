-- One more digit of a number.
use Rattle.std.proofs.Common.{◌≡◌, ℕ, suc, ◌/◌, ◌%◌, ◌^◌, List, [], ◌∷◌, ◌++◌, sym, ap, ◌∙◌, append_assoc}
use Rattle.session.specs.Lines.{hex_digit, digits}

-- the digit goes from those that are left to the text
pub digit_more :
    (text more : List ℕ) (left k v d : ℕ) → left ≡ suc k → d ≡ hex_digit (v / 16 ^ k % 16) → more ≡ text ++ (d ∷ []) →
    more ++ digits k v ≡ text ++ digits left v
digit_more text more left k v d s h t =
    ap (λ (l : List ℕ). l ++ digits k v) t
    ∙ append_assoc text (d ∷ []) (digits k v)
    ∙ ap (λ (x : ℕ). text ++ (x ∷ digits k v)) h
    ∙ ap (λ (n : ℕ). text ++ digits n v) (sym s)
