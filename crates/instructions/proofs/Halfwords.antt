-- The halfwords that were fetched are the parts of the instruction.
use Rattle.std.specs.Prelude.{◌≡◌, ℕ, Bool, true, false, cond, ltb, List, [], ◌∷◌}
use mathlib.Core.Path.{refl, sym, ◌∙◌}
use Rattle.decode.specs.declared.operations.Form.TheVariants.{Indexed}
use Rattle.decode.specs.Forms.{is_long, size_at, Taken}

first_part : (b : Bool) (h : ℕ) → cond (ltb 0 (cond b 3 2)) h 0 ≡ h
first_part true h = refl
first_part false h = refl

second_part : (b : Bool) (w : ℕ) → cond (ltb 1 (cond b 3 2)) w 0 ≡ w
second_part true w = refl
second_part false w = refl

-- A third halfword that is not there counts 0.
third_part : (b : Bool) (x : ℕ) → (b ≡ false → x ≡ 0) → cond (ltb 2 (cond b 3 2)) x 0 ≡ x
third_part true x e = refl
third_part false x e = sym (e refl)

pub indexed_parts :
    (h w x : ℕ) {f s t : ℕ} {rest : List ℕ} →
    (is_long w ≡ false → x ≡ 0) →
    Taken (size_at Indexed (h ∷ w ∷ x ∷ [])) (h ∷ w ∷ x ∷ []) f s t rest →
    (f ≡ h) × (s ≡ w) × (t ≡ x)
indexed_parts h w x e p =
    (p.one ∙ first_part (is_long w) h, p.two ∙ second_part (is_long w) w, p.three ∙ third_part (is_long w) x e)
