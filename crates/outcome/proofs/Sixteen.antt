-- Four bits are a hexadecimal digit, and a number of 64 bits has sixteen.
use Rattle.std.proofs.Common.{◌≡◌, ℕ, zero, suc, ◌+◌, ◌*◌, ◌/◌, ◌^◌, ◌<◌, ◌≤◌, sym, refl, ap, ◌∙◌, pow-suc, arith, pow-add, lit<}
use Rattle.std.proofs.Math.Nat.{div-eq_of_lt, pow-le-pow_right}

pub two_sixteen : (k : ℕ) → 2 ^ (4 * k) ≡ 16 ^ k
two_sixteen zero = refl
two_sixteen (suc k) =
    let more : 4 * suc k ≡ 4 * k + 4 = omega arith in
    ap (λ (x : ℕ). 2 ^ x) more ∙ pow-add 2 (4 * k) 4 ∙ ap (λ (x : ℕ). x * 16) (two_sixteen k) ∙ sym (pow-suc 16 k)

pub none_left : (n k : ℕ) → n < 2 ^ 64 → 16 ≤ k → n / 16 ^ k ≡ 0
none_left n k h i =
    let positive : 0 < 16 = lit< tt in
    let more : 2 ^ 64 ≤ 16 ^ k = pow-le-pow_right positive i in
    let less : n < 16 ^ k = omega (arith, more, h) in
    div-eq_of_lt less
