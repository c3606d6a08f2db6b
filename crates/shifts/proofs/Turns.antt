use Rattle.std.proofs.Common.{◌≡◌, ℕ, zero, suc, ◌+◌, ◌-◌, ◌*◌, ◌/◌, ◌%◌, ◌^◌, ◌<◌, ◌≤◌, sym, ap, ◌∙◌, ap₂, add_comm, arith}
use lib.Bits.{bit_or, or_self}
use Rattle.std.proofs.lemmas.Nat.{shl-shr, shr_below, shr_high, mod_low, mod-pow-add, or_shifted, or_comm, pow_pos, shr_split}
use Rattle.shifts.specs.Shifts.{rotate_left, rotate_right}
use Rattle.shifts.specs.Laws.{RotatesBack}

-- The low j bits moved up by k places.
moved : (v j k : ℕ) → (v * 2 ^ k) % 2 ^ (j + k) ≡ (v % 2 ^ j) * 2 ^ k
moved v j k =
    let low : (v * 2 ^ k) % 2 ^ k ≡ 0 = grind (arith, mod_low v k 0 (pow_pos k)) in
    mod-pow-add (v * 2 ^ k) j k ∙ ap₂ (λ a b. (a % 2 ^ j) * 2 ^ k + b) (shl-shr v k) low ∙ omega arith

-- A number whose low j bits changed places with its high k bits.
turned : ℕ → ℕ → ℕ → ℕ
turned v j k = (v % 2 ^ j) * 2 ^ k + v / 2 ^ j

turned_back : (v j k : ℕ) → v < 2 ^ (k + j) → turned (turned v j k) k j ≡ v
unfolding turned
turned_back v j k h =
    let b : v / 2 ^ j < 2 ^ k = shr_below v k j h in
    ap₂ (λ x y. x * 2 ^ j + y) (mod_low (v % 2 ^ j) k (v / 2 ^ j) b) (shr_high (v % 2 ^ j) k (v / 2 ^ j) b) ∙ shr_split v j

moved_32 : (v j k : ℕ) → j + k ≡ 32 → (v * 2 ^ k) % 2 ^ 32 ≡ (v % 2 ^ j) * 2 ^ k
moved_32 v j k e = rw e at (moved v j k)

left_turned : (v n : ℕ) → n ≤ 32 → rotate_left v n ≡ turned v (32 - n) n
unfolding rotate_left turned
left_turned v n h = ap (λ a. a + v / 2 ^ (32 - n)) (moved_32 v (32 - n) n (omega arith))

right_turned : (v n : ℕ) → n ≤ 32 → rotate_right v n ≡ turned v n (32 - n)
unfolding rotate_right turned
right_turned v n h = ap (λ a. v / 2 ^ n + a) (moved_32 v n (32 - n) (omega arith)) ∙ add_comm (v / 2 ^ n) ((v % 2 ^ n) * 2 ^ (32 - n))

-- The two parts of a rotated number have no bit in common.
parts_turned : (v j k : ℕ) → j + k ≡ 32 → v < 2 ^ 32 → bit_or ((v * 2 ^ k) % 2 ^ 32) (v / 2 ^ j) ≡ turned v j k
unfolding turned
parts_turned v j k e h =
    let e' : k + j ≡ 32 = omega arith in
    let h' : v < 2 ^ (k + j) = rw e' h in
    ap (λ a. bit_or a (v / 2 ^ j)) (moved_32 v j k e) ∙ or_shifted (v % 2 ^ j) k (v / 2 ^ j) (shr_below v k j h')

pub left_by_parts : (v n : ℕ) → v < 2 ^ 32 → n < 32 → bit_or ((v * 2 ^ n) % 2 ^ 32) (v / 2 ^ ((32 - n) % 32)) ≡ rotate_left v n
unfolding rotate_left
left_by_parts v zero h l =
    let a : (v * 1) % 2 ^ 32 ≡ v = omega arith in
    let b : v / 1 ≡ v = omega arith in
    let t : v ≡ (v * 1) % 2 ^ 32 + v / 2 ^ 32 = omega arith in
    ap₂ bit_or a b ∙ or_self v ∙ t
left_by_parts v (suc n) h l =
    let m : (32 - suc n) % 32 ≡ 32 - suc n = omega arith in
    rw m (parts_turned v (32 - suc n) (suc n) (omega arith) h ∙ sym (left_turned v (suc n) (omega arith)))

pub right_by_parts : (v n : ℕ) → v < 2 ^ 32 → n < 32 → bit_or (v / 2 ^ n) ((v * 2 ^ ((32 - n) % 32)) % 2 ^ 32) ≡ rotate_right v n
unfolding rotate_right
right_by_parts v zero h l =
    let a : v / 1 ≡ v = omega arith in
    let b : (v * 1) % 2 ^ 32 ≡ v = omega arith in
    let t : v ≡ v / 1 + (v * 2 ^ 32) % 2 ^ 32 = omega arith in
    ap₂ bit_or a b ∙ or_self v ∙ t
right_by_parts v (suc n) h l =
    let m : (32 - suc n) % 32 ≡ 32 - suc n = omega arith in
    rw m (or_comm (v / 2 ^ suc n) ((v * 2 ^ (32 - suc n)) % 2 ^ 32) ∙ parts_turned v (suc n) (32 - suc n) (omega arith) h ∙ sym (right_turned v (suc n) (omega arith)))

pub rotates_back_lem : RotatesBack
rotates_back_lem = (
  λ v n h l.
      let e : n + (32 - n) ≡ 32 = omega arith in
      let h' : v < 2 ^ (n + (32 - n)) = rw e h in
      right_turned (rotate_left v n) n (omega arith) ∙ ap (λ x. turned x n (32 - n)) (left_turned v n (omega arith)) ∙ turned_back v (32 - n) n h',
  λ v n h l.
      let e : 32 - n + n ≡ 32 = omega arith in
      let h' : v < 2 ^ (32 - n + n) = rw e h in
      left_turned (rotate_right v n) n (omega arith) ∙ ap (λ x. turned x (32 - n) n) (right_turned v n (omega arith)) ∙ turned_back v n (32 - n) h',
)
