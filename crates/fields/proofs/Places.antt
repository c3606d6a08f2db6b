use Rattle.std.proofs.Common.{◌≡◌, ℕ, ◌+◌, ◌-◌, ◌*◌, ◌/◌, ◌%◌, ◌^◌, ◌<◌, max, sym, ap, ◌∙◌, ⊎_elim, arith, rules}
use lib.Bits.{bit_and, bit_or, bit_xor}
use Rattle.std.specs.Int.{bit_at}
use Rattle.std.proofs.lemmas.Nat.{and_comm, and-not, or_disjoint, or_shifted, pow_below}
use Rattle.std.proofs.lemmas.Nat.Bits.{and_pow, bit_at_or, bit_at_xor, bit_at-pow_same, bit_at-pow_other, bit_at-lt, same_from_bits}
use Rattle.std.proofs.lemmas.Bool.{cases_eq}
use Rattle.fields.specs.Bits.{bit_weight, bit_of, with_bit, without_bit, with_bit_flipped}
use Rattle.fields.specs.Parts.{halves_exchanged}
use Rattle.fields.specs.Laws.{BitsWritten, BitsKept}

-- Bit k of h by an or,
or_0 : (k h : ℕ) → bit_at h k ≡ 0 → bit_or h (2 ^ k) ≡ h + 2 ^ k
or_0 k h b = or_disjoint h (2 ^ k) (and_pow h k ∙ (ap (λ x. x * 2 ^ k) b ∙ omega arith))

or_1 : (k h : ℕ) → (bit_at h k ≡ 0 → ⊥) → bit_or h (2 ^ k) ≡ h
or_1 k h b =
    same_from_bits (bit_or h (2 ^ k)) h (λ i.
    bit_at_or h (2 ^ k) i
    ∙ ⊎_elim
    (λ (e : i ≡ k). rw e (omega (arith, bit_at-pow_same k, bit_at-lt h k)))
    (λ (e : i ≡ k → ⊥). omega (arith, bit_at-pow_other k i e))
    (cases_eq i k))

-- by an and,
and_bit : (k h : ℕ) → k < 16 → h < 2 ^ 16 → bit_and h (2 ^ 16 - 1 - 2 ^ k) ≡ h - bit_at h k * 2 ^ k
and_bit k h s l =
    let a : bit_and (2 ^ 16 - 1 - 2 ^ k) h + bit_and (2 ^ k) h ≡ h = and-not 16 (2 ^ k) h (pow_below k 16 s) l in
    let b : bit_and (2 ^ k) h ≡ bit_at h k * 2 ^ k = and_comm (2 ^ k) h ∙ and_pow h k in
    and_comm h (2 ^ 16 - 1 - 2 ^ k) ∙ omega (arith, a, b)

-- and by an exclusive or.
xor_0 : (k h : ℕ) → bit_at h k ≡ 0 → bit_xor h (2 ^ k) ≡ h + 2 ^ k
xor_0 k h b =
    same_from_bits (bit_xor h (2 ^ k)) (bit_or h (2 ^ k)) (λ i.
    bit_at_xor h (2 ^ k) i
    ∙ (⊎_elim
    (λ (e : i ≡ k). rw e (omega (arith, bit_at-pow_same k, b)))
    (λ (e : i ≡ k → ⊥). omega (arith, bit_at-pow_other k i e, bit_at-lt h i))
    (cases_eq i k)
    ∙ sym (bit_at_or h (2 ^ k) i)))
    ∙ or_0 k h b

xor_1 : (k h : ℕ) → (bit_at h k ≡ 0 → ⊥) → bit_xor h (2 ^ k) ≡ h - 2 ^ k
xor_1 k h b =
    let g = bit_xor h (2 ^ k) in
    let z : bit_at g k ≡ 0 = omega (arith, bit_at_xor h (2 ^ k) k, bit_at-pow_same k, bit_at-lt h k) in
    let back : bit_or g (2 ^ k) ≡ h =
    same_from_bits (bit_or g (2 ^ k)) h (λ i.
    bit_at_or g (2 ^ k) i
    ∙ ⊎_elim
    (λ (e : i ≡ k). rw e (omega (arith, bit_at-pow_same k, z, bit_at-lt h k)))
    (λ (e : i ≡ k → ⊥). omega (arith, bit_at-pow_other k i e, bit_at_xor h (2 ^ k) i, bit_at-lt h i))
    (cases_eq i k))
    in
    omega (arith, or_0 k g z, back)

pub set_is : (n h : ℕ) → bit_or h (bit_weight n) ≡ with_bit n h
unfolding with_bit bit_of bit_weight
set_is n h = ⊎_elim (λ b. grind (arith, or_0 (15 - n % 16) h b)) (λ b. grind (arith, or_1 (15 - n % 16) h b)) (cases_eq (bit_at h (15 - n % 16)) 0)

pub cleared_is : (n h : ℕ) → h < 2 ^ 16 → bit_and h (2 ^ 16 - 1 - bit_weight n) ≡ without_bit n h
unfolding without_bit bit_of bit_weight
cleared_is n h l =
    and_bit (15 - n % 16) h (omega arith) l
    ∙ ⊎_elim
    (λ (b : bit_at h (15 - n % 16) ≡ 0). rw b (search rules))
    (λ (b : bit_at h (15 - n % 16) ≡ 0 → ⊥).
    let e : bit_at h (15 - n % 16) ≡ 1 = omega (arith, bit_at-lt h (15 - n % 16)) in
    rw e (search rules))
    (cases_eq (bit_at h (15 - n % 16)) 0)

pub flipped_is : (n h : ℕ) → bit_xor h (bit_weight n) ≡ with_bit_flipped n h
unfolding with_bit_flipped bit_of bit_weight
flipped_is n h = ⊎_elim (λ b. grind (arith, xor_0 (15 - n % 16) h b)) (λ b. grind (arith, xor_1 (15 - n % 16) h b)) (cases_eq (bit_at h (15 - n % 16)) 0)

cleared_from_0 : (n h : ℕ) → bit_of n h ≡ 0 → without_bit n h ≡ h
unfolding without_bit
cleared_from_0 n h b = search rules

cleared_from_1 : (n h : ℕ) → (bit_of n h ≡ 0 → ⊥) → without_bit n h ≡ with_bit_flipped n h
unfolding without_bit with_bit_flipped
cleared_from_1 n h b = search rules

-- A bit of what is written.
of_set : (m n h : ℕ) → bit_of m (with_bit n h) ≡ max (bit_of m h) (bit_at (bit_weight n) (15 - m % 16))
unfolding bit_of bit_weight
of_set m n h = ap (λ x. bit_at x (15 - m % 16)) (sym (set_is n h)) ∙ bit_at_or h (2 ^ (15 - n % 16)) (15 - m % 16)

of_flipped : (m n h : ℕ) → bit_of m (with_bit_flipped n h) ≡ (bit_of m h + bit_at (bit_weight n) (15 - m % 16)) % 2
unfolding bit_of bit_weight
of_flipped m n h = ap (λ x. bit_at x (15 - m % 16)) (sym (flipped_is n h)) ∙ bit_at_xor h (2 ^ (15 - n % 16)) (15 - m % 16)

own : (n : ℕ) → bit_at (bit_weight n) (15 - n % 16) ≡ 1
unfolding bit_weight
own n = bit_at-pow_same (15 - n % 16)

others : (m n : ℕ) → (m % 16 ≡ n % 16 → ⊥) → bit_at (bit_weight n) (15 - m % 16) ≡ 0
unfolding bit_weight
others m n ne = bit_at-pow_other (15 - n % 16) (15 - m % 16) (λ e. ne (omega arith))

bit_small : (n h : ℕ) → bit_of n h < 2
unfolding bit_of
bit_small n h = omega arith

pub bits_written_lem : BitsWritten
bits_written_lem = (
  λ n h. of_set n n h ∙ omega (arith, own n, bit_small n h),
  λ n h.
      ⊎_elim
      (λ b. ap (bit_of n) (cleared_from_0 n h b) ∙ b)
      (λ b. ap (bit_of n) (cleared_from_1 n h b) ∙ (of_flipped n n h ∙ omega (arith, own n, bit_small n h)))
      (cases_eq (bit_of n h) 0),
  λ n h. of_flipped n n h ∙ omega (arith, own n, bit_small n h),
)

pub bits_kept_lem : BitsKept
bits_kept_lem = (
  λ m n h ne. of_set m n h ∙ omega (arith, others m n ne),
  λ m n h ne.
      ⊎_elim
      (λ b. ap (bit_of m) (cleared_from_0 n h b))
      (λ b. ap (bit_of m) (cleared_from_1 n h b) ∙ (of_flipped m n h ∙ omega (arith, others m n ne, bit_small m h)))
      (cases_eq (bit_of n h) 0),
  λ m n h ne. of_flipped m n h ∙ omega (arith, others m n ne, bit_small m h),
)

-- A rotate by a halfword.
pub halves_turned : (v : ℕ) → v < 2 ^ 32 → bit_or ((v * 2 ^ 16) % 2 ^ 32) (v / 2 ^ 16) ≡ halves_exchanged v
unfolding halves_exchanged
halves_turned v l =
    let e : (v * 2 ^ 16) % 2 ^ 32 ≡ (v % 2 ^ 16) * 2 ^ 16 = omega arith in
    ap (λ x. bit_or x (v / 2 ^ 16)) e ∙ or_shifted (v % 2 ^ 16) 16 (v / 2 ^ 16) (omega arith)
