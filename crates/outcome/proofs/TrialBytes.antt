-- Bytes that stand behind their length, and trials.
use Rattle.std.proofs.Common.{◌≡◌, ℕ, ◌<◌, ◌+◌, ◌++◌, ◌^◌, List, ◌∷◌, length, get_or, take, drop, arith, ap, ap₂, ◌∙◌, sym, length-append, length-take, append_assoc}
use Rattle.std.specs.Int.{w32, to_be_bytes, from_be_bytes}
use Rattle.std.proofs.lemmas.List.{places, take-append-drop}
use Rattle.std.proofs.lemmas.Nat.{be_bytes_4, from_be_bytes-to_be_bytes_4}
use Rattle.std.proofs.Math.Seq.{drop-append_seam}
use Rattle.outcome.specs.Trials.{silent_trial, devices_trial, behind_length, BeginsWithBytes, HasNoBytes, HasNoTrial}

-- The number in the first four bytes is their length.
length_read : (input bytes after : List ℕ) → BeginsWithBytes input bytes after → from_be_bytes w32 (take 4 input) ≡ length bytes
length_read input bytes after b =
    ap (λ (l : List ℕ). from_be_bytes w32 (take 4 l)) b.written ∙ from_be_bytes-to_be_bytes_4 (length bytes) b.fits

-- None stand there where fewer are left.
pub cut_short :
    (input rest : List ℕ) (n : ℕ) → n ≡ from_be_bytes w32 (take 4 input) → length rest + 4 ≡ length input → length rest < n → (bytes after : List ℕ) →
    ¬ BeginsWithBytes input bytes after
cut_short input rest n read all short bytes after b =
    let same : n ≡ length bytes = read ∙ length_read input bytes after b in
    let whole : length input ≡ length (behind_length bytes) + length after = ap length b.written ∙ length-append (behind_length bytes) after in
    omega arith

bytes_taken : (input : List ℕ) → ((i : ℕ) → get_or input i 0 < 256) → (i : ℕ) → get_or (take 4 input) i 0 < 256
bytes_taken input fits i = grind (arith, places, fits i)

-- Where enough are left, they stand there.
pub behind :
    (input rest bytes after : List ℕ) (n : ℕ) → ((i : ℕ) → get_or input i 0 < 256) → n < 2 ^ 32 → n ≡ from_be_bytes w32 (take 4 input) →
    rest ≡ drop 4 input → length rest + 4 ≡ length input → bytes ≡ take n rest → after ≡ drop n rest → length bytes ≡ n →
    BeginsWithBytes input bytes after
behind input rest bytes after n fits small read behind_four all front back size =
    let four : length (take 4 input) ≡ 4 = omega (arith, length-take 4 input) in
    let number : to_be_bytes w32 (length bytes) ≡ take 4 input = ap (to_be_bytes w32) size ∙ be_bytes_4 (take 4 input) n four (bytes_taken input fits) read in
    let split : drop 4 input ≡ bytes ++ after = sym (ap₂ (λ (x y : List ℕ). x ++ y) front back ∙ take-append-drop n rest ∙ behind_four) in
    record {
      fits = omega arith;
      written = sym (take-append-drop 4 input) ∙ ap₂ (λ (x y : List ℕ). x ++ y) (sym number) split ∙ sym (append_assoc (to_be_bytes w32 (length bytes)) bytes after);
    }

-- What comes after them is one.
pub one_rest : (input a x b y : List ℕ) → BeginsWithBytes input a x → BeginsWithBytes input b y → x ≡ y
one_rest input a x b y f g =
    let size : length a ≡ length b = sym (length_read input a x f) ∙ length_read input b y g in
    let whole : length (behind_length a) ≡ length (behind_length b) = omega arith in
    sym (drop-append_seam (behind_length a) x)
    ∙ ap₂ (λ (n : ℕ) (l : List ℕ). drop n l) whole (sym f.written ∙ g.written)
    ∙ drop-append_seam (behind_length b) y

no_letter : ◌≡◌ {A = ℕ} 68 83 → ⊥
no_letter e = omega arith

-- Keys with no tape behind them begin no trial.
pub keys_alone : (input rest keys more : List ℕ) → input ≡ 68 ∷ rest → BeginsWithBytes rest keys more → HasNoBytes more → HasNoTrial input
keys_alone input rest keys more first found none (silent_trial tape) after b =
    absurd (no_letter (ap (λ (l : List ℕ). get_or l 0 0) (sym first ∙ b.written)))
keys_alone input rest keys more first found none (devices_trial others tape) after b =
    let behind_letter : rest ≡ (behind_length others ++ behind_length tape) ++ after = ap (λ (l : List ℕ). drop 1 l) (sym first ∙ b.written) in
    let begins : BeginsWithBytes rest others (behind_length tape ++ after) =
    record { fits = b.fits.0; written = behind_letter ∙ append_assoc (behind_length others) (behind_length tape) after } in
    none tape after (record { fits = b.fits.1; written = one_rest rest keys more others (behind_length tape ++ after) found begins })
