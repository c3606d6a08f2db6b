-- What an input leaves, from what its tape leaves.
use Rattle.std.proofs.Common.{◌≡◌, ℕ, min, List, length, take, replicate, refl, ap, ◌∙◌, subst, arith}
use Rattle.std.proofs.lemmas.List.{take_min}
use Rattle.model.specs.declared.Record.{Record}
use Rattle.model.specs.Console.{Desk}
use Rattle.session.specs.Sessions.{PlaysToLine, InputLeaves, tape_bytes, store_halfwords, trace_records}

pub left :
    (input words line : List ℕ) (bytes halfwords records : ℕ) (after : Desk) (trace : List Record) → bytes ≡ tape_bytes → halfwords ≡ store_halfwords → records ≡ trace_records →
    words ≡ replicate halfwords 0 → PlaysToLine records (take (min (length input) bytes) input) words line after trace → InputLeaves input line
left input words line bytes halfwords records after trace b h r zero played =
    let order : min (length input) bytes ≡ min bytes (length input) = omega arith in
    let tape : take (min (length input) bytes) input ≡ take tape_bytes input =
    ap (λ (k : ℕ). take k input) order ∙ take_min bytes input ∙ ap (λ (k : ℕ). take k input) b in
    record {
      after = after;
      trace = trace;
      plays =
          subst (λ (k : ℕ). PlaysToLine k (take tape_bytes input) (replicate store_halfwords 0) line after trace) r
          (subst (λ (l : List ℕ). PlaysToLine records (take tape_bytes input) l line after trace) (zero ∙ ap (λ (k : ℕ). replicate k 0) h)
          (subst (λ (l : List ℕ). PlaysToLine records l words line after trace) tape played));
    }

pub bytes_named : 65_536 ≡ tape_bytes
unfolding tape_bytes
bytes_named = refl

pub halfwords_named : 32_768 ≡ store_halfwords
unfolding store_halfwords
halfwords_named = refl

pub records_named : 64 ≡ trace_records
unfolding trace_records
records_named = refl
