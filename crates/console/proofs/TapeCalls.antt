-- A tape, command by command.
use Rattle.std.proofs.Common.{◌≡◌, ℕ, ◌+◌, ◌-◌, ◌<◌, ◌≤◌, true, List, ◌∷◌, length, get_or, take, drop, Some, None, Ok, Err, Option, Result, MatchResult, IsErrAnd, sym, refl, ap, ◌∙◌, subst, arith, length-drop}
use Rattle.std.proofs.lemmas.List.{drop_more, take_rest, nil_from_length}
use Rattle.std.proofs.lemmas.Result.{err_from_is_err_and}
use Rattle.model.specs.declared.Denial.{Denial}
use Rattle.model.specs.declared.Record.{Record}
use Rattle.model.specs.Effects.{Prog}
use Rattle.model.specs.Answers.{number, on, Answer, denied, played, faulted, accepted}
use Rattle.model.specs.Console.{Desk, with_key}
use Rattle.model.specs.Tapes.{Order, Command, unknown, known, command_of, Spelling, end, spell_from, spell, Obeys, Playing, ends, breaks, halts, goes_on, PlaysUnless}
use Rattle.tape.proofs.Spellings.{spell_nothing, spell_whole, spell_broken}
use Rattle.tape.specs.Commands.{Holds, Broken}

-- What is told of an error.
pub stopped : {X Y : Type 0} (P : X → Type 0) (Q : Y → Type 0) (r : Result X Y) (d : Y) → r ≡ Err d → Q d → MatchResult r P Q
stopped P Q r d e q = subst (λ x. MatchResult x P Q) (sym e) q

-- A result whose error is mapped.
pub mapped_ok : {X Y Z : Type 0} (P : Y → Z → Type 0) (r : Result X Y) (s : Result X Z) (x : X) → MatchResult r (λ y. s ≡ Ok y) (λ e. IsErrAnd s (P e)) → s ≡ Ok x → r ≡ Ok x
mapped_ok {X} {Y} {Z} P (Ok y) s x m e = let f : ◌≡◌ {A = Result X Z} (Ok y) (Ok x) = sym m ∙ e in cc
mapped_ok P (Err y) s x m e = let n = err_from_is_err_and s m in absurd (cc)

pub mapped_err : {X Y Z : Type 0} (P : Y → Z → Type 0) (r : Result X Y) (s : Result X Z) (z : Z) → MatchResult r (λ y. s ≡ Ok y) (λ e. IsErrAnd s (P e)) → s ≡ Err z → (y : Y) × (r ≡ Err y) × P y z
mapped_err P (Ok y) s z m e = absurd (cc)
mapped_err P (Err y) s z m e = (y, refl, subst (λ v. IsErrAnd v (P y)) e m)

-- A command that the bytes hold whole is known.
pub held : (c : Command) (bytes : List ℕ) (o : Order) (next : ℕ) (rest : List ℕ) → Holds c bytes o next rest → (size : ℕ) × (c ≡ known size o next) × (size ≤ length bytes) × (rest ≡ drop size bytes)
held unknown bytes o next rest h = absurd h
held (known size p n) bytes o next rest h = (size, (λ i. known size (h.0 i) (h.1 i)), h.2, h.3)

module _ (meaning : ℕ → Prog) (cap : ℕ) where
  -- A letter that begins no whole command stops the tape there.
  pub broken_there :
      (letter a place n : ℕ) (bytes : List ℕ) (d : Denial) (w : Desk) (q : List Record) →
      Broken letter bytes d → Playing meaning cap (spell_from (letter ∷ bytes) 0 place a) n w q (faulted (number d) place (Some letter)) w q
  broken_there letter a place n bytes d w q h =
      subst (λ (s : Spelling). Playing meaning cap s n w q (faulted (number d) place (Some letter)) w q) (sym (spell_broken letter a place bytes d h)) breaks

  -- So does a command that is denied.
  pub denied_there :
      (letter a size next place n d : ℕ) (bytes : List ℕ) (o : Order) (w v : Desk) (q p : List Record) →
      command_of letter a bytes ≡ known size o next → size ≤ length bytes → Obeys meaning cap o w q (denied d) v p →
      Playing meaning cap (spell_from (letter ∷ bytes) 0 place a) n w q (faulted d place (Some letter)) v p
  denied_there letter a size next place n d bytes o w v q p e h ob =
      subst (λ (s : Spelling). Playing meaning cap s n w q (faulted d place (Some letter)) v p) (sym (spell_whole letter a size next place bytes o e h)) (halts ob)

  -- After a command that is obeyed, the bytes behind it are played.
  pub obeyed_there :
      (letter a size next place n : ℕ) (bytes rest : List ℕ) (o : Order) (w u v : Desk) (q r p : List Record) (b x : Answer) (at : ℕ) →
      command_of letter a bytes ≡ known size o next → size ≤ length bytes → rest ≡ drop size bytes → at ≡ place + 1 + size →
      Obeys meaning cap o w q b u r → accepted b ≡ true →
      Playing meaning cap (spell_from rest 0 at next) (n + 1) u r x v p →
      Playing meaning cap (spell_from (letter ∷ bytes) 0 place a) n w q x v p
  obeyed_there letter a size next place n bytes rest o w u v q r p b x at e h er ea ob acc more =
      let there : spell_from rest 0 at next ≡ spell_from (drop size bytes) 0 (place + 1 + size) next =
      ap (λ (l : List ℕ). spell_from l 0 at next) er ∙ ap (λ (k : ℕ). spell_from (drop size bytes) 0 k next) ea in
      subst (λ (s : Spelling). Playing meaning cap s n w q x v p) (sym (spell_whole letter a size next place bytes o e h))
      (goes_on b ob acc (subst (λ (s : Spelling). Playing meaning cap s (n + 1) u r x v p) there more))

pub gone : (bytes rest : List ℕ) (size place : ℕ) → size ≤ length bytes → rest ≡ drop size bytes → place + 1 + (length bytes - length rest) ≡ place + 1 + size
gone bytes rest size place h e = omega (arith, ap length e, length-drop size bytes)

-- A list is its first element and the others.
pub front : (xs : List ℕ) → 1 ≤ length xs → get_or xs 0 0 ∷ take (length xs - 1) (drop 1 xs) ≡ xs
front xs h = ap (λ (l : List ℕ). get_or xs 0 0 ∷ l) (take_rest xs 1) ∙ sym (drop_more xs 0 0 h)

-- A tape from its beginning, by how it goes on from the bytes xs.
module _ (meaning : ℕ → Prog) (cap : ℕ) (first : Spelling) (start : Desk) (line : List Record) (xs : List ℕ) (place a n : ℕ) (w : Desk) (q : List Record) where
  pub to_the_end :
      ((x : Answer) (v : Desk) (p : List Record) → Playing meaning cap (spell_from xs 0 place a) n w q x v p → Playing meaning cap first 0 start line x v p) →
      length xs < 1 → Playing meaning cap first 0 start line (played n) w q
  to_the_end from h =
      let e : spell_from xs 0 place a ≡ end = ap (λ (l : List ℕ). spell_from l 0 place a) (nil_from_length xs (omega arith)) ∙ spell_nothing place a in
      from (played n) w q (subst (λ (s : Spelling). Playing meaning cap s n w q (played n) w q) (sym e) ends)

  pub to_a_stop :
      (cap' letter : ℕ) (bytes : List ℕ) (y : Answer) (v : Desk) (p : List Record) →
      ((x : Answer) (u : Desk) (o : List Record) → Playing meaning cap (spell_from xs 0 place a) n w q x u o → Playing meaning cap first 0 start line x u o) →
      cap' ≡ cap → letter ∷ bytes ≡ xs →
      ((k : ℕ) → Playing meaning cap' (spell_from (letter ∷ bytes) 0 place a) k w q y v p) → Playing meaning cap first 0 start line y v p
  to_a_stop cap' letter bytes y v p from ec ex stop =
      from y v p
      (subst (λ (c : ℕ). Playing meaning c (spell_from xs 0 place a) n w q y v p) ec
      (subst (λ (l : List ℕ). Playing meaning cap' (spell_from l 0 place a) n w q y v p) ex (stop n)))

  pub to_the_next :
      (cap' letter next at at' : ℕ) (bytes rest : List ℕ) (u : Desk) (r : List Record) →
      ((x : Answer) (v : Desk) (p : List Record) → Playing meaning cap (spell_from xs 0 place a) n w q x v p → Playing meaning cap first 0 start line x v p) →
      cap' ≡ cap → letter ∷ bytes ≡ xs → at ≡ at' →
      ((k : ℕ) (x : Answer) (v : Desk) (p : List Record) → Playing meaning cap' (spell_from rest 0 at' next) (k + 1) u r x v p → Playing meaning cap' (spell_from (letter ∷ bytes) 0 place a) k w q x v p) →
      (x : Answer) (v : Desk) (p : List Record) → Playing meaning cap (spell_from rest 0 at next) (n + 1) u r x v p → Playing meaning cap first 0 start line x v p
  to_the_next cap' letter next at at' bytes rest u r from ec ex ea one x v p more =
      let more' = subst (λ (c : ℕ). Playing meaning c (spell_from rest 0 at' next) (n + 1) u r x v p) (sym ec) (subst (λ (k : ℕ). Playing meaning cap (spell_from rest 0 k next) (n + 1) u r x v p) ea more) in
      from x v p
      (subst (λ (c : ℕ). Playing meaning c (spell_from xs 0 place a) n w q x v p) ec
      (subst (λ (l : List ℕ). Playing meaning cap' (spell_from l 0 place a) n w q x v p) ex (one n x v p more')))

-- A tape that is not played, and one that is.
module _ (meaning : ℕ → Prog) where
  pub play_off :
      (d : Option ℕ) (n cap : ℕ) (tape : List ℕ) (w : Desk) (q : List Record) (a : Answer) (v : Desk) (p : List Record) →
      d ≡ Some n → a ≡ faulted n 0 None → v ≡ w → p ≡ q → PlaysUnless meaning d cap tape w q a v p
  play_off d n cap tape w q a v p e ea ev ep =
      subst (λ (x : Option ℕ). PlaysUnless meaning x cap tape w q a v p) (sym e) (record { answer = ea; machine = ev; trace = ep })

  pub play_made :
      (d : Option ℕ) (cap : ℕ) (tape : List ℕ) (w final : Desk) (q : List Record) (a : Answer) (v : Desk) (p : List Record) →
      d ≡ None → Playing meaning cap (spell tape) 0 (with_key on w) q a final p → v ≡ with_key w.key final → PlaysUnless meaning d cap tape w q a v p
  play_made d cap tape w final q a v p e plays back =
      subst (λ (x : Option ℕ). PlaysUnless meaning x cap tape w q a v p) (sym e) (record { final = final; plays = plays; back = back })
