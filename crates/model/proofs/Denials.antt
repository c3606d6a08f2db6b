-- The first denial that applies is the one given.
use Rattle.std.proofs.Common.{◌≡◌, ℕ, ◌-◌, ◌%◌, ◌^◌, Bool, true, false, cond, not, ◌||◌, eqb, leb, ◌⊎◌, List, [], ◌∷◌, length, Some, None, Option, refl, sym, ap, ◌∙◌, subst, arith, inl, inr, ⊎_elim}
use Rattle.std.specs.Prelude.{nat_lt, ◌==◌, ◌&&◌, find}
use Rattle.std.specs.Option.{option_map}
use Rattle.std.proofs.lemmas.Bool.Decides.{nat_tests}
use mathlib.Core.Bool.{false≢true}
use Rattle.model.specs.declared.Denial.{Denial}
use Rattle.model.specs.declared.Denial.TheVariants.{NoPlace, FixedPlace, NoRegister, OutOfRange, UnknownLetter, CutShort, KeyOff, KeyLocked, TraceFull}
use Rattle.model.specs.declared.Item.TheVariants.{General, Segment, Status, Location}
use Rattle.model.specs.declared.Record.{Record}
use Rattle.model.specs.Status.{no_set}
use Rattle.model.specs.Controller.{used}
use Rattle.model.specs.Effects.{Prog}
use Rattle.model.specs.Steps.{Ending, finished, waiting, took, stepped}
use Rattle.model.specs.Answers.{number, off, on, lock, Answer, denied, faulted, accepted}
use Rattle.model.specs.Console.{Desk, Act, turn_key, initialise, examine, deposit, set_item, show_item, step, or_else, deny_if, off_denial, key_denial, strange, denial, Did, did_step, unless_denied, obeyed, call, Leaves}
use Rattle.model.specs.Runs.{run_denial, RunsUnless, Runs}
use Rattle.model.specs.Tapes.{Order, point, obey, go, Command, unknown, known, Spelling, end, broken, order, spelled, Obeys, Playing, ends, breaks, halts, goes_on, PlaysUnless, Plays}
use Rattle.model.specs.Denials.{Call, act, run, tape, nothing, plain, command, call_of_order, turns_key, goes_at_lock, applies, first_denial, Given, GoesOn, GivenTape, GivenLetter, FirstIsGiven}

-- ── Tests in two wordings ──
unused_set : (v : ℕ) → not (eqb (used v) v) ≡ (leb (2 ^ 28) v || not (eqb (v % 2 ^ 4) 0))
unfolding used
unused_set v = grind (arith, nat_tests)

-- ── Chains of denials ──
-- Two tests, and one.
two : (x y : Bool) (d e : Denial) → or_else (deny_if x (number d)) (deny_if y (number e)) ≡ option_map number (cond x (Some d) (cond y (Some e) None))
two true y d e = refl
two false true d e = refl
two false false d e = refl

one : (x : Bool) (d : Denial) → deny_if x (number d) ≡ option_map number (cond x (Some d) None)
one true d = refl
one false d = refl

-- A test ahead of a chain, and those of the key.
ahead : (x : Bool) (d : Denial) (more : Option ℕ) (rest : Option Denial) → more ≡ option_map number rest → or_else (deny_if x (number d)) more ≡ option_map number (cond x (Some d) rest)
ahead true d more rest e = refl
ahead false d more rest e = e

keyed :
    (x y : Bool) (more : Option ℕ) (rest : Option Denial) → more ≡ option_map number rest →
    or_else (or_else (deny_if x 7) (deny_if y 8)) more ≡ option_map number (cond x (Some KeyOff) (cond y (Some KeyLocked) rest))
keyed true y more rest e = refl
keyed false true more rest e = refl
keyed false false more rest e = e

at_key :
    (w : Desk) (more : Option ℕ) (rest : Option Denial) → more ≡ option_map number rest →
    or_else (key_denial w) more ≡ option_map number (cond (w.key == off) (Some KeyOff) (cond (w.key == lock) (Some KeyLocked) rest))
at_key w more rest e = keyed (w.key == off) (w.key == lock) more rest e

calls_lem : (c : Act) (w : Desk) → denial c w ≡ first_denial (plain (act c)) w
unfolding strange no_set
calls_lem (turn_key n) w = one _ OutOfRange
calls_lem initialise w = one _ KeyOff
calls_lem (examine a) w = at_key w _ _ (one _ NoPlace)
calls_lem (deposit a v) w = at_key w _ _ (two _ _ NoPlace FixedPlace)
calls_lem (set_item (General k n) v) w = at_key w _ _ (ahead _ NoRegister None None refl)
calls_lem (set_item (Segment n) v) w = at_key w _ _ (rw (unused_set v) (two _ _ NoRegister OutOfRange))
calls_lem (set_item Status v) w = at_key w None None refl
calls_lem (set_item Location v) w = at_key w _ _ (one _ OutOfRange)
calls_lem (show_item (General k n)) w = at_key w _ _ (one _ NoRegister)
calls_lem (show_item (Segment n)) w = at_key w _ _ (one _ NoRegister)
calls_lem (show_item Status) w = at_key w None None refl
calls_lem (show_item Location) w = at_key w None None refl
calls_lem (step room reply) w = two _ _ KeyOff TraceFull

runs_lem : (meaning : ℕ → Prog) (count room : ℕ) (w : Desk) → run_denial meaning count room w ≡ first_denial (plain (run count room)) w
runs_lem meaning count room w = ahead _ KeyOff _ _ (two _ _ OutOfRange TraceFull)

-- ── What is answered ──
accepts_step : (w : Desk) (e : Ending) → accepted (did_step w e).answer ≡ true
accepts_step w (finished s) = refl
accepts_step w (waiting s) = refl
accepts_step w (took r s) = refl

accepts : (meaning : ℕ → Prog) (c : Act) (w : Desk) → accepted (obeyed meaning c w).answer ≡ true
accepts meaning (turn_key n) w = refl
accepts meaning initialise w = refl
accepts meaning (examine a) w = refl
accepts meaning (deposit a v) w = refl
accepts meaning (set_item i v) w = refl
accepts meaning (show_item i) w = refl
accepts meaning (step room reply) w = accepts_step w (stepped meaning reply w.core)

given_unless : (d : Option ℕ) (w : Desk) (x : Did) → accepted x.answer ≡ true → let y = unless_denied d w x in Given d y.answer w y.after [] y.added
given_unless (Some n) w x h = record { answer = refl; machine = refl; trace = refl }
given_unless None w x h = h

given_call : (meaning : ℕ → Prog) (c : Act) (w : Desk) → let d = call meaning c w in Given (first_denial (plain (act c)) w) d.answer w d.after [] d.added
given_call meaning c w =
    let d = call meaning c w in
    subst (λ (x : Option ℕ). Given x d.answer w d.after [] d.added) (calls_lem c w) (given_unless (denial c w) w (obeyed meaning c w) (accepts meaning c w))

given_ran :
    (meaning : ℕ → Prog) (d : Option ℕ) (cap count : ℕ) (w v : Desk) (q p : List Record) (a : Answer) → RunsUnless meaning d cap count w q a v p →
    Given d a w v q p
given_ran meaning (Some n) cap count w v q p a h = h
given_ran meaning None cap count w v q p a h = ap accepted h.answer

given_run :
    (meaning : ℕ → Prog) (cap count : ℕ) (w : Desk) (q : List Record) (a : Answer) (v : Desk) (p : List Record) → Runs meaning cap count w q a v p →
    Given (first_denial (plain (run count (cap - length q))) w) a w v q p
given_run meaning cap count w q a v p h =
    subst (λ (x : Option ℕ). Given x a w v q p) (runs_lem meaning count (cap - length q) w)
    (given_ran meaning (run_denial meaning count (cap - length q) w) cap count w v q p a h)

given_played :
    (meaning : ℕ → Prog) (d : Option ℕ) (cap : ℕ) (bytes : List ℕ) (w v : Desk) (q p : List Record) (a : Answer) →
    PlaysUnless meaning d cap bytes w q a v p → GivenTape meaning cap d bytes w q a v p
given_played meaning (Some n) cap bytes w v q p a h = h
given_played meaning None cap bytes w v q p a h = h

given_tape :
    (meaning : ℕ → Prog) (cap : ℕ) (bytes : List ℕ) (w : Desk) (q : List Record) (a : Answer) (v : Desk) (p : List Record) →
    Plays meaning cap bytes w q a v p → GivenTape meaning cap (first_denial (plain tape) w) bytes w q a v p
given_tape meaning cap bytes w q a v p h =
    subst (λ (x : Option ℕ). GivenTape meaning cap x bytes w q a v p) (one (w.key == off) KeyOff)
    (given_played meaning (off_denial w) cap bytes w v q p a h)

-- ── Letters ──
-- The denials of a call but those of the key; with the key ON they alone apply.
abbrev at_on : Call → Desk → Option Denial
at_on c w = find (λ d. applies d (plain c) w) (NoPlace ∷ FixedPlace ∷ NoRegister ∷ OutOfRange ∷ TraceFull ∷ [])

and_false : (b c : Bool) → c ≡ false → (b && c) ≡ false
and_false true c e = e
and_false false c e = refl

skipped : (x y : Bool) (r : Option Denial) → x ≡ false → y ≡ false → option_map number (cond x (Some KeyOff) (cond y (Some KeyLocked) r)) ≡ option_map number r
skipped x y r e f = rw (e, f)

key_on : (c : Call) (w : Desk) (r : Option Denial) → w.key ≡ on →
    option_map number (cond (applies KeyOff (plain c) w) (Some KeyOff) (cond (applies KeyLocked (plain c) w) (Some KeyLocked) r)) ≡ option_map number r
key_on c w r e =
    skipped (applies KeyOff (plain c) w) (applies KeyLocked (plain c) w) r
    (and_false (not (turns_key c)) _ (ap (λ (k : ℕ). k == off) e)) (and_false (not (goes_at_lock c)) _ (ap (λ (k : ℕ). k == lock) e))

-- A call that adds nothing to its own trace adds nothing to another.
retraced : (d : Option ℕ) (a : Answer) (w v : Desk) (q p : List Record) → p ≡ q → Given d a w v [] [] → Given d a w v q p
retraced (Some n) a w v q p e h = record { answer = h.answer; machine = h.machine; trace = e }
retraced None a w v q p e h = h

-- An order that is obeyed or denied.
given_order :
    (meaning : ℕ → Prog) (cap : ℕ) (o : Order) (w : Desk) (q : List Record) (a : Answer) (v : Desk) (p : List Record) → w.key ≡ on →
    Obeys meaning cap o w q a v p → Given (option_map number (at_on (call_of_order o (cap - length q)) w)) a w v q p
given_order meaning cap point w q a v p e h = ap accepted h.0
given_order meaning cap (obey c) w q a v p e h =
    subst (λ (x : Option ℕ). Given x a w v q p) (key_on (act c) w _ e)
    (retraced (first_denial (plain (act c)) w) a w v q p h.1
    (subst (λ (x : Did). Given (first_denial (plain (act c)) w) x.answer w x.after [] x.added) h.0 (given_call meaning c w)))
given_order meaning cap (go count) w q a v p e h =
    subst (λ (x : Option ℕ). Given x a w v q p) (key_on (run count (cap - length q)) w _ e) (given_run meaning cap count w q a v p h)

-- What a playing says of the head of a spelling.
abbrev Headed : (meaning : ℕ → Prog) (cap : ℕ) → Spelling → ℕ → Desk → List Record → Answer → Desk → List Record → Type 0
Headed meaning cap end n w q a v p = Unit {0}
Headed meaning cap (broken d place letter) n w q a v p = Leaves (faulted d place (Some letter)) a w v q p
Headed meaning cap (order o letter place rest) n w q a v p =
    ((d : ℕ) × Obeys meaning cap o w q (denied d) v p × (a ≡ faulted d place (Some letter))) ⊎ GoesOn meaning cap o rest n w q a v p

headed :
    {meaning : ℕ → Prog} {cap : ℕ} {s : Spelling} {n : ℕ} {w : Desk} {q : List Record} {a : Answer} {v : Desk} {p : List Record} →
    Playing meaning cap s n w q a v p → Headed meaning cap s n w q a v p
headed ends = tt
headed breaks = record { answer = refl; machine = refl; trace = refl }
headed (halts {d = d} h) = inl (d, h, refl)
headed (goes_on {u = u} {r = r} b h e rest) = inr (record { answer = b; machine = u; trace = r; obeys = h; accepts = e; plays = rest })

module _ (meaning : ℕ → Prog) (cap : ℕ) (size : ℕ) (o : Order) (next letter place : ℕ) (more : ℕ → ℕ → Spelling) (n : ℕ) (w : Desk) (q : List Record) (a : Answer) (v : Desk) (p : List Record) where
  stopped_by : (x : Option ℕ) (d : ℕ) → Given x (denied d) w v q p → a ≡ faulted d place (Some letter) → GivenLetter meaning cap x (known size o next) letter place more n w q a v p
  stopped_by (Some m) d h e = let f : denied d ≡ denied m = h.answer in record { answer = cc; machine = h.machine; trace = h.trace }
  stopped_by None d h e = absurd (false≢true h)

  gone_on : (x : Option ℕ) (g : GoesOn meaning cap o (more size next) n w q a v p) → Given x g.answer w g.machine q g.trace → GivenLetter meaning cap x (known size o next) letter place more n w q a v p
  gone_on (Some m) g h = absurd (false≢true (sym (ap accepted h.answer) ∙ g.accepts))
  gone_on None g h = g

  letter_if :
      (b : Bool) → w.key ≡ on → Headed meaning cap (cond b (broken 6 place letter) (order o letter place (more size next))) n w q a v p →
      GivenLetter meaning cap (option_map number (cond b (Some CutShort) (at_on (call_of_order o (cap - length q)) w))) (known size o next) letter place more n w q a v p
  letter_if true e h = h
  letter_if false e h =
      let x = option_map number (at_on (call_of_order o (cap - length q)) w) in
      ⊎_elim
      (λ k. stopped_by x k.0 (given_order meaning cap o w q (denied k.0) v p e k.1) k.2)
      (λ g. gone_on x g (given_order meaning cap o w q g.answer g.machine g.trace e g.obeys))
      h

given_letter :
    (meaning : ℕ → Prog) (cap : ℕ) (c : Command) (letter place : ℕ) (rest : List ℕ) (more : ℕ → ℕ → Spelling) (n : ℕ) (w : Desk)
    (q : List Record) (a : Answer) (v : Desk) (p : List Record) → w.key ≡ on → Playing meaning cap (spelled c letter place rest more) n w q a v p →
    GivenLetter meaning cap (first_denial (command c (length rest) (cap - length q)) w) c letter place more n w q a v p
given_letter meaning cap unknown letter place rest more n w q a v p e h =
    subst (λ (x : Option ℕ). GivenLetter meaning cap x unknown letter place more n w q a v p) (sym (key_on nothing w (Some UnknownLetter) e)) (headed h)
given_letter meaning cap (known size o next) letter place rest more n w q a v p e h =
    let c = call_of_order o (cap - length q) in
    let b = nat_lt (length rest) size in
    subst (λ (x : Option ℕ). GivenLetter meaning cap x (known size o next) letter place more n w q a v p)
    (sym (key_on c w (cond b (Some CutShort) (at_on c w)) e)) (letter_if meaning cap size o next letter place more n w q a v p b e (headed h))

pub first_is_given : FirstIsGiven
first_is_given = record { calls = given_call; runs = given_run; tapes = given_tape; letters = given_letter }
