-- A tape: the calls that its bytes spell, and how it is played.
use Rattle.std.specs.Prelude.{◌≡◌, ℕ, zero, suc, ◌+◌, ◌*◌, ◌/◌, ◌%◌, ◌^◌, true, cond, List, [], ◌∷◌, length, Some, None, Option, ◌==◌, nat_lt, slice_index}
use Rattle.model.specs.declared.Item.TheVariants.{General, Segment, Status, Location}
use Rattle.model.specs.declared.Record.{Record}
use Rattle.model.specs.Effects.{Prog}
use Rattle.model.specs.Answers.{on, Answer, denied, done, played, faulted, accepted}
use Rattle.model.specs.Console.{Desk, Act, deposit, set_item, call, gives, with_key, off_denial, Leaves}
use Rattle.model.specs.Runs.{Runs}

-- ── What the bytes spell ──
-- The letters A, D, R, S, P, L and G.
abbrev pub letter_a : ℕ
letter_a = 65

abbrev pub letter_d : ℕ
letter_d = 68

abbrev pub letter_r : ℕ
letter_r = 82

abbrev pub letter_s : ℕ
letter_s = 83

abbrev pub letter_p : ℕ
letter_p = 80

abbrev pub letter_l : ℕ
letter_l = 76

abbrev pub letter_g : ℕ
letter_g = 71

-- A number of two, three or four bytes from the k-th on, high byte first.
abbrev pub two : ℕ → List ℕ → ℕ
two k bytes = slice_index bytes k * 2 ^ 8 + slice_index bytes (k + 1)

abbrev pub three : ℕ → List ℕ → ℕ
three k bytes = slice_index bytes k * 2 ^ 16 + slice_index bytes (k + 1) * 2 ^ 8 + slice_index bytes (k + 2)

abbrev pub four : ℕ → List ℕ → ℕ
four k bytes = slice_index bytes k * 2 ^ 24 + slice_index bytes (k + 1) * 2 ^ 16 + slice_index bytes (k + 2) * 2 ^ 8 + slice_index bytes (k + 3)

-- A command: another address for the deposits to come, a call of the console, or a run with a count.
pub data Order : Type 0 where
  point : Order
  obey : Act → Order
  go : ℕ → Order

-- What a letter with its operand says: the order, how many bytes the operand has, and the address of the next deposit.
pub data Command : Type 0 where
  unknown : Command
  known : ℕ → Order → ℕ → Command

-- The command of a letter, by the address a of the next deposit and the bytes behind the letter.
unfoldable pub command_of : ℕ → ℕ → List ℕ → Command
command_of letter a bytes =
    cond (letter == letter_a) (known 3 point (three 0 bytes))
    (cond (letter == letter_d) (known 2 (obey (deposit a (two 0 bytes))) (a + 2))
    (cond (letter == letter_r) (known 5 (obey (set_item (General (slice_index bytes 0 / 16) (slice_index bytes 0 % 16)) (four 1 bytes))) a)
    (cond (letter == letter_s) (known 5 (obey (set_item (Segment (slice_index bytes 0)) (four 1 bytes))) a)
    (cond (letter == letter_p) (known 4 (obey (set_item Status (four 0 bytes))) a)
    (cond (letter == letter_l) (known 3 (obey (set_item Location (three 0 bytes))) a)
    (cond (letter == letter_g) (known 3 (go (three 0 bytes)) a)
    unknown))))))

-- A tape as it is spelt: its orders, each with its letter and the letter's byte place, up to the end or to a byte that
-- begins no whole command, with the number of that denial.
pub data Spelling : Type 0 where
  end : Spelling
  broken : ℕ → ℕ → ℕ → Spelling
  order : Order → ℕ → ℕ → Spelling → Spelling

-- The command c at a letter, before the bytes rest: denial 5 for an unknown letter, 6 for an operand cut short.
abbrev pub spelled : Command → ℕ → ℕ → List ℕ → (ℕ → ℕ → Spelling) → Spelling
spelled unknown letter place rest more = broken 5 place letter
spelled (known size o a) letter place rest more = cond (nat_lt (length rest) size) (broken 6 place letter) (order o letter place (more size a))

-- The bytes from the byte place on, after skip more bytes of an operand, with the address a of the next deposit.
unfoldable pub spell_from : List ℕ → ℕ → ℕ → ℕ → Spelling
spell_from [] skip place a = end
spell_from (b ∷ rest) (suc skip) place a = spell_from rest skip (place + 1) a
spell_from (b ∷ rest) zero place a = spelled (command_of b a rest) b place rest (λ size next. spell_from rest size (place + 1) next)

-- A whole tape; the first address is 0.
abbrev pub spell : List ℕ → Spelling
spell bytes = spell_from bytes 0 0 0

-- ── How it is played ──
module _ (meaning : ℕ → Prog) where
  -- One order on the machine w with the trace q, which answers a and leaves v and p.
  abbrev pub Obeys : ℕ → Order → Desk → List Record → Answer → Desk → List Record → Type 0
  Obeys cap point w q a v p = (a ≡ done) × (v ≡ w) × (p ≡ q)
  Obeys cap (obey c) w q a v p = (call meaning c w ≡ gives a v) × (p ≡ q)
  Obeys cap (go count) w q a v p = Runs meaning cap count w q a v p

  -- Playing a tape, n commands of which are obeyed: the calls that it spells, up to the first denied one. An order that is not
  -- denied answers b.
  pub data Playing (cap : ℕ) : Spelling → ℕ → Desk → List Record → Answer → Desk → List Record → Type 0 where
    ends : {n : ℕ} {w : Desk} {q : List Record} → Playing cap end n w q (played n) w q
    breaks : {d place letter n : ℕ} {w : Desk} {q : List Record} → Playing cap (broken d place letter) n w q (faulted d place (Some letter)) w q
    halts :
        {o : Order} {letter place n d : ℕ} {rest : Spelling} {w v : Desk} {q p : List Record} →
        Obeys cap o w q (denied d) v p → Playing cap (order o letter place rest) n w q (faulted d place (Some letter)) v p
    goes_on :
        {o : Order} {letter place n : ℕ} {rest : Spelling} {w u v : Desk} {q r p : List Record} {a : Answer} (b : Answer) →
        Obeys cap o w q b u r → accepted b ≡ true → Playing cap rest (n + 1) u r a v p →
        Playing cap (order o letter place rest) n w q a v p

  -- A tape that is played: at OFF it is denied with 7, at place 0 and no letter; else the key is ON while it plays, and then back
  -- where it was.
  pub record PlayedOn (cap : ℕ) (tape : List ℕ) (w : Desk) (q : List Record) (a : Answer) (v : Desk) (p : List Record) : Type 0 where
    pub final : Desk
    pub plays : Playing cap (spell tape) 0 (with_key on w) q a final p
    pub back : v ≡ with_key w.key final

  abbrev pub PlaysUnless : Option ℕ → ℕ → List ℕ → Desk → List Record → Answer → Desk → List Record → Type 0
  PlaysUnless (Some n) cap tape w q a v p = Leaves (faulted n 0 None) a w v q p
  PlaysUnless None cap tape w q a v p = PlayedOn cap tape w q a v p

  abbrev pub Plays : ℕ → List ℕ → Desk → List Record → Answer → Desk → List Record → Type 0
  Plays cap tape w q a v p = PlaysUnless (off_denial w) cap tape w q a v p
