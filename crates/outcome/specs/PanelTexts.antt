-- The page that a person reads of a tape that was played.
use Rattle.std.specs.Prelude.{◌≡◌, ℕ, zero, suc, ◌+◌, ◌-◌, ◌*◌, ◌/◌, false, not, cond, List, [], ◌∷◌, ◌++◌, length, take, drop, replicate, Some, None, Option, Ok, Err, Result, ◌==◌, nat_le, codes}
use Rattle.std.specs.List.{flat_map, list_any, enumerate_from}
use Rattle.std.specs.Fmt.{decimal}
use Rattle.model.specs.declared.Cause.{Cause}
use Rattle.model.specs.declared.Denial.{Denial}
use Rattle.model.specs.declared.Record.{Record}
use Rattle.model.specs.Answers.{number}
use Rattle.model.specs.Words.{denial_words, cause_words}
use Rattle.bus.specs.Devices.{silent}
use Rattle.tape.specs.declared.orders.TapeFault.{TapeFault}
use Rattle.session.specs.Sessions.{tape_bytes, store_halfwords, trace_records}
use Rattle.outcome.specs.declared.panel.Phrase.{Phrase}
use Rattle.outcome.specs.declared.panel.Phrase.TheVariants.{FaultAt, LetterThere, NoLetter, Hexadecimal, DenialNumber, Meaning, Obeyed, Psw, Location, LowerSet, UpperSet, Segments, InterruptStatus, Interrupts, Saved, Faults, Because, Store}
use Rattle.outcome.specs.declared.shown.Shown.{Shown}
use Rattle.outcome.specs.Outcomes.{Left, PlaysOn}
use Rattle.outcome.specs.Texts.{hex}

-- The fixed words of the page.
unfoldable pub words_of : Phrase → List ℕ
words_of FaultAt = codes "Fault at byte "
words_of LetterThere = codes ", letter "
words_of NoLetter = codes ", no letter"
words_of Hexadecimal = codes "X'"
words_of DenialNumber = codes "Denial "
words_of Meaning = codes ": "
words_of Obeyed = codes "Commands obeyed: "
words_of Psw = codes "PSW: status "
words_of Location = codes ", location "
words_of LowerSet = codes "Register set 0"
words_of UpperSet = codes "Register set 15"
words_of Segments = codes "Segmentation registers"
words_of InterruptStatus = codes "Interrupt status: "
words_of Interrupts = codes "Interrupts: "
words_of Saved = codes ": status "
words_of Faults = codes ", interrupt status "
words_of Because = codes ", "
words_of Store = codes "Store, where it is not zero\n"

abbrev pub newline : List ℕ
newline = 10 ∷ []

-- A number in decimal, behind spaces where it has fewer than five digits.
unfoldable pub column : ℕ → List ℕ
column n = replicate (5 - length (decimal n)) 32 ++ decimal n

-- The letter of a fault: itself where it is a character from ! to ~, else its two hexadecimal digits.
unfoldable pub letter_words : Option ℕ → List ℕ
letter_words None = words_of NoLetter
letter_words (Some letter) = words_of LetterThere ++ cond (cond (nat_le 33 letter) (nat_le letter 126) false) (letter ∷ []) (words_of Hexadecimal ++ (hex 2 letter ++ (39 ∷ [])))

-- A denial, by its number and in words.
unfoldable pub denial_line : Denial → List ℕ
denial_line denial = words_of DenialNumber ++ (decimal (number denial) ++ (words_of Meaning ++ (denial_words denial ++ newline)))

-- Where a fault is, and the letter there.
unfoldable pub place_line : ℕ → Option ℕ → List ℕ
place_line place letter = words_of FaultAt ++ (decimal place ++ (letter_words letter ++ newline))

-- The two lines of a fault.
abbrev pub fault_lines : TapeFault → List ℕ
fault_lines fault = place_line fault.place fault.letter ++ denial_line fault.denial

-- How a tape ended.
abbrev pub ending_lines : Result ℕ TapeFault → List ℕ
ending_lines (Ok obeyed) = words_of Obeyed ++ (decimal obeyed ++ newline)
ending_lines (Err fault) = fault_lines fault

-- Numbers in so many hexadecimal digits, a space before each.
abbrev pub spaced : ℕ → List ℕ → List ℕ
spaced places = flat_map (λ n. 32 ∷ hex places n)

-- A line of registers, behind the number of the first.
unfoldable pub register_row : ℕ → List ℕ → List ℕ
register_row first registers = column first ++ (58 ∷ (spaced 8 registers ++ newline))

-- Sixteen registers under a title, eight to a line.
unfoldable pub registers_lines : Phrase → List ℕ → List ℕ
registers_lines title registers = words_of title ++ (newline ++ (register_row 0 (take 8 registers) ++ register_row 8 (drop 8 registers)))

-- The line of the PSW.
unfoldable pub psw_line : Shown → List ℕ
psw_line s = (words_of Psw ++ hex 8 s.status) ++ ((words_of Location ++ hex 5 s.location) ++ newline)

-- The line of the interrupt status.
unfoldable pub interrupt_status_line : ℕ → List ℕ
interrupt_status_line faults = (words_of InterruptStatus ++ hex 8 faults) ++ newline

-- What the console shows of the processor.
unfoldable pub processor_lines : Shown → List ℕ
processor_lines s =
    psw_line s
    ++ (registers_lines LowerSet s.lower
    ++ (registers_lines UpperSet s.upper
    ++ (registers_lines Segments s.segments
    ++ interrupt_status_line s.interrupt_status)))

-- What an interrupt saved, and the interrupt status.
unfoldable pub saved_words : Record → List ℕ
saved_words r = (words_of Saved ++ hex 8 r.status) ++ ((words_of Location ++ hex 5 r.location) ++ (words_of Faults ++ hex 2 r.faults))

-- The cause of an interrupt, and the end of the line.
unfoldable pub cause_end : Cause → List ℕ
cause_end cause = words_of Because ++ (cause_words cause ++ newline)

-- A record of the trace, behind its number.
unfoldable pub record_line : ℕ → Record → List ℕ
record_line n r = column n ++ (saved_words r ++ cause_end r.cause)

-- Records, each behind its number.
abbrev pub records_lines : List (ℕ × Record) → List ℕ
records_lines = flat_map (λ r. record_line r.0 r.1)

-- The trace: how many records it has, then each, the oldest first.
abbrev pub trace_lines : List Record → List ℕ
trace_lines items = (words_of Interrupts ++ (decimal (length items) ++ newline)) ++ records_lines (enumerate_from 0 items)

-- Row k of a store: eight halfwords, or those that are left.
abbrev pub store_row : List ℕ → ℕ → List ℕ
store_row words k = take 8 (drop (8 * k) words)

-- A row behind the address of its first halfword; nothing where all are zero.
unfoldable pub row_line : ℕ → List ℕ → List ℕ
row_line address row = cond (list_any (λ w. not (w == 0)) row) (hex 5 address ++ (58 ∷ (spaced 4 row ++ newline))) []

-- The first n rows of a store.
abbrev pub rows_lines : List ℕ → ℕ → List ℕ
rows_lines words zero = []
rows_lines words (suc k) = rows_lines words k ++ row_line (16 * k) (store_row words k)

-- The rows of a store that are not zero.
abbrev pub store_lines : List ℕ → List ℕ
store_lines words = words_of Store ++ rows_lines words ((length words + 7) / 8)

-- The page of a tape that was played.
abbrev pub page_text : Result ℕ TapeFault → Shown → List Record → List ℕ → List ℕ
page_text ending s trace words = ending_lines ending ++ (processor_lines s ++ (trace_lines trace ++ store_lines words))

-- The page of an input: its first bytes are played over a store of words, all 0, a silent bus and an empty trace, and the page has what
-- this leaves.
pub record PageOf (input page : List ℕ) : Type 0 where
  pub left : Left
  pub plays : PlaysOn silent trace_records (take tape_bytes input) (replicate store_halfwords 0) [] left silent
  pub text : page ≡ page_text left.ending left.shown left.trace left.words
