-- The parts of the line of an outcome.
use Rattle.std.specs.Prelude.{◌≡◌, ℕ, List, [], ◌∷◌, ◌++◌, length, Ok, Err, Result, OnOk}
use Rattle.std.specs.Option.{unwrap_or}
use Rattle.std.specs.List.{flat_map}
use Rattle.model.specs.declared.Record.{Record}
use Rattle.model.specs.Answers.{number, cause_number}
use Rattle.tape.specs.declared.orders.TapeFault.{TapeFault}
use Rattle.session.specs.Lines.{digits}
use Rattle.outcome.specs.declared.shown.Shown.{Shown}

-- Unless memory is wanting, the text has so many more characters at its end, and is as before in front of them.
abbrev pub Adds : {X Y : Type 0} → Result X Y → List ℕ → List ℕ → List ℕ → Type 0
Adds r before after more = OnOk r (after ≡ before ++ more)

-- The last digits of a number, so many of them, in hexadecimal.
unfoldable pub hex : ℕ → ℕ → List ℕ
hex places v = digits places v

-- How a tape ended: C and the commands obeyed, or F and the denial, the place and the letter.
abbrev pub ending_text : Result ℕ TapeFault → List ℕ
ending_text (Ok obeyed) = 67 ∷ hex 5 obeyed
ending_text (Err fault) = 70 ∷ (hex 1 (number fault.denial) ++ (hex 5 fault.place ++ hex 2 (unwrap_or fault.letter 0)))

-- Registers, 8 digits for each.
abbrev pub registers_text : List ℕ → List ℕ
registers_text = flat_map (hex 8)

-- A record of the trace: the cause, the status, the Location Counter and the interrupt status.
abbrev pub record_text : Record → List ℕ
record_text r = hex 1 (cause_number r.cause) ++ (hex 8 r.status ++ (hex 5 r.location ++ hex 2 r.faults))

-- The records of a trace.
abbrev pub records_text : List Record → List ℕ
records_text = flat_map record_text

-- The trace: the number of records, then each, the oldest first.
abbrev pub trace_text : List Record → List ℕ
trace_text items = hex 2 (length items) ++ records_text items

-- The fields of a processor, a space before each.
abbrev pub shown_text : Shown → List ℕ
shown_text s =
    (32 ∷ hex 5 s.location)
    ++ ((32 ∷ hex 8 s.status)
    ++ ((32 ∷ registers_text s.lower)
    ++ ((32 ∷ registers_text s.upper)
    ++ ((32 ∷ registers_text s.segments)
    ++ (32 ∷ hex 2 s.interrupt_status)))))

-- The fields of the line of an outcome.
abbrev pub fields_text : Result ℕ TapeFault → Shown → List Record → ℕ → List ℕ
fields_text ending s trace digest = ending_text ending ++ (shown_text s ++ ((32 ∷ trace_text trace) ++ (32 ∷ hex 16 digest)))

-- The line of an outcome.
abbrev pub line_text : Result ℕ TapeFault → Shown → List Record → ℕ → List ℕ
line_text ending s trace digest = fields_text ending s trace digest ++ (10 ∷ [])
