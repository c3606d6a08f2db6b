-- A tape played on a new machine, the line that it leaves, and what the lent memory holds afterwards.
use Rattle.std.specs.Prelude.{◌≡◌, ℕ, ◌≤◌, List, [], ◌++◌, length, take, drop, replicate}
use Rattle.model.specs.declared.Record.{Record}
use Rattle.model.specs.Stores.{Store, store_limit}
use Rattle.model.specs.Answers.{Answer}
use Rattle.model.specs.Console.{Desk, made}
use Rattle.model.specs.Tapes.{Plays}
use Rattle.store.specs.Boards.{core_boards}
use Rattle.bus.specs.Devices.{silent}
use Rattle.instructions.specs.Instructions.{instruction}
use Rattle.session.specs.Lines.{line_of}

-- The tape is played on a new machine over core boards of the words and a silent bus, with a trace of capacity cap: what it answers,
-- the machine after it, and the records of the trace before and after.
abbrev pub PlaysNew : ℕ → List ℕ → List ℕ → List Record → Answer → Desk → List Record → Type 0
PlaysNew cap tape words before answer after trace = Plays instruction cap tape (made (core_boards words) silent) before answer after trace

-- The tape is played so with an empty trace; the line shows the PSW after it.
pub record PlaysToLine (cap : ℕ) (tape words line : List ℕ) (after : Desk) (trace : List Record) : Type 0 where
  pub answer : Answer
  pub plays : PlaysNew cap tape words [] answer after trace
  pub shows : line ≡ line_of after.core.location after.core.status

-- The words are those of the store m of core boards: each place of it has its word, and no word is past the limit.
pub record AreWordsOf (m : Store) (words : List ℕ) : Type 0 where
  pub store : core_boards words ≡ m
  pub size : length words ≤ store_limit

-- A tape that is played so over slots: the line that it leaves, the words of the store after it, and what the slots then hold, which is
-- the records of the trace, and behind them what they held.
pub record Played (tape words : List ℕ) (slots : List Record) (line left_words : List ℕ) (left_slots : List Record) : Type 0 where
  pub after : Desk
  pub trace : List Record
  pub plays : PlaysToLine (length slots) tape words line after trace
  pub words_left : AreWordsOf after.core.store left_words
  pub slots_left : left_slots ≡ trace ++ drop (length trace) slots

-- How much of an input is its tape, and over what it is played: 65,536 bytes, a store of 32,768 halfwords, a trace of 64 records.
unfoldable pub tape_bytes : ℕ
tape_bytes = 65_536

unfoldable pub store_halfwords : ℕ
store_halfwords = 32_768

unfoldable pub trace_records : ℕ
trace_records = 64

-- The line that an input leaves: its first bytes are the tape, and every word is 0.
pub record InputLeaves (input line : List ℕ) : Type 0 where
  pub after : Desk
  pub trace : List Record
  pub plays : PlaysToLine trace_records (take tape_bytes input) (replicate store_halfwords 0) line after trace
