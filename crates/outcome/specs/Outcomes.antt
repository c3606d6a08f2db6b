-- A tape played on a new machine, and what it leaves.
use Rattle.std.specs.Prelude.{◌≡◌, ℕ, List, replicate, Result}
use Rattle.queue.specs.declared.Queue.{Queue}
use Rattle.queue.specs.Rows.{queued, capacity}
use Rattle.model.specs.declared.Record.{Record}
use Rattle.model.specs.Buses.{Bus}
use Rattle.model.specs.Console.{Desk, made}
use Rattle.model.specs.Tapes.{Plays}
use Rattle.store.specs.Boards.{core_boards}
use Rattle.bus.specs.Devices.{silent}
use Rattle.joined.specs.Parts.{joined}
use Rattle.bus.specs.Usages.{unused}
use Rattle.buses.specs.Devices.{new_drive, teletype, drive_bus}
use Rattle.buses.specs.Touches.{TeletypeAfter, DrivesAfter}
use Rattle.instructions.specs.Instructions.{instruction}
use Rattle.tape.specs.declared.orders.TapeFault.{TapeFault}
use Rattle.console.specs.Tape.{played_by}
use Rattle.session.specs.Sessions.{AreWordsOf}
use Rattle.outcome.specs.declared.shown.Shown.{Shown}
use Rattle.outcome.specs.declared.played.Outcome.{Outcome}
use Rattle.outcome.specs.declared.played.DevicesOutcome.{DevicesOutcome}
use Rattle.outcome.specs.Peripherals.{DevicesShown}
use Rattle.outcome.specs.Shown.{Shows}

-- What a tape leaves: how it ended, what the console then shows, the words of the store and the records of the trace.
pub record Left : Type 0 where
  pub ending : Result ℕ TapeFault
  pub shown : Shown
  pub words : List ℕ
  pub trace : List Record

-- What an outcome and the trace u beside it show.
abbrev pub left_by : Outcome → Queue Record → Left
left_by outcome u = record { ending = outcome.ending; shown = outcome.shown; words = outcome.words.now; trace = queued u }

-- The tape is played on a new machine over core boards of the words and the bus b, with a trace of capacity cap that holds the records
-- before; it leaves this, and the bus c.
pub record PlaysOn (b : Bus) (cap : ℕ) (tape words : List ℕ) (before : List Record) (left : Left) (c : Bus) : Type 0 where
  pub after : Desk
  pub plays : Plays instruction cap tape (made (core_boards words) b) before (played_by left.ending) after left.trace
  pub shows : Shows left.shown after.core
  pub store : AreWordsOf after.core.store left.words
  pub bus : after.core.bus ≡ c

-- The same over a silent bus; the tape turns the trace t into u.
abbrev pub PlaysTo : List ℕ → List ℕ → Queue Record → Outcome → Queue Record → Type 0
PlaysTo tape words t outcome u = PlaysOn silent (capacity t) tape words (queued t) (left_by outcome u) silent

-- A teletype for which the keys wait, joined with eight drives, as they are made.
abbrev pub new_devices : List ℕ → Bus
new_devices keys = joined (teletype keys unused) (drive_bus (replicate 8 new_drive))

-- The same over these devices, of which then this is shown, and for which these bytes wait: those that reads left of the queue of the
-- keys. The drives stand where the bytes written to them moved them.
pub record PlaysOver (tape words : List ℕ) (keys : Queue ℕ) (t : Queue Record) (outcome : DevicesOutcome) (u : Queue Record) : Type 0 where
  pub bus : Bus
  pub plays : PlaysOn (new_devices (queued keys)) (capacity t) tape words (queued t) (left_by outcome.outcome u) bus
  pub devices : DevicesShown outcome.devices (queued outcome.keys) bus
  pub teletype_after : TeletypeAfter keys (record { waiting = outcome.keys; usage = devices.usage })
  pub drives_after : DrivesAfter devices.drives
