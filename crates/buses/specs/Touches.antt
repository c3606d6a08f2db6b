-- What a teletype and drives may become when they are touched, once and any number of times.
use Rattle.std.specs.Prelude.{◌≡◌, ℕ, ◌+◌, ◌*◌, ◌%◌, ◌^◌, ◌<◌, true, List, [], ◌∷◌, length, drop, Some, None, Option, IfSome}
use Rattle.std.specs.List.{All}
use Rattle.queue.specs.declared.Queue.{Queue}
use Rattle.queue.specs.Rows.{queued, SameSlots}
use Rattle.bus.specs.Usages.{once_read, once_written, once_commanded}
use Rattle.buses.specs.Devices.{rest, drive_read, drive_written, drive_commanded, is_drive, drive_changed}
use Rattle.buses.specs.declared.teletype.Teletype.{Teletype}
use Rattle.buses.specs.declared.drives.Drive.{Drive}
use Rattle.buses.specs.declared.drives.Drives.{Drives}

-- ── One touch ──
-- A teletype that was read: the oldest byte is gone, and the read is counted; the slots hold what they held.
pub record TeletypeRead (old new : Teletype) : Type 0 where
  pub bytes : queued new.waiting ≡ rest (queued old.waiting)
  pub counted : new.usage ≡ once_read old.usage
  pub same : SameSlots old.waiting new.waiting
  pub slots : new.waiting.slots.now ≡ old.waiting.slots.now

-- One that was read, written or commanded; a write and a command leave the bytes that wait.
pub data TeletypeTouched (old new : Teletype) : Type 0 where
  by_read : TeletypeRead old new → TeletypeTouched old new
  by_write : (v : ℕ) → new ≡ record old { usage = once_written v old.usage } → TeletypeTouched old new
  by_command : (v : ℕ) → new ≡ record old { usage = once_commanded v old.usage } → TeletypeTouched old new

-- Drives of which one, the device n, was read, written or commanded.
pub data DrivesTouched (old new : Drives) : Type 0 where
  one_read : (n : ℕ) → is_drive n ≡ true → new.drives ≡ drive_changed drive_read old.drives n → DrivesTouched old new
  one_written : (n v : ℕ) → is_drive n ≡ true → v < 256 → new.drives ≡ drive_changed (drive_written v) old.drives n → DrivesTouched old new
  one_commanded : (n v : ℕ) → is_drive n ≡ true → new.drives ≡ drive_changed (drive_commanded v) old.drives n → DrivesTouched old new

-- ── Any number of touches ──
-- A teletype that was made over the queue of the keys, however it was touched since: the oldest bytes are gone, one for each read, and
-- the others wait. Reads are counted modulo 2^32. It lies over the slots of the keys, and they hold what they held.
pub record TeletypeAfter (keys : Queue ℕ) (t : Teletype) : Type 0 where
  pub reads : ℕ
  pub count : t.usage.reads ≡ reads % 2 ^ 32
  pub bytes : queued t.waiting ≡ drop reads (queued keys)
  pub same : SameSlots keys t.waiting
  pub slots : t.waiting.slots.now ≡ keys.slots.now

-- The position of a drive by the pairs of bytes written to it, each the high byte and the low one, the newest pair first.
abbrev pub position_set : List (ℕ × ℕ) → ℕ
position_set [] = 0
position_set (pair ∷ before) = pair.0 * 256 + pair.1

-- The latest byte written to it, by the high byte of a pair half sent and the whole pairs before it; 0 for none.
abbrev pub latest_sent : Option ℕ → List (ℕ × ℕ) → ℕ
latest_sent (Some high) pairs = high
latest_sent None [] = 0
latest_sent None (pair ∷ before) = pair.1

-- How many bytes were written to it.
abbrev pub bytes_sent : Option ℕ → List (ℕ × ℕ) → ℕ
bytes_sent (Some high) pairs = length pairs * 2 + 1
bytes_sent None pairs = length pairs * 2

-- A drive that was new, however it was touched since: the bytes written to it are whole pairs and the high byte of a pair half sent, if
-- there is one. Its position is that of the newest whole pair. Writes are counted modulo 2^32.
pub record DriveAfter (d : Drive) : Type 0 where
  pub pairs : List (ℕ × ℕ)
  pub bytes : All (λ pair. (pair.0 < 256) × (pair.1 < 256)) pairs
  pub half : IfSome d.high (λ high. high < 256)
  pub position : d.position ≡ position_set pairs
  pub latest : d.usage.latest ≡ latest_sent d.high pairs
  pub count : d.usage.writes ≡ bytes_sent d.high pairs % 2 ^ 32

-- The eight of them.
pub record DrivesAfter (drives : List Drive) : Type 0 where
  pub size : length drives ≡ 8
  pub each : All DriveAfter drives
