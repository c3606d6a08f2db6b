-- The trials that are read one after the other from an input: how each is written, and the line that it leaves.
use Rattle.std.specs.Prelude.{◌≡◌, ℕ, ◌<◌, ◌%◌, ◌^◌, List, [], ◌∷◌, ◌++◌, length, take, drop, replicate}
use Rattle.std.specs.Int.{to_be_bytes, w32}
use Rattle.model.specs.Buses.{Bus}
use Rattle.bus.specs.Devices.{silent}
use Rattle.buses.specs.Touches.{DrivesAfter}
use Rattle.session.specs.Sessions.{store_halfwords, trace_records}
use Rattle.outcome.specs.declared.peripherals.Devices.{Devices}
use Rattle.outcome.specs.declared.trials.Trial.{Trial}
use Rattle.outcome.specs.declared.trials.Trial.TheVariants.{Silent, OverDevices}
use Rattle.outcome.specs.Digests.{digest_from, start}
use Rattle.outcome.specs.Outcomes.{Left, PlaysOn, new_devices}
use Rattle.outcome.specs.Peripherals.{DevicesShown}
use Rattle.outcome.specs.Texts.{line_text}
use Rattle.outcome.specs.PeripheralTexts.{device_line_text}

-- ── How a trial is written ──
-- A tape for a silent bus; or the keys that wait for a teletype, and a tape for it and the drives.
pub data Written : Type 0 where
  silent_trial : List ℕ → Written
  devices_trial : List ℕ → List ℕ → Written

-- Bytes whose length 4 bytes hold.
abbrev pub IsShort : List ℕ → Type 0
IsShort bytes = length bytes < 2 ^ 32

-- Bytes behind their length, which has 4 bytes, the more significant first.
abbrev pub behind_length : List ℕ → List ℕ
behind_length bytes = to_be_bytes w32 (length bytes) ++ bytes

-- The input begins with the bytes behind their length; what is after them comes next.
pub record BeginsWithBytes (input bytes after : List ℕ) : Type 0 where
  pub fits : IsShort bytes
  pub written : input ≡ behind_length bytes ++ after

-- It begins with no such bytes: it is at its end, or cut short.
abbrev pub HasNoBytes : List ℕ → Type 0
HasNoBytes input = (bytes after : List ℕ) → ¬ BeginsWithBytes input bytes after

-- The bytes of a trial: S and the tape, or D, the keys and the tape.
abbrev pub bytes_of : Written → List ℕ
bytes_of (silent_trial tape) = 83 ∷ behind_length tape
bytes_of (devices_trial keys tape) = 68 ∷ (behind_length keys ++ behind_length tape)

-- A trial whose lengths 4 bytes hold.
abbrev pub Fits : Written → Type 0
Fits (silent_trial tape) = IsShort tape
Fits (devices_trial keys tape) = IsShort keys × IsShort tape

-- The input begins with the trial; what is after it comes next.
pub record BeginsWithTrial (input : List ℕ) (trial : Written) (after : List ℕ) : Type 0 where
  pub fits : Fits trial
  pub written : input ≡ bytes_of trial ++ after

-- It begins with no whole trial.
abbrev pub HasNoTrial : List ℕ → Type 0
HasNoTrial input = (trial : Written) (after : List ℕ) → ¬ BeginsWithTrial input trial after

-- The trial that was read.
abbrev pub trial_of : Trial → Written
trial_of (Silent tape) = silent_trial tape.now
trial_of (OverDevices keys tape) = devices_trial keys.now tape.now

-- ── The line that a trial leaves ──
-- How many keys wait at most: 64.
unfoldable pub key_limit : ℕ
key_limit = 64

-- The tape is played over a store of words, all 0, a silent bus and an empty trace; the line has what it leaves.
pub record SilentLine (tape line : List ℕ) : Type 0 where
  pub left : Left
  pub plays : PlaysOn silent trace_records tape (replicate store_halfwords 0) [] left silent
  pub text : line ≡ line_text left.ending left.shown left.trace (digest_from start left.words)

-- The same over a teletype, for which the first of the keys wait, and the drives, with what these then show: the oldest keys are gone,
-- one for each read of the teletype, which counts reads modulo 2^32, and the others wait. The drives stand where the bytes written to
-- them moved them.
pub record DevicesLine (keys tape line : List ℕ) : Type 0 where
  pub left : Left
  pub bus : Bus
  pub devices : Devices
  pub waiting : List ℕ
  pub reads : ℕ
  pub plays : PlaysOn (new_devices (take key_limit keys)) trace_records tape (replicate store_halfwords 0) [] left bus
  pub shows : DevicesShown devices waiting bus
  pub count : devices.teletype.reads ≡ reads % 2 ^ 32
  pub bytes : waiting ≡ drop reads (take key_limit keys)
  pub drives_after : DrivesAfter shows.drives
  pub text : line ≡ device_line_text left.ending left.shown left.trace (digest_from start left.words) devices

-- The line of a trial.
abbrev pub LineOf : Written → List ℕ → Type 0
LineOf (silent_trial tape) line = SilentLine tape line
LineOf (devices_trial keys tape) line = DevicesLine keys tape line
