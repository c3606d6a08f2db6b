-- What each kind of bus means, by what it is made of.
use Rattle.std.specs.Prelude.{ℕ, ◌+◌, ◌-◌, ◌*◌, ◌/◌, Bool, true, false, cond, List, [], ◌∷◌, get_or, Some, None, Option, ◌==◌, nat_le, nat_lt, slice_index_or, slice_set}
use Rattle.model.specs.Buses.{Device, Bus}
use Rattle.bus.specs.Devices.{nobody}
use Rattle.bus.specs.declared.usage.Usage.{Usage}
use Rattle.bus.specs.Usages.{unused, once_read, once_written, once_commanded}
use Rattle.buses.specs.declared.drives.Drive.{Drive}

-- A device that answers, with its status, the byte that it offers, whether it requests, and its use.
abbrev pub present : ℕ → ℕ → Bool → Usage → Device
present status offer requests u =
    record { answers = true; status = status; offer = offer; requests = requests; latest = u.latest; command = u.command; reads = u.reads; writes = u.writes; commands = u.commands }

-- The status of a teletype for which the bytes wait.
abbrev pub line_status : List ℕ → ℕ
line_status [] = 8
line_status (b ∷ bs) = 0

-- The byte that it offers.
abbrev pub oldest : List ℕ → ℕ
oldest [] = 0
oldest (b ∷ bs) = b

-- Whether it requests after the command c: when a byte waits and c begins 01.
abbrev pub wants : List ℕ → ℕ → Bool
wants [] c = false
wants (b ∷ bs) c = c / 64 == 1

-- A bus on which device 2 alone answers: a teletype for which the bytes wait.
abbrev pub teletype : List ℕ → Usage → Bus
teletype bytes u = λ n. cond (n == 2) (present (line_status bytes) (oldest bytes) (wants bytes u.command) u) nobody

-- The bytes that wait after a read.
abbrev pub rest : List ℕ → List ℕ
rest [] = []
rest (b ∷ bs) = bs

-- A drive as it is made: at position 0, with no byte of a pair sent.
abbrev pub new_drive : Drive
new_drive = record { usage = unused; position = 0; high = None }

-- The position of a drive after the byte v was written to it, by the high byte of a pair half sent.
abbrev pub moved_to : Option ℕ → ℕ → ℕ → ℕ
moved_to None old v = old
moved_to (Some h) old v = h * 256 + v

-- The high byte of a pair half sent after that.
abbrev pub half_sent : Option ℕ → ℕ → Option ℕ
half_sent None v = Some v
half_sent (Some h) v = None

-- A drive that was read.
abbrev pub drive_read : Drive → Drive
drive_read d = record { usage = once_read d.usage; position = d.position; high = d.high }

-- A drive that was written the byte v.
abbrev pub drive_written : ℕ → Drive → Drive
drive_written v d = record { usage = once_written v d.usage; position = moved_to d.high d.position v; high = half_sent d.high v }

-- A drive that was given the command v.
abbrev pub drive_commanded : ℕ → Drive → Drive
drive_commanded v d = record { usage = once_commanded v d.usage; position = d.position; high = d.high }

-- Whether a device number is that of a drive.
abbrev pub is_drive : ℕ → Bool
is_drive n = cond (nat_le 16 n) (nat_lt n 24) false

-- What a drive shows: status 0, the high byte of its position, no request.
abbrev pub drive_shown : Drive → Device
drive_shown d = present 0 (d.position / 256) false d.usage

-- A bus on which the devices 16 to 23 answer: the drives, in this order.
abbrev pub drive_bus : List Drive → Bus
drive_bus drives = λ n. cond (is_drive n) (drive_shown (slice_index_or drives (n - 16) new_drive)) nobody

-- The position of the device n, if it is a drive.
abbrev pub position_of : List Drive → ℕ → Option ℕ
position_of drives n = cond (is_drive n) (Some (get_or drives (n - 16) new_drive).position) None

-- The drives with that of the device n changed by f.
abbrev pub drive_changed : (Drive → Drive) → List Drive → ℕ → List Drive
drive_changed f drives n = slice_set drives (n - 16) (f (slice_index_or drives (n - 16) new_drive))
