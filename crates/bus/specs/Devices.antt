-- What each kind of bus means, by what it is made of.
use Rattle.std.specs.Prelude.{◌≡◌, ℕ, false}
use Rattle.model.specs.Buses.{Device, Bus, changed, was_read, was_written, was_commanded}

-- A device that is not there.
abbrev pub nobody : Device
nobody = record { answers = false; status = 0; offer = 0; requests = false; latest = 0; command = 0; reads = 0; writes = 0; commands = 0 }

-- A bus on which no device answers.
abbrev pub silent : Bus
silent = λ n. nobody

-- What a read of the device n makes of a bus: only the device changes, and its reads are counted.
abbrev pub Reads : ℕ → Bus → Bus → Type 0
Reads n old new = new ≡ changed old n (was_read (new n) (old n))

-- The same of a write of the byte v to it, and of the command v.
abbrev pub Writes : ℕ → ℕ → Bus → Bus → Type 0
Writes n v old new = new ≡ changed old n (was_written v (new n) (old n))

abbrev pub Commands : ℕ → ℕ → Bus → Bus → Type 0
Commands n v old new = new ≡ changed old n (was_commanded v (new n) (old n))
