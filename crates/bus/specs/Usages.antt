-- How a device was used.
use Rattle.std.specs.Prelude.{ℕ}
use Rattle.model.specs.Buses.{Device, counted}
use Rattle.bus.specs.declared.usage.Usage.{Usage}

-- A device that was not used yet.
abbrev pub unused : Usage
unused = record { latest = 0; command = 0; reads = 0; writes = 0; commands = 0 }

-- One more read.
abbrev pub once_read : Usage → Usage
once_read u = record u { reads = counted u.reads }

-- One more write, of the byte v.
abbrev pub once_written : ℕ → Usage → Usage
once_written v u = record u { latest = v; writes = counted u.writes }

-- One more command, the byte v.
abbrev pub once_commanded : ℕ → Usage → Usage
once_commanded v u = record u { command = v; commands = counted u.commands }

-- The use of a device, of all that it means.
abbrev pub usage_in : Device → Usage
usage_in d = record { latest = d.latest; command = d.command; reads = d.reads; writes = d.writes; commands = d.commands }
