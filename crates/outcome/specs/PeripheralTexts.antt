-- The fields of a line that the devices fill.
use Rattle.std.specs.Prelude.{ℕ, List, ◌∷◌, ◌++◌, [], Result}
use Rattle.std.specs.List.{flat_map}
use Rattle.model.specs.declared.Record.{Record}
use Rattle.tape.specs.declared.orders.TapeFault.{TapeFault}
use Rattle.bus.specs.declared.usage.Usage.{Usage}
use Rattle.outcome.specs.declared.shown.Shown.{Shown}
use Rattle.outcome.specs.declared.peripherals.DriveShown.{DriveShown}
use Rattle.outcome.specs.declared.peripherals.Devices.{Devices}
use Rattle.outcome.specs.Texts.{hex, fields_text}

-- The use of a device: the latest data and command, the reads, writes and commands.
abbrev pub usage_text : Usage → List ℕ
usage_text u = hex 2 u.latest ++ (hex 2 u.command ++ (hex 8 u.reads ++ (hex 8 u.writes ++ hex 8 u.commands)))

-- The use of a drive, and its position.
abbrev pub drive_text : DriveShown → List ℕ
drive_text d = usage_text d.usage ++ hex 4 d.position

-- Drives, one after the other.
abbrev pub drives_text : List DriveShown → List ℕ
drives_text = flat_map drive_text

-- The use of the teletype and the number of bytes that wait, then the drives, a space before each.
abbrev pub devices_text : Devices → List ℕ
devices_text d = (32 ∷ (usage_text d.teletype ++ hex 4 d.waiting)) ++ (32 ∷ drives_text d.drives)

-- The line of an outcome over devices.
abbrev pub device_line_text : Result ℕ TapeFault → Shown → List Record → ℕ → Devices → List ℕ
device_line_text ending s trace digest d = fields_text ending s trace digest ++ (devices_text d ++ (10 ∷ []))
