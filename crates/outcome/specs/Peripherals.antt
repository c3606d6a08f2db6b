-- What a teletype and the drives show.
use Rattle.std.specs.Prelude.{◌≡◌, ℕ, ◌+◌, List, length, map}
use Rattle.std.specs.List.{range_with_len}
use Rattle.std.specs.Option.{unwrap_or}
use Rattle.model.specs.Buses.{Bus}
use Rattle.joined.specs.Parts.{joined}
use Rattle.buses.specs.declared.drives.Drive.{Drive}
use Rattle.bus.specs.declared.usage.Usage.{Usage}
use Rattle.bus.specs.Usages.{usage_in}
use Rattle.buses.specs.Devices.{teletype, drive_bus, position_of}
use Rattle.outcome.specs.declared.peripherals.DriveShown.{DriveShown}
use Rattle.outcome.specs.declared.peripherals.Devices.{Devices}

-- The use and the position of the device n.
abbrev pub drive_of : List Drive → ℕ → DriveShown
drive_of drives n = record { usage = usage_in (drive_bus drives n); position = unwrap_or (position_of drives n) 0 }

-- The same of the devices 16 to 23.
abbrev pub all_drives : List Drive → List DriveShown
all_drives drives = map (λ number. drive_of drives (16 + number)) (range_with_len 0 8)

-- What is shown of a teletype that was used so, for which the bytes wait, and of drives.
abbrev pub shown_of : List ℕ → Usage → List Drive → Devices
shown_of bytes usage drives = record { teletype = usage; waiting = length bytes; drives = all_drives drives }

-- The bus b is a teletype, for which the bytes wait, and drives, and this is shown of them.
pub record DevicesShown (shown : Devices) (bytes : List ℕ) (b : Bus) : Type 0 where
  pub usage : Usage
  pub drives : List Drive
  pub bus : b ≡ joined (teletype bytes usage) (drive_bus drives)
  pub shows : shown ≡ shown_of bytes usage drives
