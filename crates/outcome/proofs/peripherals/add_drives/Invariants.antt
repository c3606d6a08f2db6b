use Rattle.std.proofs.Common.{◌≡◌, ◌++◌, take, vec_items}
use Rattle.outcome.specs.PeripheralTexts.{drives_text}
use Rattle.outcome.proofs.peripherals.add_drives.Given as goal

-- the text has the drives so far
abbrev pub invariant-loop-drive : goal.invariant-loop-drive
invariant-loop-drive l = vec_items l.text ≡ vec_items l.initial.text ++ drives_text (take l.drive-index l.drives)
