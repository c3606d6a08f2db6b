use Rattle.std.proofs.Common.{◌≡◌, ◌+◌, map, take, length}
use Rattle.std.specs.List.{range_with_len}
use Rattle.outcome.specs.Peripherals.{drive_of}
use Rattle.outcome.proofs.peripherals.all_drives.Given as goal

-- the drives so far are shown
abbrev pub invariant-loop-number : goal.invariant-loop-number
invariant-loop-number l =
    (length l.shown ≡ 8)
    × (take l.number l.shown ≡ map (λ number. drive_of l.drives.drives (16 + number)) (range_with_len 0 l.number))
