use Rattle.std.proofs.Common.{rules, ◌≡◌, ℕ, ◌+◌, ◌<◌, length, map, take, set, sym, subst, arith}
use Rattle.std.specs.List.{range_with_len}
use Rattle.outcome.specs.Peripherals.{drive_of}
use Rattle.outcome.specs.declared.peripherals.DriveShown.{DriveShown}
use Rattle.outcome.proofs.Banks.{one_more}
use Rattle.outcome.proofs.peripherals.all_drives.Goals as goal

pub loop-number-preserved : goal.loop-number-preserved
loop-number-preserved c =
    let shown = c.loop-number.shown in
    let k = c.loop-number.number in
    let v = c.drive_of.result in
    let f : ℕ → DriveShown = λ number. drive_of c.args.drives.now.drives (16 + number) in
    let full : length shown ≡ 8 = c.loop-number.invariant.0 in
    let at : c.from.result ≡ k = search rules in
    let below : k < 8 = omega arith in
    let less : k < length shown = omega (arith, below, full) in (
      search (rules, full),
      subst (λ (i : ℕ). take (k + 1) (set shown i v) ≡ map f (range_with_len 0 (k + 1))) (sym at) (one_more f shown k v less c.loop-number.invariant.1 c.drive_of.ensures),
    )
