use Rattle.std.proofs.Common.{◌≡◌, ℕ, sym, ap, ap₂, ◌∙◌, subst}
use Rattle.queue.specs.declared.Queue.{Queue}
use Rattle.queue.specs.Rows.{queued, capacity}
use Rattle.model.specs.Buses.{Bus}
use Rattle.bus.specs.Usages.{unused}
use Rattle.joined.specs.Parts.{joined}
use Rattle.joined.proofs.Touches.{each_touched}
use Rattle.buses.specs.Devices.{teletype, drive_bus}
use Rattle.buses.specs.Touches.{TeletypeAfter}
use Rattle.buses.specs.declared.teletype.Teletype.{Teletype}
use Rattle.buses.specs.declared.drives.Drives.{Drives}
use Rattle.buses.proofs.Touches.{teletype_after, drives_after}
use Rattle.outcome.specs.Outcomes.{PlaysOn, left_by, new_devices}
use Rattle.outcome.specs.declared.played.Outcome.{Outcome}
use Rattle.outcome.specs.Peripherals.{shown_of}
use Rattle.outcome.proofs.played.play_devices.Goals as goal

pub returns-clause-plays : goal.returns-clause-plays
returns-clause-plays c =
    let made = c.new-bus.result in
    let left = c.play_over-outcome.result.1 in
    let outcome = left_by c.play_over-outcome.result.0 c.play_over-outcome.new.trace in
    let waits : made.first.waiting ≡ c.args.keys = ap (λ (t : Teletype). t.waiting) c.new-bus.ensures.before ∙ c.new.ensures.holds in
    let fresh : made.first.usage ≡ unused = ap (λ (t : Teletype). t.usage) c.new-bus.ensures.before ∙ c.new.ensures.fresh in
    let drives = ap (λ (d : Drives). d.drives) c.new-bus.ensures.after ∙ c.new-2.ensures in
    let shown = c.with_devices.ensures in
    let back : c.with_devices.result.keys ≡ left.first.waiting = shown.keys in
    let touched = each_touched c.play_over-outcome.ensures.touches in
    let at_start = ap₂ joined (ap₂ teletype (ap queued waits) fresh) (ap drive_bus drives) in
    let at_end = joined (teletype (queued left.first.waiting) left.first.usage) (drive_bus left.second.drives) in
    record {
      bus = at_end;
      plays =
          subst (λ (o : Outcome). PlaysOn (new_devices (queued c.args.keys)) (capacity c.args.trace.now) c.args.tape.now c.args.words.now (queued c.args.trace.now) (left_by o c.play_over-outcome.new.trace) at_end) (sym shown.outcome)
          (subst (λ (b : Bus). PlaysOn b (capacity c.args.trace.now) c.args.tape.now c.args.words.now (queued c.args.trace.now) outcome at_end) at_start
          c.play_over-outcome.ensures.plays);
      devices =
          record {
            usage = left.first.usage;
            drives = left.second.drives;
            bus = ap (λ (q : Queue ℕ). joined (teletype (queued q) left.first.usage) (drive_bus left.second.drives)) (sym back);
            shows = shown.devices ∙ ap (λ (q : Queue ℕ). shown_of (queued q) left.first.usage left.second.drives) (sym back);
          };
      teletype_after =
          subst (λ (q : Queue ℕ). TeletypeAfter c.args.keys (record { waiting = q; usage = left.first.usage })) (sym back)
          (teletype_after c.args.keys made.first left.first waits fresh touched.0);
      drives_after = drives_after made.second left.second drives touched.1;
    }
