use Rattle.std.proofs.Common.{◌≡◌, ℕ, List, ◌++◌, take, drop, replicate, ap, ap₂, ◌∙◌, subst}
use Rattle.queue.specs.Rows.{queued, capacity}
use Rattle.outcome.specs.declared.peripherals.Devices.{Devices}
use Rattle.outcome.specs.Outcomes.{left_by, PlaysOn, new_devices}
use Rattle.outcome.specs.PeripheralTexts.{device_line_text}
use Rattle.outcome.specs.Trials.{key_limit}
use Rattle.outcome.proofs.Lines.{plays_anew, keys_named}
use Rattle.outcome.proofs.trials.devices_line.Goals as goal

pub returns : goal.returns
returns c =
    let before = c.new-trace.result in
    let words = c.deref_mut.result.now in
    let zero : words ≡ replicate 32_768 0 = c.deref_mut.ensures.value ∙ c.in_ok-words.ensures.items_if_clones_equal (λ y e. e) in
    let played = c.play_devices-played.ensures.plays in
    let devices = c.play_devices-played.result.devices in
    let left = left_by c.play_devices-played.result.outcome c.play_devices-played.new.trace in
    let keys : queued c.queue_of-waiting.result ≡ take key_limit c.args.keys.now = c.queue_of-waiting.ensures ∙ ap (λ (n : ℕ). take n c.args.keys.now) keys_named in
    record {
      left = left;
      bus = played.bus;
      devices = devices;
      waiting = queued c.play_devices-played.result.keys;
      reads = played.teletype_after.reads;
      plays =
          plays_anew (new_devices (take key_limit c.args.keys.now)) played.bus c.args.tape.now words (queued before) (capacity before) left zero c.new-trace.ensures.empty c.new-trace.ensures.room
          (subst (λ (l : List ℕ). PlaysOn (new_devices l) (capacity before) c.args.tape.now words (queued before) left played.bus) keys played.plays);
      shows = played.devices;
      count = ap (λ (d : Devices). d.teletype.reads) played.devices.shows ∙ played.teletype_after.count;
      bytes = played.teletype_after.bytes ∙ ap (drop played.teletype_after.reads) keys;
      drives_after = played.drives_after;
      text =
          c.in_ok-add_device_line.ensures
          ∙ ap₂ (λ (l : List ℕ) (digest : ℕ). l ++ device_line_text left.ending left.shown left.trace digest devices) c.new-line.ensures.items c.store_digest-digest.ensures;
    }
