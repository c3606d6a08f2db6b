use Rattle.std.proofs.Common.{rules, ◌≡◌, ℕ, List, ◌++◌, length, drop, ap, ◌∙◌, subst}
use Rattle.queue.specs.Rows.{queued}
use Rattle.queue.proofs.Extensions.{slots_extended}
use Rattle.model.specs.declared.Record.{Record}
use Rattle.model.specs.Stores.{Store}
use Rattle.model.specs.Console.{Desk, made}
use Rattle.model.specs.Tapes.{Plays}
use Rattle.store.specs.Boards.{core_boards}
use Rattle.bus.specs.Devices.{silent}
use Rattle.instructions.specs.Instructions.{instruction}
use Rattle.console.specs.Keys.{number_of}
use Rattle.console.specs.View.{desk_of}
use Rattle.console.specs.Tape.{played_by}
use Rattle.session.proofs.session.play_to_line.Goals as goal

pub returns : goal.returns
returns c =
    let tape = c.args.tape.now in
    let a = played_by c.play.result in
    let v = desk_of (λ s. core_boards s.words.now) (λ b. silent) c.play.new.self in
    let p = queued c.play.new.trace in
    let w = desk_of (λ s. core_boards s.words.now) (λ b. silent) c.make-machine.result in
    let q = queued c.new-trace.result in
    let fresh = made (core_boards c.args.words.now) silent in
    let new : w ≡ fresh = c.make-machine.ensures.desk ∙ ap (λ (m : Store). made m silent) c.new.ensures.means in
    let pinned : c.play.new.trace.slots.now ≡ p ++ drop (length p) c.args.slots.now =
    slots_extended c.args.slots.now c.new-trace.result c.play.new.trace c.new-trace.ensures.slots c.new-trace.ensures.first c.play.ensures.extended in
    record {
      after = v;
      trace = p;
      plays =
          record {
            answer = a;
            plays =
                subst (λ (l : List Record). Plays instruction (length c.args.slots.now) tape fresh l a v p) c.new-trace.ensures.empty
                (subst (λ (d : Desk). Plays instruction (length c.args.slots.now) tape d q a v p) new
                (subst (λ (k : ℕ). Plays instruction k tape w q a v p) c.new-trace.ensures.room c.play.ensures.says));
            shows = c.line_of-line.ensures.shows (ap (λ k. number_of k.position) c.play.ensures.key ∙ ap (λ (d : Desk). d.key) new);
          };
      words_left = record { store = search rules; size = c.into_words.ensures.within };
      slots_left = search (rules, pinned);
    }
