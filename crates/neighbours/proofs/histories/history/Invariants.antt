use Rattle.std.proofs.Common.{◌≡◌, ◌+◌, ◌*◌, ◌≤◌, length, take}
use Rattle.neighbours.specs.Neighbours.{deposits}
use Rattle.neighbours.proofs.histories.history.Given as goal

-- the words so far were deposited
abbrev pub invariant-loop-word : goal.invariant-loop-word
invariant-loop-word l =
    record {
      deposited : l.past.items ≡ deposits l.initial.address (take l.word-index l.word-items);
      at : l.address ≡ l.initial.address + 2 * l.word-index;
      within : l.word-index ≤ length l.word-items;
    }
