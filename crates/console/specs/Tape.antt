-- The tape's code as the definitions see it.
use Rattle.std.specs.Prelude.{◌≡◌, ℕ, ◌+◌, ◌-◌, true, List, ◌∷◌, length, Some, Ok, Err, Result}
use Rattle.queue.specs.declared.Queue.{Queue}
use Rattle.queue.specs.Rows.{queued, capacity}
use Rattle.model.specs.declared.Denial.{Denial}
use Rattle.model.specs.declared.Record.{Record}
use Rattle.model.specs.Stores.{Store}
use Rattle.model.specs.Buses.{Bus}
use Rattle.model.specs.Answers.{number, on, Answer, denied, played, faulted, accepted}
use Rattle.model.specs.Console.{Desk}
use Rattle.model.specs.Tapes.{spell, spell_from, Obeys, Playing, Plays as PlaysBy}
use Rattle.processor.specs.declared.cpu.Core.{Core}
use Rattle.processor.specs.View.{state_of}
use Rattle.instructions.specs.Instructions.{instruction}
use Rattle.console.specs.declared.machine.Machine.{Machine}
use Rattle.tape.specs.declared.orders.Order.{Order as TapeOrder}
use Rattle.tape.specs.declared.orders.TapeFault.{TapeFault}
use Rattle.tape.specs.Commands.{order_of}
use Rattle.console.specs.View.{desk_of}

-- What a tape answers: the commands obeyed, or the fault.
abbrev pub played_by : Result ℕ TapeFault → Answer
played_by (Ok n) = played n
played_by (Err f) = faulted (number f.denial) f.place f.letter

module _ {S B : Type 0} (meaning : S → Store) (devices : B → Bus) where
  -- The machine of a core whose key is ON.
  abbrev pub on_desk : Core S B → Desk
  on_desk m = record { key = on; core = state_of meaning devices m }

  -- An order that was obeyed or denied, where the next deposit was at the address a.
  abbrev pub Obeyed : {X : Type 0} → ℕ → TapeOrder → Core S B → Queue Record → Result X Denial → Core S B → Queue Record → Type 0
  Obeyed a o m t (Ok x) n r =
      (b : Answer) × Obeys instruction (capacity t) (order_of a o) (on_desk m) (queued t) b (on_desk n) (queued r) × (accepted b ≡ true)
  Obeyed a o m t (Err d) n r = Obeys instruction (capacity t) (order_of a o) (on_desk m) (queued t) (denied (number d)) (on_desk n) (queued r)

  -- A tape that was played with the key ON.
  abbrev pub Played : List ℕ → Core S B → Queue Record → Result ℕ TapeFault → Core S B → Queue Record → Type 0
  Played tape m t a n u = Playing instruction (capacity t) (spell tape) 0 (on_desk m) (queued t) (played_by a) (on_desk n) (queued u)

  abbrev pub Plays : List ℕ → Machine S B → Queue Record → Result ℕ TapeFault → Machine S B → Queue Record → Type 0
  Plays tape m t a n u = PlaysBy instruction (capacity t) tape (desk_of meaning devices m) (queued t) (played_by a) (desk_of meaning devices n) (queued u)

module _ {S B : Type 0} (meaning : S → Store) (devices : B → Bus) where
  -- The command at a letter was obeyed, at any place and after any number of them: as the tape goes on from the bytes rest, so it
  -- goes on from the letter.
  abbrev pub Advances : ℕ → List ℕ → ℕ → Core S B → Queue Record → List ℕ → ℕ → Core S B → Queue Record → Type 0
  Advances letter bytes a m t rest next n u =
      (place k : ℕ) (x : Answer) (v : Desk) (p : List Record) →
      Playing instruction (capacity t) (spell_from rest 0 (place + 1 + (length bytes - length rest)) next) (k + 1) (on_desk meaning devices n) (queued u) x v p →
      Playing instruction (capacity t) (spell_from (letter ∷ bytes) 0 place a) k (on_desk meaning devices m) (queued t) x v p

  -- The tape stopped at a letter, by a denial.
  abbrev pub StopsAt : ℕ → List ℕ → ℕ → Core S B → Queue Record → Denial → Core S B → Queue Record → Type 0
  StopsAt letter bytes a m t d n u =
      (place k : ℕ) →
      Playing instruction (capacity t) (spell_from (letter ∷ bytes) 0 place a) k (on_desk meaning devices m) (queued t)
      (faulted (number d) place (Some letter)) (on_desk meaning devices n) (queued u)
