-- The loop of the benchmark as a tape, and a run without the limit of the console's.
use Rattle.std.specs.Prelude.{◌≡◌, ℕ, zero, suc, ◌-◌, ◌/◌, ◌%◌, ◌^◌, ◌<◌, ◌⊎◌, List, [], ◌∷◌, ◌++◌, length, Some, None, Option}
use Rattle.model.specs.declared.Reason.{Reason}
use Rattle.model.specs.declared.Record.{Record}
use Rattle.model.specs.Answers.{Answer}
use Rattle.model.specs.Console.{Desk, made, or_else, off_denial, room_denial}
use Rattle.model.specs.Runs.{Steps, Ran}
use Rattle.model.specs.Tapes.{letter_a, letter_d, letter_r, letter_s, letter_p, letter_l, Plays}
use Rattle.store.specs.Boards.{core_boards}
use Rattle.bus.specs.Devices.{silent}
use Rattle.instructions.specs.Instructions.{instruction}
use Rattle.bench.specs.declared.loops.Mode.{Mode}
use Rattle.bench.specs.declared.loops.Mode.TheVariants.{Protected, Free}

-- The last n bytes of a number, the high byte first.
abbrev pub bytes : ℕ → ℕ → List ℕ
bytes zero v = []
bytes (suc n) v = v / 256 ^ n % 256 ∷ bytes n v

abbrev pub deposits : List ℕ → List ℕ
deposits [] = []
deposits (h ∷ hs) = letter_d ∷ (bytes 2 h ++ deposits hs)

-- AIS 1,1; LH 2,X'100'(3); STH 1,X'100'(3); BFBS 8,5.
abbrev pub loop_words : List ℕ
loop_words = 0x2611 ∷ 0x4823 ∷ 0x0100 ∷ 0x4013 ∷ 0x0100 ∷ 0x2285 ∷ []

-- The loop at real X'1000', register 3 of set 15 as its index, segmentation register 0 with two blocks from there on, the PSW.
abbrev pub loop_tape : ℕ → ℕ → ℕ → List ℕ
loop_tape index status location =
    letter_a ∷ (bytes 3 0x1000
    ++ (deposits loop_words
    ++ (letter_r ∷ 0xf3 ∷ (bytes 4 index
    ++ (letter_s ∷ 0 ∷ (bytes 4 0x00101010
    ++ (letter_p ∷ (bytes 4 status
    ++ (letter_l ∷ bytes 3 location)))))))))

-- Device requests are taken and set 15 is selected; relocation and protection are both on, or both off.
unfoldable pub tape_of : Mode → List ℕ
tape_of Protected = loop_tape 0x0040 0x45f0 0x00000
tape_of Free = loop_tape 0x1040 0x40f0 0x01000

-- The tape of a mode, played on a new machine over core boards of the words and a silent bus.
pub record Ready (mode : Mode) (words : List ℕ) (cap : ℕ) (q : List Record) (v : Desk) (p : List Record) : Type 0 where
  pub answer : Answer
  pub plays : Plays instruction cap (tape_of mode) (made (core_boards words) silent) q answer v p

-- The first denial that applies where steps are asked for: 7 at OFF; 9 without room in a trace of capacity cap.
abbrev pub start_denial : ℕ → Desk → List Record → Option ℕ
start_denial cap w q = or_else (off_denial w) (room_denial (cap - length q))

-- n steps of a run with a count of any size, which no denial keeps from its first step: all of them, none of which stops it, or those
-- up to the one that does.
pub record RunsOn (cap count n : ℕ) (w : Desk) (q : List Record) (v : Desk) (p : List Record) : Type 0 where
  pub starts : 0 < count → start_denial cap w q ≡ None
  pub key : v.key ≡ w.key
  pub goes :
      (n ≡ count) × Steps instruction cap count w.core q v.core p
      ⊎ ((why : Reason) × Ran instruction cap count n why w.core q v.core p)

-- A run that is denied by n: some steps are asked for, and n is the first denial that applies.
pub record NotStarted (cap count : ℕ) (w : Desk) (q : List Record) (n : ℕ) : Type 0 where
  pub asked : 0 < count
  pub why : start_denial cap w q ≡ Some n
