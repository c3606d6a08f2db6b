-- A protected program is isolated: it can neither see nor touch what is not its own.
use Rattle.std.specs.Prelude.{◌≡◌, ℕ, ◌<◌, List, length, take, ◌≢◌, slice_index, slice_index_or}
use Rattle.model.specs.declared.Record.{Record}
use Rattle.model.specs.Stores.{Store, at}
use Rattle.model.specs.Buses.{Bus}
use Rattle.model.specs.States.{State}
use Rattle.model.specs.Status.{upper, selected, slot, register_count}
use Rattle.model.specs.Effects.{Prog}
use Rattle.model.specs.Answers.{done}
use Rattle.model.specs.Console.{Desk}
use Rattle.model.specs.Interrupts.{Fills, of_zero}
use Rattle.model.specs.Windows.{InWritableWindow, LookAlike}
use Rattle.model.specs.Calls.{Reached, Continued, Course, quiet, broken, answers, final, NoDeviceInterrupt, course, AllOutside, by_deposits}

-- ── Same answers ──
-- Up to and including the first interrupt, the k-th accepted step gives the same answer in both.
abbrev pub SameAnswers : Course → Course → Type 0
SameAnswers c d = (k : ℕ) → k < length (answers c) → k < length (answers d) → slice_index_or (answers c) k done ≡ slice_index_or (answers d) k done

-- Before it, after equally many accepted steps, both look alike.
abbrev pub StillAlike : Course → Course → Type 0
StillAlike (quiet xs s) (quiet ys t) = length xs ≡ length ys → LookAlike s t
StillAlike (quiet xs s) (broken ys q t) = Unit {0}
StillAlike (broken xs r s) d = Unit {0}

-- ── Same saving ──
-- Registers 14 and 15 of set 0 have the status and the Location Counter of the record.
pub record Saves (r : Record) (s : State) : Type 0 where
  pub status : of_zero 14 s ≡ r.status
  pub location : of_zero 15 s ≡ r.location

-- Two interrupts that save the same status and Location Counter, each in its record and in its registers.
pub record SavesTheSame (r q : Record) (s t : State) : Type 0 where
  pub status : r.status ≡ q.status
  pub location : r.location ≡ q.location
  pub one_saves : Saves r s
  pub other_saves : Saves q t

-- Where both lists reach an interrupt, the first of each saves the same.
abbrev pub SameSaving : Course → Course → Type 0
SameSaving (quiet xs s) d = Unit {0}
SameSaving (broken xs r s) (quiet ys t) = Unit {0}
SameSaving (broken xs r s) (broken ys q t) = SavesTheSame r q s t

-- ── Confinement ──
-- Bits 0 to 27 of the status that an interrupt saved, in its record and in register 14 of set 0, are those of the status before.
pub record SavesUpper (before : ℕ) (r : Record) (s : State) : Type 0 where
  pub in_record : upper r.status ≡ upper before
  pub in_register : upper (of_zero 14 s) ≡ upper before

-- .. and so are those of the present status where there was no interrupt.
abbrev pub SameUpper : ℕ → Course → Type 0
SameUpper before (quiet xs s) = upper s.status ≡ upper before
SameUpper before (broken xs r s) = SavesUpper before r s

-- The interrupt of a course, if it had one, put something into register n of set k.
abbrev pub FilledByInterrupt : Course → ℕ → ℕ → Type 0
FilledByInterrupt (quiet xs s) k n = ⊥
FilledByInterrupt (broken xs r s) k n = Fills r.cause k n

module _ (meaning : ℕ → Prog) where
  -- What the list l leaves alone in the machine w, up to and including its first interrupt, the instruction of that step too: the
  -- segmentation registers; every place outside the writable window, which shows the last deposit accepted there, else what it showed
  -- before; every register set k of the file but the one selected at the start, save for what the interrupt puts into registers of
  -- set 0; status bits 0 to 27, up to the saving; and the whole bus.
  pub record Confined (w : Desk) (l : List Continued) : Type 0 where
    pub segments : (final (course meaning l w)).segments ≡ w.core.segments
    pub places :
        (p : ℕ) → (InWritableWindow w.core.segments p → ⊥) →
        at (final (course meaning l w)).store p ≡ by_deposits meaning p l w (at w.core.store p)
    pub other_sets :
        (k n : ℕ) → k ≢ selected w.core.status → (FilledByInterrupt (course meaning l w) k n → ⊥) →
        slice_index (final (course meaning l w)).registers (slot k n) ≡ slice_index w.core.registers (slot k n)
    pub status : SameUpper w.core.status (course meaning l w)
    pub devices : (final (course meaning l w)).bus ≡ w.core.bus

  -- ── The whole ──
  -- What is asked of the list l for the machine w: no deposit in the window that is there at its start, and no device's interrupt as the
  -- first of its interrupts.
  pub record Allowed (w : Desk) (l : List Continued) : Type 0 where
    pub outside : AllOutside meaning w.core.segments l w
    pub undisturbed : NoDeviceInterrupt (course meaning l w)

  -- Two machines, each with a list of its own: every answer, every first part of each list (i and j calls of them), and the saving.
  pub record Isolated (w v : Desk) (l k : List Continued) : Type 0 where
    pub same_answers : SameAnswers (course meaning l w) (course meaning k v)
    pub still_alike : (i j : ℕ) → StillAlike (course meaning (take i l) w) (course meaning (take j k) v)
    pub one_confined : (i : ℕ) → Confined w (take i l)
    pub other_confined : (j : ℕ) → Confined v (take j k)
    pub same_saving : SameSaving (course meaning l w) (course meaning k v)

  -- Whatever two machines that look alike are then asked to do.
  abbrev pub IsolatedFrom : Desk → Desk → Type 0
  IsolatedFrom w v = LookAlike w.core v.core → (l k : List Continued) → Allowed w l → Allowed v k → Isolated w v l k

-- Any two machines with all their registers.
abbrev pub IsolationOfAny : Type 0
IsolationOfAny =
    (meaning : ℕ → Prog) (w v : Desk) → length w.core.registers ≡ register_count → length v.core.registers ≡ register_count →
    IsolatedFrom meaning w v

-- Any two machines that were each made, over any store and bus, and then called in any way.
abbrev pub Isolation : Type 0
Isolation =
    (meaning : ℕ → Prog) (m n : Store) (b d : Bus) (w v : Desk) → Reached meaning m b w → Reached meaning n d v →
    IsolatedFrom meaning w v
