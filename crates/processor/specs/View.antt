-- The processor's code as the definitions see it.
use Rattle.std.specs.Prelude.{◌≡◌, ℕ, Bool, Ok, Err, Result}
use Rattle.model.specs.declared.Trap.{Trap}
use Rattle.model.specs.Stores.{Store}
use Rattle.model.specs.Buses.{Bus}
use Rattle.model.specs.States.{State}
use Rattle.model.specs.Effects.{Out, went, stopped, Prog, as_number, run}
use Rattle.registers.specs.declared.words.RealAddress.{RealAddress}
use Rattle.processor.specs.declared.cpu.Core.{Core}

-- How a call ended: with a number, with an address, with a truth, or with nothing.
abbrev pub out : Result ℕ Trap → State → Out
out (Ok v) s = went v s
out (Err e) s = stopped e s

abbrev pub out_real : Result RealAddress Trap → State → Out
out_real (Ok r) s = went r.at s
out_real (Err e) s = stopped e s

abbrev pub out_truth : Result Bool Trap → State → Out
out_truth (Ok b) s = went (as_number b) s
out_truth (Err e) s = stopped e s

abbrev pub out₀ : Result (Unit {0}) Trap → State → Out
out₀ (Ok u) s = went 0 s
out₀ (Err e) s = stopped e s

-- Two cores have the same store and the same bus: the values themselves, not only what they mean.
pub record SameParts {S B : Type 0} (old new : Core S B) : Type 0 where
  pub store : new.store ≡ old.store
  pub bus : new.bus ≡ old.bus

module _ {S B : Type 0} (meaning : S → Store) (devices : B → Bus) where
  -- The state that a core is in.
  abbrev pub state_of : Core S B → State
  state_of m =
      record {
        status = m.psw.status;
        location = m.psw.location;
        faults = m.controller.faults;
        pending = m.pending;
        registers = m.registers.words;
        segments = m.controller.segments;
        store = meaning m.store;
        bus = devices m.bus;
      }

  -- The core goes from m to n as the tree says; a device that it touches then is what it is at n.
  abbrev pub Does : Prog → Core S B → Result (Unit {0}) Trap → Core S B → Type 0
  Does p m r n = run (devices n.bus) p (state_of m) ≡ out₀ r (state_of n)

  -- .. and ends with a number.
  abbrev pub Gives : Prog → Core S B → Result ℕ Trap → Core S B → Type 0
  Gives p m r n = run (devices n.bus) p (state_of m) ≡ out r (state_of n)

  -- .. and ends with a truth.
  abbrev pub Tells : Prog → Core S B → Result Bool Trap → Core S B → Type 0
  Tells p m r n = run (devices n.bus) p (state_of m) ≡ out_truth r (state_of n)

  -- .. and cannot stop.
  abbrev pub Sets : Prog → Core S B → Core S B → Type 0
  Sets p m n = run (devices n.bus) p (state_of m) ≡ went 0 (state_of n)

  -- A question: the tree ends with the number, and changes nothing.
  abbrev pub Shows : Prog → Core S B → ℕ → Type 0
  Shows p m v = run (devices m.bus) p (state_of m) ≡ went v (state_of m)

  -- What is done at the core m ends as an outcome says of n, and the bus is as it was.
  pub record Leads {A : Type 0} (done : State → A) (m : Core S B) (outcome : State → A) (n : Core S B) : Type 0 where
    pub does : done (state_of m) ≡ outcome (state_of n)
    pub quiet : n.bus ≡ m.bus

  -- The core n is in the state that a change makes of that of m.
  abbrev pub Becomes : (State → State) → Core S B → Core S B → Type 0
  Becomes change m n = state_of n ≡ change (state_of m)

  -- Does, Gives and Sets with the bus as it was.
  pub record DoesQuietly (p : Prog) (m : Core S B) (r : Result (Unit {0}) Trap) (n : Core S B) : Type 0 where
    pub does : Does p m r n
    pub quiet : n.bus ≡ m.bus

  pub record GivesQuietly (p : Prog) (m : Core S B) (r : Result ℕ Trap) (n : Core S B) : Type 0 where
    pub does : Gives p m r n
    pub quiet : n.bus ≡ m.bus

  pub record SetsQuietly (p : Prog) (m n : Core S B) : Type 0 where
    pub does : Sets p m n
    pub quiet : n.bus ≡ m.bus

  -- The same of a tree that touches no device, whatever the reply.
  abbrev pub DoesCalmly : Prog → Core S B → Result (Unit {0}) Trap → Core S B → Type 0
  DoesCalmly p m r n = (reply : Bus) → run reply p (state_of m) ≡ out₀ r (state_of n)

  abbrev pub GivesCalmly : Prog → Core S B → Result ℕ Trap → Core S B → Type 0
  GivesCalmly p m r n = (reply : Bus) → run reply p (state_of m) ≡ out r (state_of n)

  abbrev pub ShowsCalmly : Prog → Core S B → ℕ → Type 0
  ShowsCalmly p m v = (reply : Bus) → run reply p (state_of m) ≡ went v (state_of m)

  -- .. and with the bus as it was: the processor and its store alone.
  pub record DoesAlone (p : Prog) (m : Core S B) (r : Result (Unit {0}) Trap) (n : Core S B) : Type 0 where
    pub does : DoesCalmly p m r n
    pub quiet : n.bus ≡ m.bus

  pub record GivesAlone (p : Prog) (m : Core S B) (r : Result ℕ Trap) (n : Core S B) : Type 0 where
    pub does : GivesCalmly p m r n
    pub quiet : n.bus ≡ m.bus
