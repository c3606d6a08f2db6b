-- Worked cases, of whole instructions in small machines, whatever the store, the devices and their replies.
use Rattle.std.specs.Prelude.{◌≡◌, false, ◌∷◌, ℕ, replicate}
use Rattle.model.specs.declared.Access.TheVariants.{Read}
use Rattle.model.specs.declared.Trap.TheVariants.{Arithmetic, Refusal}
use Rattle.model.specs.Stores.{Store}
use Rattle.model.specs.Buses.{Bus}
use Rattle.model.specs.States.{State, with_faults}
use Rattle.model.specs.Effects.{went, stopped, translated, run}
use Rattle.operands.specs.Operands.{address_tree}
use Rattle.instructions.specs.Instructions.{instruction}

module _ (store : Store) (bus : Bus) where
  -- A machine with a status, a Location Counter, and the registers 0 to 4 of set 0; the other registers are 0.
  abbrev pub machine : ℕ → ℕ → ℕ → ℕ → ℕ → ℕ → ℕ → State
  machine status location r0 r1 r2 r3 r4 =
      record {
        status = status;
        location = location;
        faults = 0;
        pending = false;
        registers = r0 ∷ r1 ∷ r2 ∷ r3 ∷ r4 ∷ replicate 27 0;
        segments = replicate 16 0;
        store = store;
        bus = bus;
      }

  -- A machine with relocation on, and a segmentation register 1.
  abbrev pub relocating : ℕ → State
  relocating g =
      record {
        status = 0x400;
        location = 0;
        faults = 0;
        pending = false;
        registers = replicate 32 0;
        segments = 0 ∷ g ∷ replicate 14 0;
        store = store;
        bus = bus;
      }

module _ (store : Store) (bus reply : Bus) where
  -- AIS 1,1: X'7FFFFFFF' becomes X'80000000', with code 5.
  abbrev pub Case1 : Type 0
  Case1 = run reply (instruction 0x2611) (machine store bus 0 0x1000 0 0x7fff_ffff 0 0 0) ≡ went 0 (machine store bus 5 0x1002 0 0x8000_0000 0 0 0)

  -- SIS 1,1: 0 becomes X'FFFFFFFF', with code 9.
  abbrev pub Case2 : Type 0
  Case2 = run reply (instruction 0x2711) (machine store bus 0 0x1000 0 0 0 0 0) ≡ went 0 (machine store bus 9 0x1002 0 0xffff_ffff 0 0 0)

  -- MR 2,4: -2 times 3.
  abbrev pub Case3 : Type 0
  Case3 =
      run reply (instruction 0x1c24) (machine store bus 0 0x1000 0 0 0 0xffff_fffe 3)
      ≡ went 0 (machine store bus 0 0x1002 0 0 0xffff_ffff 0xffff_fffa 3)

  -- DR 2,4: -7 by 2 is -3, and -1 remains.
  abbrev pub Case4 : Type 0
  Case4 =
      run reply (instruction 0x1d24) (machine store bus 0 0x1000 0 0 0xffff_ffff 0xffff_fff9 2)
      ≡ went 0 (machine store bus 0 0x1002 0 0 0xffff_ffff 0xffff_fffd 2)

  -- DR 2,4: by 0 all registers are kept, and it is a fault.
  abbrev pub Case5 : Type 0
  Case5 =
      (high low : ℕ) →
      run reply (instruction 0x1d24) (machine store bus 0 0x1000 0 0 high low 0) ≡ stopped Arithmetic (machine store bus 0 0x1002 0 0 high low 0)

  -- X'12344' by way of X'0FF65510' is the real address X'67844'.
  abbrev pub Case6 : Type 0
  Case6 = translated Read 0x12344 (relocating store bus 0x0ff6_5510) ≡ went 0x67844 (relocating store bus 0x0ff6_5510)

  -- X'02265510' refuses it, with interrupt status X'10'; X'02365510' lets it pass.
  abbrev pub Case7 : Type 0
  Case7 =
      (translated Read 0x12344 (relocating store bus 0x0226_5510) ≡ stopped Refusal (with_faults 0x10 (relocating store bus 0x0226_5510)))
      × (translated Read 0x12344 (relocating store bus 0x0236_5510) ≡ went 0x67844 (relocating store bus 0x0236_5510))

  -- X'0FF65500' refuses it, with interrupt status X'8'.
  abbrev pub Case8 : Type 0
  Case8 = translated Read 0x12344 (relocating store bus 0x0ff6_5500) ≡ stopped Refusal (with_faults 0x8 (relocating store bus 0x0ff6_5500))

  -- LH 1 at X'1000' with the second halfword X'FFFE' gives the address X'1002'.
  abbrev pub Case9 : Type 0
  Case9 = (s : State) → run reply (address_tree 0x1000 0x4810 0xfffe 0) s ≡ went 0x1002 s

  -- SLLS 1,1: X'80000001' becomes 2, with code X'A'.
  abbrev pub Case10 : Type 0
  Case10 = run reply (instruction 0x1111) (machine store bus 0 0x1000 0 0x8000_0001 0 0 0) ≡ went 0 (machine store bus 0xa 0x1002 0 2 0 0 0)

-- All of them.
abbrev pub WorkedCases : Type 0
WorkedCases =
    (store : Store) (bus reply : Bus) →
    Case1 store bus reply
    × Case2 store bus reply
    × Case3 store bus reply
    × Case4 store bus reply
    × Case5 store bus reply
    × Case6 store bus reply
    × Case7 store bus reply
    × Case8 store bus reply
    × Case9 store bus reply
    × Case10 store bus reply
