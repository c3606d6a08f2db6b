-- Further cases, where an emulator easily goes wrong.
use Rattle.std.specs.Prelude.{◌≡◌}
use Rattle.model.specs.declared.Trap.TheVariants.{Arithmetic}
use Rattle.model.specs.Stores.{Store}
use Rattle.model.specs.Buses.{Bus}
use Rattle.model.specs.Effects.{went, stopped, run}
use Rattle.words.specs.Sums.{sum, extended}
use Rattle.decode.specs.declared.operations.Function.TheVariants.{CompareLogical}
use Rattle.decode.specs.declared.operations.MemoryOp.TheVariants.{Bxle}
use Rattle.decode.specs.declared.operations.ImmediateOp.TheVariants.{WithImmediate, Srl, Sra, Sla}
use Rattle.instructions.specs.Instructions.{immediate_tree, memory_tree, instruction}
use Rattle.cases.specs.Cases.{machine}

module _ (store : Store) (bus reply : Bus) where
  -- LCS 1,1; SIS 1,1 from the lowest number; AIS 1,1 from the highest one.
  abbrev pub ShortNumbers : Type 0
  ShortNumbers =
      (run reply (instruction 0x2511) (machine store bus 0 0x1000 0 0 0 0 0) ≡ went 0 (machine store bus 1 0x1002 0 0xffff_ffff 0 0 0))
      × (run reply (instruction 0x2711) (machine store bus 0 0x1000 0 0x8000_0000 0 0 0) ≡ went 0 (machine store bus 6 0x1002 0 0x7fff_ffff 0 0 0))
      × (run reply (instruction 0x2611) (machine store bus 0 0x1000 0 0xffff_ffff 0 0 0) ≡ went 0 (machine store bus 8 0x1002 0 0 0 0 0))

  -- The operand X'FFFF' is X'FFFFFFFF' to a comparison of numbers from 0 on.
  abbrev pub LogicalHalfword : Type 0
  LogicalHalfword =
      (run reply (immediate_tree (WithImmediate CompareLogical) 1 (sum (extended 0xffff) 0)) (machine store bus 0 0x1000 0 0xffff 0 0 0) ≡ went 0 (machine store bus 9 0x1000 0 0xffff 0 0 0))
      × (run reply (immediate_tree (WithImmediate CompareLogical) 1 (sum (extended 0xffff) 0)) (machine store bus 0 0x1000 0 0xffff_ffff 0 0 0) ≡ went 0 (machine store bus 0 0x1000 0 0xffff_ffff 0 0 0))

  -- SLA by 1, SRA by 31, SRL by 1.
  abbrev pub Shifts : Type 0
  Shifts =
      (run reply (immediate_tree Sla 1 1) (machine store bus 0 0x1000 0 0xc000_0000 0 0 0) ≡ went 0 (machine store bus 9 0x1000 0 0x8000_0000 0 0 0))
      × (run reply (immediate_tree Sra 1 31) (machine store bus 0 0x1000 0 0x8000_0000 0 0 0) ≡ went 0 (machine store bus 1 0x1000 0 0xffff_ffff 0 0 0))
      × (run reply (immediate_tree Srl 1 1) (machine store bus 0 0x1000 0 1 0 0 0) ≡ went 0 (machine store bus 8 0x1000 0 0 0 0 0))

  -- DR 2,4: -2^63 by -1 has no quotient of 32 bits; -2^31 by 1 has one.
  abbrev pub Quotients : Type 0
  Quotients =
      (run reply (instruction 0x1d24) (machine store bus 0 0x1000 0 0 0x8000_0000 0 0xffff_ffff) ≡ stopped Arithmetic (machine store bus 0 0x1002 0 0 0x8000_0000 0 0xffff_ffff))
      × (run reply (instruction 0x1d24) (machine store bus 0 0x1000 0 0 0xffff_ffff 0x8000_0000 1) ≡ went 0 (machine store bus 0 0x1002 0 0 0 0x8000_0000 1))

  -- BXLE 1 with the index X'FFFFFFFF', the increment 0 and the limit 1 does not branch.
  abbrev pub IndexBranch : Type 0
  IndexBranch =
      run reply (memory_tree Bxle 1 0x2000 0x1004) (machine store bus 0 0x1000 0 0xffff_ffff 0 1 0)
      ≡ went 0 (machine store bus 0 0x1004 0 0xffff_ffff 0 1 0)

  -- EPSR 1,1 leaves the status, EPSR 1,2 exchanges it.
  abbrev pub StatusExchange : Type 0
  StatusExchange =
      (run reply (instruction 0x9511) (machine store bus 0x1003 0x1000 0 7 0 0 0) ≡ went 0 (machine store bus 0x1003 0x1002 0 0x1003 0 0 0))
      × (run reply (instruction 0x9512) (machine store bus 0x1003 0x1000 0 7 0x8000 0 0) ≡ went 0 (machine store bus 0x8000 0x1002 0 0x1003 0x8000 0 0))

-- All of them.
abbrev pub FurtherCases : Type 0
FurtherCases =
    (store : Store) (bus reply : Bus) →
    ShortNumbers store bus reply
    × LogicalHalfword store bus reply
    × Shifts store bus reply
    × Quotients store bus reply
    × IndexBranch store bus reply
    × StatusExchange store bus reply
