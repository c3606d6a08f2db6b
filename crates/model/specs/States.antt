-- The state of the processor with its store and its bus.
use Rattle.std.specs.Prelude.{ℕ, Bool, List}
use Rattle.model.specs.Stores.{Store}
use Rattle.model.specs.Buses.{Bus}

-- status, location: the PSW. faults: the interrupt status register. pending: whether the instruction in progress has made
-- a write that is reported when it has ended. registers: the sets of general registers, one behind the other. segments: the
-- 16 segmentation registers.
pub record State : Type 0 where
  pub status : ℕ
  pub location : ℕ
  pub faults : ℕ
  pub pending : Bool
  pub registers : List ℕ
  pub segments : List ℕ
  pub store : Store
  pub bus : Bus

abbrev pub with_status : ℕ → State → State
with_status v s =
    record { status = v; location = s.location; faults = s.faults; pending = s.pending; registers = s.registers; segments = s.segments; store = s.store; bus = s.bus }

abbrev pub with_location : ℕ → State → State
with_location v s =
    record { status = s.status; location = v; faults = s.faults; pending = s.pending; registers = s.registers; segments = s.segments; store = s.store; bus = s.bus }

abbrev pub with_faults : ℕ → State → State
with_faults v s =
    record { status = s.status; location = s.location; faults = v; pending = s.pending; registers = s.registers; segments = s.segments; store = s.store; bus = s.bus }

abbrev pub with_pending : Bool → State → State
with_pending v s =
    record { status = s.status; location = s.location; faults = s.faults; pending = v; registers = s.registers; segments = s.segments; store = s.store; bus = s.bus }

abbrev pub with_registers : List ℕ → State → State
with_registers v s =
    record { status = s.status; location = s.location; faults = s.faults; pending = s.pending; registers = v; segments = s.segments; store = s.store; bus = s.bus }

abbrev pub with_segments : List ℕ → State → State
with_segments v s =
    record { status = s.status; location = s.location; faults = s.faults; pending = s.pending; registers = s.registers; segments = v; store = s.store; bus = s.bus }

abbrev pub with_store : Store → State → State
with_store v s =
    record { status = s.status; location = s.location; faults = s.faults; pending = s.pending; registers = s.registers; segments = s.segments; store = v; bus = s.bus }

abbrev pub with_bus : Bus → State → State
with_bus v s =
    record { status = s.status; location = s.location; faults = s.faults; pending = s.pending; registers = s.registers; segments = s.segments; store = s.store; bus = v }
