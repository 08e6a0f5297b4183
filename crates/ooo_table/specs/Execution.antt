-- What an instruction does at a state, as far as its timing asks, and what the functional units take.
use Rattle.std.specs.Prelude.{ℕ, ◌/◌, Bool, true, false, List, [], ◌==◌, ◌&&◌, if◌then◌else◌}
use Rattle.pisa_isa.specs.declared.classes.UnitClass.{UnitClass}
use Rattle.pisa_isa.specs.declared.classes.UnitClass.TheVariants.{Free, Alu, Multiply, Divide}
use Rattle.pisa_isa.specs.declared.places.Place.{Place}
use Rattle.pisa_isa.specs.declared.places.Place.TheVariants as place
use Rattle.sim_safe.specs.State.{State}
use Rattle.ooo_table.specs.declared.config.OooConfig.{OooConfig}

-- ---- memory

-- what an instruction asks of memory, with its effective address
pub data MemoryUse : Type 0 where
  NoMemory : MemoryUse
  LoadFrom : (addr : ℕ) → MemoryUse
  StoreTo : (addr : ℕ) → MemoryUse

abbrev pub is_load : MemoryUse → Bool
is_load (LoadFrom addr) = true
is_load other = false

abbrev pub is_store : MemoryUse → Bool
is_store (StoreTo addr) = true
is_store other = false

abbrev pub uses_memory : MemoryUse → Bool
uses_memory NoMemory = false
uses_memory other = true

abbrev pub address : MemoryUse → ℕ
address NoMemory = 0
address (LoadFrom addr) = addr
address (StoreTo addr) = addr

-- both ask memory for addresses in one aligned block of 8 bytes
abbrev pub same_block : MemoryUse → MemoryUse → Bool
same_block a b = uses_memory a && uses_memory b && ((address a / 8) == (address b / 8))

-- ---- executions

abbrev pub same_place : Place → Place → Bool
same_place (place.Reg m) (place.Reg n) = m == n
same_place place.Hi place.Hi = true
same_place place.Lo place.Lo = true
same_place p q = false

-- what the instruction at an address does at a state
pub record Execution : Type 0 where
  -- it can't be done there
  pub stops : Bool
  -- the address of the next instruction, where it can
  pub next : ℕ
  pub taken : Bool
  -- a branch or jump
  pub control : Bool
  -- a system call, also one that can't be done
  pub call : Bool
  -- a system call by which the program exits
  pub exit : Bool
  pub unit : UnitClass
  pub memory : MemoryUse
  -- the places that its main operation reads, those that it reads besides, and those that it writes
  pub main : List Place
  pub second : List Place
  pub writes : List Place
  pub after : State

-- a wrong row that can't be done is inert: no operands, no unit, no address, and no effect
abbrev pub inert : State → Execution → Execution
inert on e =
    record {
      stops = true;
      next = e.next;
      taken = false;
      control = false;
      call = e.call;
      exit = false;
      unit = Free;
      memory = NoMemory;
      main = [];
      second = [];
      writes = [];
      after = on;
    }

-- What an instruction does in a wrong row: its effect on what is read, and on nothing else of the state. A call has none.
abbrev pub wrong_execution : State → Execution → Execution
wrong_execution on e =
    if e.stops then inert on e
    else (if e.call then record e { after = on } else record e { after = record on { reads = e.after.reads } })

-- ---- functional units

-- from issue to write-back
abbrev pub unit_latency : UnitClass → ℕ
unit_latency Free = 1
unit_latency Alu = 1
unit_latency Multiply = 3
unit_latency Divide = 20

-- how long a unit is held, which is its issue latency
abbrev pub unit_hold : UnitClass → ℕ
unit_hold Free = 0
unit_hold Alu = 1
unit_hold Multiply = 1
unit_hold Divide = 19

pub data Pool : Type 0 where
  Alus : Pool
  Multipliers : Pool
  Ports : Pool

-- main operations of this class take a unit of the pool
abbrev pub is_of : Pool → UnitClass → Bool
is_of Alus Alu = true
is_of Multipliers Multiply = true
is_of Multipliers Divide = true
is_of p u = false

abbrev pub pool_size : OooConfig → Pool → ℕ
pool_size c Alus = c.alus
pool_size c Multipliers = c.mults
pool_size c Ports = c.ports
