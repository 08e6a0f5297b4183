-- The machine of this processor: the table's rules over the functional machine, the hierarchy and the predictor.
use Rattle.std.specs.Prelude.{ℕ, Bool, true, false, List, [], Option, Some, is_some}
use Rattle.std.specs.Option.{unwrap_or}
use Rattle.pisa_isa.specs.declared.instr.Op.TheVariants as op
use Rattle.pisa_isa.specs.declared.instr.Instr.{Instr}
use Rattle.pisa_isa.specs.declared.classes.UnitClass.TheVariants as unit
use Rattle.pisa_isa.specs.declared.classes.AccessKind.{AccessKind}
use Rattle.pisa_isa.specs.declared.classes.AccessKind.TheVariants as access
use Rattle.pisa_isa.specs.declared.classes.ControlKind.{ControlKind}
use Rattle.pisa_isa.specs.declared.classes.ControlKind.TheVariants as control
use Rattle.pisa_isa.specs.Classes.{unit_of, access_of, control_of}
use Rattle.pisa_isa.specs.Coding.{decoded}
use Rattle.pisa_isa.specs.Places.{reads_main_of, reads_second_of, writes_of}
use Rattle.ecoff_load.specs.declared.image.Text.{Text}
use Rattle.ecoff_load.specs.Fetch.{fetch}
use Rattle.event_trace.specs.declared.trace.Trace.{Trace}
use Rattle.sim_safe.specs.declared.record.CommitRecord.{CommitRecord}
use Rattle.sim_safe.specs.State.{State}
use Rattle.sim_safe.specs.Step.{Outcome, Next, Halt, step_of, is_call}
use Rattle.mem_hier.specs.declared.config.HierConfig.{HierConfig}
use Rattle.mem_hier.specs.Replay.{Reference, latency_of, fetch_hit_of}
use Rattle.bpred_unit.specs.declared.config.PredConfig.{PredConfig}
use Rattle.bpred_unit.specs.History.{Event, look_of}
use Rattle.ooo_table.specs.declared.config.OooConfig.{OooConfig}
use Rattle.ooo_table.specs.Execution.{MemoryUse, NoMemory, LoadFrom, StoreTo, Execution}
use Rattle.ooo_table.specs.Table.{Setting}

-- ---- instructions

-- NOP, with no fields
abbrev pub nop : Instr
nop = record { op = op.Nop; rs = 0; rt = 0; rd = 0; shamt = 0; imm = 0; target = 0 }

-- the words of a row: those of the text, or two zeros where no instruction stands at its address
abbrev pub words_at : Text → ℕ → ℕ × ℕ
words_at text pc = unwrap_or (fetch text pc) (0, 0)

-- the instruction of a row; words that code none count as NOP
abbrev pub instruction_at : Text → ℕ → Instr
instruction_at text pc = unwrap_or (decoded (words_at text pc).0 (words_at text pc).1) nop

-- ---- executions

-- a load or store, by its kind and its effective address
abbrev pub memory_use : AccessKind → Option ℕ → MemoryUse
memory_use access.Load (Some addr) = LoadFrom addr
memory_use access.Store (Some addr) = StoreTo addr
memory_use kind addr = NoMemory

abbrev pub is_control : ControlKind → Bool
is_control control.Nothing = false
is_control control.Cond = true
is_control control.Jump = true
is_control control.Call = true
is_control control.Return = true

-- an instruction that was done, by the columns of the instruction table
abbrev pub done_as : CommitRecord → State → Execution
done_as did after =
    record {
      stops = false;
      next = did.next;
      taken = did.taken;
      control = is_control (control_of did.instr);
      call = is_call did.instr.op;
      exit = is_some after.ended;
      unit = unit_of did.instr.op;
      memory = memory_use (access_of did.instr.op) did.access;
      main = reads_main_of did.instr;
      second = reads_second_of did.instr;
      writes = writes_of did.instr;
      after = after;
    }

-- one that can't be done at this state
abbrev pub halted_as : Instr → State → Execution
halted_as i at =
    record {
      stops = true;
      next = at.pc;
      taken = false;
      control = false;
      call = is_call i.op;
      exit = false;
      unit = unit.Free;
      memory = NoMemory;
      main = [];
      second = [];
      writes = [];
      after = at;
    }

abbrev pub executed_as : Instr → State → Outcome → Execution
executed_as i at (Next did after) = done_as did after
executed_as i at (Halt why) = halted_as i at

-- The step of the functional machine at an address. A right row has the address of its state; a wrong one brings its own.
unfoldable pub executed_at : Trace → State → ℕ → Execution
executed_at trace on pc =
    let at = record on { pc = pc } in
    executed_as (instruction_at on.text pc) at (step_of trace at)

-- ---- the machine

-- what a run of the machine is given: its configurations, the recorded calls, the state at which it starts, and what its
-- hierarchy and its predictor were asked before
pub record Given : Type 0 where
  pub config : OooConfig
  pub hier : HierConfig
  pub pred : PredConfig
  pub trace : Trace
  pub start : State
  pub references : List Reference
  pub events : List Event

abbrev pub setting_of : Given → Setting
setting_of g =
    record {
      config = g.config;
      start = g.start;
      start_references = g.references;
      start_events = g.events;
      is_text = λ pc. is_some (fetch g.start.text pc);
      instruction = instruction_at g.start.text;
      execute = executed_at g.trace;
      latency = λ r h. latency_of g.hier h r;
      fetch_hit = fetch_hit_of g.hier;
      look = λ pc h. look_of g.pred h pc (instruction_at g.start.text pc);
    }
