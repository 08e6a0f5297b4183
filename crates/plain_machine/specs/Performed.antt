-- What a row keeps of what its instruction does.
use Rattle.std.specs.Prelude.{◌≡◌, ◌&&◌, ◌||◌, ◌==◌, Bool, false, not, Option, None, if◌then◌else◌}
use Rattle.pisa_isa.specs.Coding.{IsWellFormed}
use Rattle.sim_safe.specs.declared.record.Stepped.{Stepped}
use Rattle.sim_safe.specs.declared.record.Stepped.TheVariants as stepped
use Rattle.sim_safe.specs.State.{Storage}
use Rattle.sim_safe.specs.Step.{is_call}
use Rattle.ooo_table.specs.Row as table
use Rattle.ooo_table.specs.Execution.{Execution, is_load, is_store, address}
use Rattle.ooo_table.specs.Table.{Setting}
use Rattle.ooo_table.specs.Path.{execution_of}
use Rattle.ooo_table.specs.Machine.{Given, setting_of}
use Rattle.ooo_plain.specs.declared.row.Row.{Row}
use Rattle.ooo_plain.specs.Kept.{kept}
use Rattle.plain_machine.specs.declared.row.Fetched.{Fetched}
use Rattle.plain_machine.specs.Copied.{acting}

-- the row with this execution, before any stage did something to it
abbrev pub row_by : Fetched → Execution → Row
row_by f e =
    record {
      pc = f.pc;
      predicted = f.predicted;
      top = f.top;
      right = f.right;
      at = f.at;
      queued = f.queued;
      instr = f.instr;
      stops = f.right && e.stops;
      mispredicted = f.right && not e.stops && not (f.predicted == e.next);
      exit = f.right && e.exit;
      control = e.control;
      taken = e.taken;
      call = e.call;
      next = if f.right || e.control then e.next else 0;
      unit = e.unit;
      load = is_load e.memory;
      store = is_store e.memory;
      address = address e.memory;
      main = e.main;
      second = e.second;
      writes = e.writes;
      dispatched = None;
      issued = None;
      accessed = None;
      returned = None;
      forwarded = false;
      committed = None;
      squashed = None;
    }

-- the instruction of a step that was done is one that words code
abbrev pub IsFormed : Stepped → Type 0
IsFormed (stepped.Did did) = IsWellFormed did.instr
IsFormed (stepped.Stop why) = Unit {0}

-- a step has an effect on a copy: it was done, and is no system call
abbrev pub has_effect : Stepped → Bool
has_effect (stepped.Did did) = not (is_call did.instr.op)
has_effect (stepped.Stop why) = false

-- a fetched row of the table
abbrev pub unmarked : table.Fetched → table.Row
unmarked f = record { fetched = f; dispatched = None; issued = None; access = None; committed = None; squashed = None }

-- what the program has of it
abbrev pub fetched_as : Setting → table.Fetched → Fetched
fetched_as set f =
    record { pc = f.pc; predicted = f.predicted; top = f.top; right = f.right; at = f.at; queued = f.queued; instr = set.instruction f.pc }

-- the row is the table's, and the state is the one behind it
pub record Performs (g : Given) (f : table.Fetched) (row : Row) (right : Storage) (copy : Option Storage) : Type 0 where
  pub row_is : row ≡ kept (setting_of g) (unmarked f)
  pub after : (execution_of (setting_of g) f).after ≡ acting right copy
