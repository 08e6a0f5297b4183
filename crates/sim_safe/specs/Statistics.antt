-- What is counted of a run.
use Rattle.std.specs.Prelude.{◌+◌, ◌-◌, ◌^◌, ◌<◌, ◌++◌, ℕ, List, [], ◌∷◌, codes, decimal, min, if◌then◌else◌}
use Rattle.pisa_isa.specs.declared.instr.Instr.{Instr}
use Rattle.pisa_isa.specs.declared.classes.AccessKind.{AccessKind}
use Rattle.pisa_isa.specs.declared.classes.AccessKind.TheVariants as access
use Rattle.pisa_isa.specs.declared.classes.ControlKind.{ControlKind}
use Rattle.pisa_isa.specs.declared.classes.ControlKind.TheVariants as control
use Rattle.pisa_isa.specs.Classes.{access_of, control_of}
use Rattle.sim_safe.specs.declared.statistics.Statistics.{Statistics}
use Rattle.sim_safe.specs.Record.{Item}
use Rattle.sim_safe.specs.Step.{is_call}

abbrev pub load_count : AccessKind → ℕ
load_count access.Load = 1
load_count access.Store = 0
load_count access.Nothing = 0

abbrev pub store_count : AccessKind → ℕ
store_count access.Load = 0
store_count access.Store = 1
store_count access.Nothing = 0

abbrev pub branch_count : ControlKind → ℕ
branch_count control.Nothing = 0
branch_count control.Cond = 1
branch_count control.Jump = 1
branch_count control.Call = 1
branch_count control.Return = 1

abbrev pub no_statistics : Statistics
no_statistics = record { insn = 0; loads = 0; stores = 0; branches = 0; calls = 0 }

-- the counts with one more instruction; branches are all instructions that direct control, calls
-- are system calls
abbrev pub counted : Instr → Statistics → Statistics
counted i s = record {
  insn = s.insn + 1;
  loads = s.loads + load_count (access_of i.op);
  stores = s.stores + store_count (access_of i.op);
  branches = s.branches + branch_count (control_of i);
  calls = s.calls + (if is_call i.op then 1 else 0);
}

-- a count stands still at its type's end
abbrev pub at_most : Statistics → Statistics
at_most s = record {
  insn = min s.insn (2 ^ 64 - 1);
  loads = min s.loads (2 ^ 64 - 1);
  stores = min s.stores (2 ^ 64 - 1);
  branches = min s.branches (2 ^ 64 - 1);
  calls = min s.calls (2 ^ 64 - 1);
}

-- the counts of a history, newest item first
abbrev pub statistics_back : List Item → Statistics
statistics_back [] = no_statistics
statistics_back (i ∷ h) = counted i.did.instr (statistics_back h)

-- the counts are far below their types' end
pub record IsCountable (s : Statistics) : Type 0 where
  pub insn : s.insn < 2 ^ 62
  pub loads : s.loads < 2 ^ 62
  pub stores : s.stores < 2 ^ 62
  pub branches : s.branches < 2 ^ 62
  pub calls : s.calls < 2 ^ 62

-- a line with a name and a number
abbrev pub count_line : List ℕ → ℕ → List ℕ
count_line name count = name ++ codes " " ++ decimal count ++ codes "\n"

-- the first lines of the statistics: how many instructions were skipped, and the counts of those after them
abbrev pub counts_text : ℕ → Statistics → List ℕ
counts_text skipped s =
    count_line (codes "sim_skipped") skipped ++ count_line (codes "sim_num_insn") s.insn
    ++ count_line (codes "sim_num_loads") s.loads ++ count_line (codes "sim_num_stores") s.stores
    ++ count_line (codes "sim_num_branches") s.branches ++ count_line (codes "sim_num_calls") s.calls
