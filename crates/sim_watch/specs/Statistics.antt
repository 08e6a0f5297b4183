-- The statistics of a run.
use Rattle.std.specs.Prelude.{ℕ, List, length, sum_by, if◌then◌else◌}
use Rattle.pisa_isa.specs.Classes.{access_of, control_of}
use Rattle.sim_safe.specs.declared.statistics.Statistics.{Statistics}
use Rattle.sim_safe.specs.Record.{Item}
use Rattle.sim_safe.specs.Step.{is_call}
use Rattle.sim_safe.specs.Statistics.{load_count, store_count, branch_count}

abbrev pub loads_in : Item → ℕ
loads_in i = load_count (access_of i.did.instr.op)

abbrev pub stores_in : Item → ℕ
stores_in i = store_count (access_of i.did.instr.op)

abbrev pub branches_in : Item → ℕ
branches_in i = branch_count (control_of i.did.instr)

abbrev pub calls_in : Item → ℕ
calls_in i = if is_call i.did.instr.op then 1 else 0

-- how many instructions of each sort are among those that were done
abbrev pub statistics_of : List Item → Statistics
statistics_of is = record {
  insn = length is;
  loads = sum_by loads_in is;
  stores = sum_by stores_in is;
  branches = sum_by branches_in is;
  calls = sum_by calls_in is;
}
