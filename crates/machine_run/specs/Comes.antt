-- What a run of the machine comes to.
use Rattle.std.specs.Prelude.{◌≡◌, Result, Ok, Err}
use Rattle.event_trace.specs.declared.trace.Trace.{Trace}
use Rattle.journal.specs.declared.fault.Fault.{Fault}
use Rattle.sim_safe.specs.State.{State}
use Rattle.cut_run.specs.Plan.{skipped}
use Rattle.ooo_table.specs.Finish.{references_by}
use Rattle.ooo_table.specs.Machine.{setting_of}
use Rattle.core_statistics.specs.Standing.{HasStats}
use Rattle.machine_run.specs.declared.plan.MachineConfig.{MachineConfig}
use Rattle.machine_run.specs.declared.plan.MachineRun.{MachineRun}
use Rattle.machine_run.specs.Counts.{caches_counted}
use Rattle.machine_run.specs.Plan.{Asked, plainly, machine_end, machine_finish, machine_given}

module _ (c : MachineConfig) (trace : Trace) (s : State) (asked : Asked) where
  -- The whole run was done: how many steps were skipped, what was counted behind them, and how it ended. Caches and TLBs held
  -- nothing behind the skipped steps, so that all that they have counted is of what came then.
  pub record RunMade (made : MachineRun) : Type 0 where
    pub skipped : made.skipped ≡ skipped trace s (plainly asked)
    pub statistics :
        HasStats (setting_of (machine_given c trace s asked)) (machine_finish c trace s asked).extent (machine_finish c trace s asked).passed made.statistics
    pub caches :
        made.caches ≡ caches_counted c.hier (references_by (setting_of (machine_given c trace s asked)) (machine_finish c trace s asked).extent (machine_finish c trace s asked).passed)
    pub end : made.end ≡ machine_end c trace s asked

  -- after a fault nothing is said but what was written
  abbrev pub RunComes : Result MachineRun Fault → Type 0
  RunComes (Ok made) = RunMade made
  RunComes (Err f) = Unit {0}
