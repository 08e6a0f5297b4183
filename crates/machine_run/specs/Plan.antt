-- What is asked of a run of sim-outorder's machine, and what it writes.
use Rattle.std.specs.Prelude.{ℕ, [], ◌++◌, Some, None, if◌then◌else◌}
use Rattle.std.specs.Option.{option_copied}
use Rattle.event_trace.specs.declared.trace.Trace.{Trace}
use Rattle.journal.specs.Write.{Journal}
use Rattle.sim_safe.specs.declared.observer.RunEnd.{RunEnd}
use Rattle.sim_safe.specs.declared.observer.RunEnd.TheVariants as ends
use Rattle.sim_safe.specs.State.{State}
use Rattle.sim_safe.specs.Step.{Halt}
use Rattle.sim_safe.specs.Run.{end_of}
use Rattle.sim_watch.specs.Skip.{skip_journal}
use Rattle.cut_run.specs.Plan as functional
use Rattle.cut_run.specs.Plan.{to_skip, timed_start, ends_early, to_do}
use Rattle.mem_hier.specs.Limits as hierarchy
use Rattle.bpred_unit.specs.Limits as predictor
use Rattle.ooo_table.specs.declared.event.EndWord.{EndWord}
use Rattle.ooo_table.specs.declared.event.EndWord.TheVariants as told
use Rattle.ooo_table.specs.Events.{stop_word}
use Rattle.ooo_table.specs.Finish.{Finish}
use Rattle.ooo_table.specs.Limits as machine
use Rattle.ooo_table.specs.Machine.{Given}
use Rattle.machine_watch.specs.Watch.{Names}
use Rattle.machine_run.specs.declared.plan.MachineConfig.{MachineConfig}
use Rattle.machine_run.specs.declared.plan.MachinePlan.{MachinePlan}
use Rattle.machine_run.specs.declared.timed.Limits.{Limits}
use Rattle.machine_run.specs.Timed.{timed_finish, timed_journal, timed_word}

-- ---- the machine

-- a machine may be made of these
pub record IsAllowed (c : MachineConfig) : Type 0 where
  pub ooo : machine.IsAllowed c.ooo
  pub hier : hierarchy.IsAllowed c.hier
  pub pred : predictor.IsAllowed c.pred

-- its run from a state on, with a hierarchy and a predictor that were asked nothing before
abbrev pub given_at : MachineConfig → Trace → State → Given
given_at c trace s = record { config = c.ooo; hier = c.hier; pred = c.pred; trace = trace; start = s; references = []; events = [] }

-- ---- the plan

-- to skip so many steps; to commit at most so many instructions behind them, in at most so many cycles; and the files of the
-- commit text and the pipetrace
pub record Asked : Type 0 where
  pub skip : ℕ
  pub most : ℕ
  pub cycles : ℕ
  pub names : Names

abbrev pub names_in : MachinePlan → Names
names_in p = record { commits = option_copied p.commits; ptrace = option_copied p.ptrace }

abbrev pub asked_by : MachinePlan → Asked
asked_by p = record { skip = p.skip; most = p.max_inst; cycles = p.max_cycles; names = names_in p }

-- the same asked of sim-safe, where up to so many instructions are done behind the skipped steps, and with the same budget
abbrev pub functionally : Asked → ℕ → functional.Asked
functionally a most = record { skip = a.skip; most = most; commits = a.names.commits; point = None }

abbrev pub plainly : Asked → functional.Asked
plainly a = functionally a a.most

-- how the end of a functional run is told that leaves this state
abbrev pub word_for : State → RunEnd → EndWord
word_for s ends.Limit = told.Budget
word_for s (ends.Stop why) = stop_word s (Halt why)

-- ---- the run

module _ (c : MachineConfig) (trace : Trace) (s : State) (asked : Asked) where
  -- ---- behind the skipped steps, which are those that sim-safe skips

  abbrev pub machine_given : Given
  machine_given = given_at c trace (timed_start trace s (plainly asked))

  -- where the run ends in the skipped part nothing is left to do, and its end is told so
  abbrev pub machine_limits : Limits
  machine_limits =
      record {
        max_inst = to_do trace s (plainly asked);
        max_cycles = asked.cycles;
        over = if ends_early trace s (plainly asked) then Some (word_for (timed_start trace s (plainly asked)) (end_of trace (to_skip trace s (plainly asked)) s)) else None;
      }

  -- where the run of the machine ends, and how that is told
  abbrev pub machine_finish : Finish
  machine_finish = timed_finish machine_given machine_limits

  abbrev pub machine_end : EndWord
  machine_end = timed_word machine_given machine_limits

  -- ---- what is written

  -- the output of the skipped steps, and behind it what the machine writes
  unfoldable pub machine_journal : Journal
  machine_journal = timed_journal machine_given machine_limits asked.names ++ skip_journal trace (to_skip trace s (plainly asked)) s
