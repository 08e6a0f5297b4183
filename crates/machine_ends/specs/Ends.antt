-- What a cycle of the machine leaves, by the functional run.
use Rattle.std.specs.Prelude.{◌≡◌, ℕ, suc, Some, Result, Ok, Err}
use Rattle.event_trace.specs.declared.trace.Trace.{Trace}
use Rattle.sim_safe.specs.declared.observer.RunEnd.{RunEnd}
use Rattle.sim_safe.specs.declared.observer.RunEnd.TheVariants as ends
use Rattle.ooo_table.specs.Ends.{Extent, Whole, end_in}
use Rattle.ooo_table.specs.Machine.{Given, setting_of}
use Rattle.ooo_table.specs.MachineLaws.{IsSound}
use Rattle.ooo_table.specs.RunLaws.{IsRun}
use Rattle.core_parts.specs.declared.parts.Parts.{Parts}
use Rattle.core_statistics.specs.declared.stats.CoreStats.{CoreStats}
use Rattle.core_statistics.specs.Standing.{HasStats}
use Rattle.core_ends.specs.Extents.{so_far, HasState, HasHistories, IsOver}
use Rattle.core_ends.specs.Budgets.{IsRunWith}
use Rattle.watched_commit.specs.Stage.{budget}
use Rattle.sim_outorder.specs.declared.answers.Turn.{Turn}
use Rattle.sim_outorder.specs.declared.answers.Turn.TheVariants as turn
use Rattle.sim_outorder.specs.declared.answers.CoreFault.{CoreFault}
use Rattle.sim_outorder.specs.declared.machine.Core.{Core}
use Rattle.sim_outorder.specs.Running.{StandsFor}

-- What the machine has where a run has come so far: its commits are the first steps of the functional run, and its state, its
-- hierarchy and predictor, and its statistics are those of the run.
pub record HasRun (g : Given) (e : Extent) (c : ℕ) (new : Parts) (counts : CoreStats) : Type 0 where
  pub commits : IsRun g (so_far g e c)
  pub state : HasState g e c new
  pub histories : HasHistories g e c new
  pub stats : HasStats (setting_of g) e c counts

module _ (g : Given) (c most : ℕ) where
  -- The run ends so far in the cycle, where so many commits might come from it on. The functional run whose budget is that of the
  -- commits since the start has the same records, the same last state, and this end.
  pub record EndsRun (e : Extent) (ending : RunEnd) (new : Parts) (counts : CoreStats) : Type 0 where
    pub ends : end_in (setting_of g) (budget g c most) c ≡ Some e
    pub run : IsRunWith g (budget g c most) (so_far g e c) ending
    pub has : HasRun g e c new counts

  -- Behind each answer the state is one of the functional run. After `Spent` that run has met its budget, and after `Ended` it
  -- is over for the same cause, and the state is its last one.
  abbrev pub Leaves : {F : Type 0} → Parts → CoreStats → Result Turn (CoreFault F) → Type 0
  Leaves new counts (Ok turn.Going) = HasRun g Whole (suc c) new counts
  Leaves new counts (Ok turn.Spent) = (e : Extent) × EndsRun e ends.Limit new counts
  Leaves new counts (Ok (turn.Ended why)) = (e : Extent) × EndsRun e (ends.Stop why) new counts × IsOver g e c why new
  Leaves new counts (Err f) = Unit {0}

-- between two cycles a core that stands for the table has the run so far
abbrev pub CoreHasRun : Given → Core → Type 0
CoreHasRun g core = HasRun g Whole core.cycle core.parts core.stats

-- so a cycle leaves a core, for every sound run over the trace for which it stood
abbrev pub LeavesCore : {F : Type 0} → Trace → ℕ → Core → Core → Result Turn (CoreFault F) → Type 0
LeavesCore trace most old new result = (g : Given) → IsSound g → g.trace ≡ trace → StandsFor g old → Leaves g old.cycle most new.parts new.stats result
