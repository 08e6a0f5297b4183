-- A core over its cycles.
use Rattle.std.specs.Prelude.{◌≡◌, ℕ, ◌+◌, Bool, true, false, List, Result, Ok, Err}
use Rattle.event_trace.specs.declared.trace.Trace.{Trace}
use Rattle.sim_safe.specs.State.{Storage}
use Rattle.mem_hier.specs.Stands.{Held}
use Rattle.bpred_unit.specs.declared.predictor.Predictor.{Predictor}
use Rattle.ooo_table.specs.declared.config.OooConfig.{OooConfig}
use Rattle.ooo_table.specs.Cycle.{table}
use Rattle.ooo_table.specs.Ends.{Whole}
use Rattle.ooo_table.specs.Machine.{Given, setting_of}
use Rattle.ooo_table.specs.MachineLaws.{IsSound}
use Rattle.core_parts.specs.Fits.{Fits}
use Rattle.core_parts.specs.Stands.{Stands}
use Rattle.core_start.specs.Start.{IsGiven}
use Rattle.core_watch.specs.Shown.{Shown}
use Rattle.core_statistics.specs.Standing.{HasStats}
use Rattle.sim_outorder.specs.declared.answers.Turn.{Turn}
use Rattle.sim_outorder.specs.declared.answers.Turn.TheVariants as turn
use Rattle.sim_outorder.specs.declared.answers.CoreFault.{CoreFault}
use Rattle.sim_outorder.specs.declared.machine.Phase.{Phase}
use Rattle.sim_outorder.specs.declared.machine.Phase.TheVariants as phase
use Rattle.sim_outorder.specs.declared.machine.Core.{Core}
use Rattle.sim_outorder.specs.Cycle.{EndsSo, MemoryOf, TakesSome, cycle_items}

-- what a core is after a cycle with this answer
abbrev pub phase_after : {F : Type 0} → Result Turn (CoreFault F) → Phase
phase_after (Ok turn.Going) = phase.Running
phase_after (Ok turn.Spent) = phase.Broken
phase_after (Ok (turn.Ended why)) = phase.Ended
phase_after (Err f) = phase.Broken

abbrev pub is_broken : Phase → Bool
is_broken phase.Running = false
is_broken phase.Broken = true
is_broken phase.Ended = false

-- a core that is neither broken nor ended may run its next cycle
pub record IsReady (core : Core) : Type 0 where
  pub running : core.phase ≡ phase.Running
  pub fits : Fits core.cycle 0 core.parts

abbrev pub StaysReady : {F : Type 0} → Core → Result Turn (CoreFault F) → Type 0
StaysReady new (Ok turn.Going) = IsReady new
StaysReady new (Ok turn.Spent) = Unit {0}
StaysReady new (Ok (turn.Ended why)) = Unit {0}
StaysReady new (Err f) = Unit {0}

-- after a cycle it is one further, and ready, broken or ended by its answer
pub record LeftReady {F : Type 0} (old new : Core) (result : Result Turn (CoreFault F)) : Type 0 where
  pub phase_is : new.phase ≡ phase_after result
  pub cycles : new.cycle ≡ old.cycle + 1
  pub ready : StaysReady new result

-- it stands for the table after the cycles that are over, and its statistics are those of the table
pub record StandsFor (g : Given) (core : Core) : Type 0 where
  pub stands : Stands g core.cycle false core.parts (table (setting_of g) core.cycle)
  pub stats : HasStats (setting_of g) Whole core.cycle core.stats

-- before its first cycle it stands for the table of every run that is given what it was made of
pub record Begins (c : OooConfig) (m : Storage) (h : Held) (v : Predictor) (core : Core) : Type 0 where
  pub none : core.cycle ≡ 0
  pub stands : (g : Given) → IsGiven c m h v g → StandsFor g core

module _ {S F : Type 0} (took cut : S → List Shown → S → Type 0) where
  -- A cycle of a core that stands for the table ends as the table's, the core goes on standing for it, and the watch was shown
  -- the items that have happened in it. It wants no memory where its right stores and calls write to reserved pages alone.
  pub record CycleOf (g : Given) (most : ℕ) (old new : Core) (before now : S) (result : Result Turn (CoreFault F)) : Type 0 where
    pub ends : EndsSo g old.cycle most new.parts new.stats result
    pub memory : MemoryOf g old.cycle old.parts.arch result
    pub shown : (start : S) (h : List Shown) → took start h before → TakesSome took cut start h (cycle_items g old.cycle most) now result

  abbrev pub Cycles : Trace → ℕ → Core → Core → S → S → Result Turn (CoreFault F) → Type 0
  Cycles trace most old new before now result =
      (g : Given) → IsSound g → g.trace ≡ trace → StandsFor g old → CycleOf g most old new before now result
