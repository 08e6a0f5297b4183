-- A run of the machine under its two budgets: how it ends, what the core is then, and what a watch has taken of it.
use Rattle.std.specs.Prelude.{◌≡◌, ◌⊎◌, ℕ, List, Result, Ok, Err}
use Rattle.event_trace.specs.declared.trace.Trace.{Trace}
use Rattle.ooo_table.specs.declared.event.EndWord.{EndWord}
use Rattle.ooo_table.specs.declared.event.EndWord.TheVariants as told
use Rattle.ooo_table.specs.Events.{end_word}
use Rattle.ooo_table.specs.Finish.{Finish, finish}
use Rattle.ooo_table.specs.Machine.{Given, setting_of}
use Rattle.ooo_table.specs.MachineLaws.{IsSound}
use Rattle.core_watch.specs.Shown.{Shown}
use Rattle.core_statistics.specs.Standing.{HasStats}
use Rattle.core_ends.specs.Extents.{StandsAt}
use Rattle.shown_run.specs.Headline.{shown_in}
use Rattle.sim_outorder.specs.declared.answers.Turn.{Turn}
use Rattle.sim_outorder.specs.declared.answers.Turn.TheVariants as turn
use Rattle.sim_outorder.specs.declared.answers.CoreFault.{CoreFault}
use Rattle.sim_outorder.specs.declared.machine.Phase.TheVariants as phase
use Rattle.sim_outorder.specs.declared.machine.Core.{Core}
use Rattle.sim_outorder.specs.Cycle.{TakesSome}
use Rattle.sim_outorder.specs.Running.{IsReady, StandsFor}

-- A run that comes to its end leaves a watch as a cycle does that comes to its end, and one that is given up as a cycle that is.
abbrev pub as_cycle : {F : Type 0} → Result EndWord (CoreFault F) → Result Turn (CoreFault F)
as_cycle (Ok word) = Ok turn.Going
as_cycle (Err f) = Err f

-- ---- the core

-- After a stop of its own it has ended, and after a fault it is broken. Where a budget is used up it can go on, but not behind
-- the last commit of a budget.
abbrev pub LeftBy : {F : Type 0} → Core → Result EndWord (CoreFault F) → Type 0
LeftBy new (Ok told.Budget) = IsReady new ⊎ (new.phase ≡ phase.Broken)
LeftBy new (Ok (told.Exited code)) = new.phase ≡ phase.Ended
LeftBy new (Ok (told.Stopped pc icnt why)) = new.phase ≡ phase.Ended
LeftBy new (Err f) = new.phase ≡ phase.Broken

module _ (g : Given) (f : Finish) where
  -- the end of the run is told so, and the core stands for the table there, with its statistics
  pub record HasEnded (new : Core) (word : EndWord) : Type 0 where
    pub word_is : word ≡ end_word g f.extent f.passed
    pub stands : StandsAt g f.extent f.passed new.parts
    pub stats : HasStats (setting_of g) f.extent f.passed new.stats

  -- of a run that was given up nothing is said
  abbrev pub EndsAs : {F : Type 0} → Core → Result EndWord (CoreFault F) → Type 0
  EndsAs new (Ok word) = HasEnded new word
  EndsAs new (Err fault) = Unit {0}

-- ---- the run

module _ {S F : Type 0} (took cut : S → List Shown → S → Type 0) where
  -- it ends so, and the watch was shown all of it, or as much as came before it was given up
  pub record RunOf (g : Given) (f : Finish) (new : Core) (before now : S) (result : Result EndWord (CoreFault F)) : Type 0 where
    pub ends : EndsAs g f new result
    pub shown : (start : S) (h : List Shown) → took start h before → TakesSome took cut start h (shown_in g f) now (as_cycle result)

  -- For every sound run over the trace for which the core stands before its first cycle: it ends where the table ends under a
  -- budget of commits and one of cycles.
  abbrev pub RunsTimed : Trace → ℕ → ℕ → Core → Core → S → S → Result EndWord (CoreFault F) → Type 0
  RunsTimed trace most cycles old new before now result =
      (g : Given) → IsSound g → g.trace ≡ trace → StandsFor g old → RunOf g (finish (setting_of g) most cycles) new before now result
