-- The timed part of a run: what it writes, and what it comes to.
use Rattle.std.specs.Prelude.{◌≡◌, Result, Ok, Err, unwrap_or}
use Rattle.event_trace.specs.declared.trace.Trace.{Trace}
use Rattle.journal.specs.declared.fault.Fault.{Fault}
use Rattle.journal.specs.Write.{Journal}
use Rattle.journal.specs.View.{View}
use Rattle.sim_watch.specs.Watch.{WritesOrCut}
use Rattle.ooo_table.specs.declared.event.EndWord.{EndWord}
use Rattle.ooo_table.specs.Finish.{Finish, finish, references_by}
use Rattle.ooo_table.specs.Machine.{Given, setting_of}
use Rattle.ooo_table.specs.MachineLaws.{IsSound}
use Rattle.core_statistics.specs.Standing.{HasStats}
use Rattle.core_ends.specs.Extents.{StandsAt}
use Rattle.shown_run.specs.Headline.{shown_in, cycles_taken, last_word}
use Rattle.sim_outorder.specs.declared.machine.Core.{Core}
use Rattle.sim_outorder.specs.Running.{StandsFor}
use Rattle.machine_watch.specs.Watch.{Names, run_journal}
use Rattle.machine_run.specs.declared.timed.Limits.{Limits}
use Rattle.machine_run.specs.declared.timed.Timed.{Timed}
use Rattle.machine_run.specs.Counts.{caches_counted}

module _ (g : Given) (limits : Limits) where
  -- it ends where the table does under these budgets
  abbrev pub timed_finish : Finish
  timed_finish = finish (setting_of g) limits.max_inst limits.max_cycles

  -- a run that was over before it keeps its word
  abbrev pub timed_word : EndWord
  timed_word = unwrap_or limits.over (last_word g timed_finish)

  -- the commit text, the output and the pipetrace of what is shown of it
  abbrev pub timed_journal : Names → Journal
  timed_journal names = run_journal names (shown_in g timed_finish) (cycles_taken g timed_finish) timed_word

  -- what was counted until then, and how the run ended
  pub record PartTimed (timed : Timed) : Type 0 where
    pub statistics : HasStats (setting_of g) timed_finish.extent timed_finish.passed timed.statistics
    pub caches : timed.caches ≡ caches_counted g.hier (references_by (setting_of g) timed_finish.extent timed_finish.passed)
    pub end : timed.end ≡ timed_word

  -- after a fault nothing is said
  abbrev pub TimedComes : Result Timed Fault → Type 0
  TimedComes (Ok timed) = PartTimed timed
  TimedComes (Err f) = Unit {0}

  -- a core that has come so far
  pub record CoreTimed (core : Core) (word : EndWord) : Type 0 where
    pub stats : HasStats (setting_of g) timed_finish.extent timed_finish.passed core.stats
    pub stands : StandsAt g timed_finish.extent timed_finish.passed core.parts
    pub word_is : word ≡ timed_word

  abbrev pub CoreComes : Core → Result EndWord Fault → Type 0
  CoreComes core (Ok word) = CoreTimed core word
  CoreComes core (Err f) = Unit {0}

-- ---- for every sound run over the trace for which the core stands before it

-- there is one
abbrev pub StandsForSome : Trace → Core → Type 0
StandsForSome trace core = (g : Given) × IsSound g × (g.trace ≡ trace) × StandsFor g core

abbrev pub WritesTimed : {O T : Type 0} → View O → Names → Trace → Limits → Core → O → O → Result T Fault → Type 0
WritesTimed v names trace limits old before now result = (g : Given) → IsSound g → g.trace ≡ trace → StandsFor g old → WritesOrCut v before (timed_journal g limits names) now result

abbrev pub EndsTimed : Trace → Limits → Core → Core → Result EndWord Fault → Type 0
EndsTimed trace limits old new result = (g : Given) → IsSound g → g.trace ≡ trace → StandsFor g old → CoreComes g limits new result

abbrev pub CountsTimed : Trace → Limits → Core → Result Timed Fault → Type 0
CountsTimed trace limits old result = (g : Given) → IsSound g → g.trace ≡ trace → StandsFor g old → TimedComes g limits result
