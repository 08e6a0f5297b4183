-- A cycle over the parts and the statistics of a core: how it ends, and what a watch has taken of it.
use Rattle.std.specs.Prelude.{◌≡◌, ◌≢◌, ℕ, suc, ◌+◌, Bool, true, false, List, [], ◌++◌, Option, Some, None, Result, Ok, Err, ◌⊎◌, if◌then◌else◌}
use Rattle.pisa_step.specs.declared.cause.Cause.{Cause}
use Rattle.pisa_step.specs.declared.cause.Cause.TheVariants as cause
use Rattle.event_trace.specs.declared.trace.Trace.{Trace}
use Rattle.sim_safe.specs.declared.observer.Meaning.{Meaning}
use Rattle.sim_safe.specs.declared.observer.Meaning.TheVariants as meaning
use Rattle.sim_safe.specs.Observed.{Faulted}
use Rattle.sim_safe.specs.State.{Storage, state_of}
use Rattle.sim_safe.specs.Step.{Halt, step_of}
use Rattle.ooo_table.specs.declared.event.EndWord.TheVariants as told
use Rattle.ooo_table.specs.Cycle.{table, after_commit, after_recover, after_issue, after_dispatch}
use Rattle.ooo_table.specs.Ends.{Whole, AtCommit, AtStop, rows_at, stops_in, end_in}
use Rattle.ooo_table.specs.Events.{end_word}
use Rattle.ooo_table.specs.Machine.{Given, setting_of}
use Rattle.ooo_table.specs.MachineLaws.{IsSound}
use Rattle.core_parts.specs.declared.parts.Parts.{Parts}
use Rattle.core_parts.specs.Fits.{Fits}
use Rattle.core_parts.specs.Stands.{Stands}
use Rattle.core_watch.specs.Shown.{Shown, behind, CutWithin, events}
use Rattle.core_watch.specs.Items.{items_at}
use Rattle.core_watch.specs.StageItems.{written_events, squashed_events, issued_events, dispatched_events, fetched_events}
use Rattle.core_statistics.specs.declared.stats.CoreStats.{CoreStats}
use Rattle.core_statistics.specs.Standing.{HasStats, CountsAre}
use Rattle.watched_commit.specs.Stage.{budget}
use Rattle.watched_stages.specs.Dispatching.{HasMemory}
use Rattle.sim_outorder.specs.declared.answers.Turn.{Turn}
use Rattle.sim_outorder.specs.declared.answers.Turn.TheVariants as turn
use Rattle.sim_outorder.specs.declared.answers.CoreFault.{CoreFault}
use Rattle.sim_outorder.specs.declared.answers.CoreFault.TheVariants as fault

-- ---- the watch

-- A watch has taken all of these after an answer, was cut within one of them where it failed, and has taken the first of them
-- where memory was wanted.
abbrev pub TakesSome : {S F : Type 0} → (S → List Shown → S → Type 0) → (S → List Shown → S → Type 0) → S → List Shown → List Shown → S → Result Turn (CoreFault F) → Type 0
TakesSome took cut start h xs now (Ok t) = took start (behind xs h) now
TakesSome took cut start h xs now (Err (fault.Watch f)) = CutWithin cut start h xs now
TakesSome took cut start h xs now (Err fault.OutOfMemory) = (front : List Shown) × (more : List Shown) × (xs ≡ front ++ more) × took start (behind front h) now

-- the counts of its faults
abbrev pub CountsSo : {F : Type 0} → (F → Meaning) → ℕ × ℕ → ℕ × ℕ → Result Turn (CoreFault F) → Type 0
CountsSo means before now (Ok t) = now ≡ before
CountsSo means before now (Err (fault.Watch f)) = Faulted (means f) before now
CountsSo means before now (Err fault.OutOfMemory) = now ≡ before

-- one that takes no memory takes none from then on, and a fault of it doesn't mean memory
abbrev pub MemorySo : {S F : Type 0} → (S → Type 0) → (F → Meaning) → S → Result Turn (CoreFault F) → Type 0
MemorySo takes_none means now (Ok t) = takes_none now
MemorySo takes_none means now (Err (fault.Watch f)) = takes_none now × (means f ≢ meaning.Memory)
MemorySo takes_none means now (Err fault.OutOfMemory) = takes_none now

-- ---- the parts

-- they are ready for the next cycle
abbrev pub FitsNext : {F : Type 0} → ℕ → Parts → Result Turn (CoreFault F) → Type 0
FitsNext c new (Ok turn.Going) = Fits (c + 1) 0 new
FitsNext c new (Ok turn.Spent) = Unit {0}
FitsNext c new (Ok (turn.Ended why)) = Unit {0}
FitsNext c new (Err f) = Unit {0}

module _ (g : Given) (c : ℕ) where
  -- The cycle is over and the next one begins, or the machine stops in its dispatch stage.
  abbrev pub GoesOn : Parts → CoreStats → Type 0
  GoesOn new counts =
      (stops_in (setting_of g) c (table (setting_of g) c) ≡ false) × Stands g (suc c) false new (table (setting_of g) (suc c)) × HasStats (setting_of g) Whole (suc c) counts

  pub record StopsSo (why : Cause) (new : Parts) (counts : CoreStats) : Type 0 where
    pub stops : stops_in (setting_of g) c (table (setting_of g) c) ≡ true
    pub stands : Stands g c true new (after_dispatch (setting_of g) c)
    pub cause : step_of g.trace (state_of new.arch) ≡ Halt why
    pub stats : HasStats (setting_of g) AtStop c counts

  -- where no commit ends the run in the cycle; nothing is said of a cycle that was given up
  abbrev pub EndsBehind : {F : Type 0} → Parts → CoreStats → Result Turn (CoreFault F) → Type 0
  EndsBehind new counts (Ok turn.Going) = GoesOn new counts
  EndsBehind new counts (Ok turn.Spent) = ⊥
  EndsBehind new counts (Ok (turn.Ended why)) = StopsSo why new counts
  EndsBehind new counts (Err f) = Unit {0}

  -- memory is wanted only where a right row that is dispatched in the cycle writes to a page that wasn't reserved before
  abbrev pub MemoryOf : {F : Type 0} → Storage → Result Turn (CoreFault F) → Type 0
  MemoryOf m (Ok t) = Unit {0}
  MemoryOf m (Err (fault.Watch f)) = Unit {0}
  MemoryOf m (Err fault.OutOfMemory) = HasMemory g c m → ⊥

  -- ---- what is shown from each stage on

  -- fetches come where the machine doesn't stop
  abbrev pub fetched_items : List Shown
  fetched_items = if stops_in (setting_of g) c (table (setting_of g) c) then [] else events (fetched_events g c (table (setting_of g) (suc c)).rows)

  abbrev pub dispatch_items : List Shown
  dispatch_items = events (dispatched_events g c (after_dispatch (setting_of g) c).rows) ++ fetched_items

  abbrev pub issue_items : List Shown
  issue_items = events (issued_events g c (after_issue (setting_of g) c).rows) ++ dispatch_items

  abbrev pub recovery_items : List Shown
  recovery_items =
      events (written_events g c (after_commit (setting_of g) c).rows ++ squashed_events g c (after_recover (setting_of g) c).rows) ++ issue_items

-- ---- from a stage on

module _ {S F : Type 0} (took cut : S → List Shown → S → Type 0) where
  -- the cycle ends so, and the watch was shown these
  pub record Runs (g : Given) (c : ℕ) (items : List Shown) (m : Storage) (new : Parts) (counts : CoreStats) (before now : S) (result : Result Turn (CoreFault F)) : Type 0 where
    pub ends : EndsBehind g c new counts result
    pub memory : MemoryOf g c m result
    pub shown : (start : S) (h : List Shown) → took start h before → TakesSome took cut start h items now result

  abbrev pub FromFetch : ℕ → Parts → Parts → CoreStats → CoreStats → S → S → Result Turn (CoreFault F) → Type 0
  FromFetch c old new counted counts before now result =
      (g : Given) → IsSound g → stops_in (setting_of g) c (table (setting_of g) c) ≡ false → Stands g c true old (after_dispatch (setting_of g) c)
      → CountsAre (setting_of g) (suc c) (suc c) (after_dispatch (setting_of g) c).rows counted → (m : Storage) → Runs g c (fetched_items g c) m new counts before now result

  abbrev pub FromDispatch : Trace → ℕ → Parts → Parts → CoreStats → CoreStats → S → S → Result Turn (CoreFault F) → Type 0
  FromDispatch trace c old new counted counts before now result =
      (g : Given) → IsSound g → g.trace ≡ trace → Stands g c true old (after_issue (setting_of g) c)
      → CountsAre (setting_of g) (suc c) (suc c) (after_issue (setting_of g) c).rows counted → Runs g c (dispatch_items g c) old.arch new counts before now result

  abbrev pub FromIssue : Trace → ℕ → Parts → Parts → CoreStats → CoreStats → S → S → Result Turn (CoreFault F) → Type 0
  FromIssue trace c old new counted counts before now result =
      (g : Given) → IsSound g → g.trace ≡ trace → Stands g c true old (after_recover (setting_of g) c)
      → CountsAre (setting_of g) (suc c) (suc c) (after_recover (setting_of g) c).rows counted → Runs g c (issue_items g c) old.arch new counts before now result

  abbrev pub FromRecovery : Trace → ℕ → Parts → Parts → CoreStats → CoreStats → S → S → Result Turn (CoreFault F) → Type 0
  FromRecovery trace c old new counted counts before now result =
      (g : Given) → IsSound g → g.trace ≡ trace → Stands g c false old (after_commit (setting_of g) c)
      → CountsAre (setting_of g) c (suc c) (after_commit (setting_of g) c).rows counted → Runs g c (recovery_items g c) old.arch new counts before now result

-- ---- the whole cycle

module _ (g : Given) (c most : ℕ) where
  -- the run ends in the cycle with the commit of this row
  pub record CommitEnds (row : ℕ) (new : Parts) (counts : CoreStats) : Type 0 where
    pub ends : end_in (setting_of g) (budget g c most) c ≡ Some (AtCommit row)
    pub stands : Stands g c false new (record (table (setting_of g) c) { rows = rows_at (setting_of g) (AtCommit row) c })
    pub stats : HasStats (setting_of g) (AtCommit row) c counts

  -- the run ends in the cycle at an exit, or where the machine stops
  abbrev pub EndsFor : Cause → Parts → CoreStats → Type 0
  EndsFor why new counts =
      ((row : ℕ) × (code : ℕ) × CommitEnds row new counts × (end_word g (AtCommit row) c ≡ told.Exited code) × (why ≡ cause.Exited code))
      ⊎ ((end_in (setting_of g) (budget g c most) c ≡ Some AtStop) × StopsSo g c why new counts)

  -- How the cycle ends, by the table, where so many commits may come from this cycle on. The statistics are then those of the
  -- run as far as it came; of a cycle that was given up nothing is said, nor of the statistics behind it.
  abbrev pub EndsSo : {F : Type 0} → Parts → CoreStats → Result Turn (CoreFault F) → Type 0
  EndsSo new counts (Ok turn.Going) =
      (end_in (setting_of g) (budget g c most) c ≡ None) × Stands g (suc c) false new (table (setting_of g) (suc c)) × HasStats (setting_of g) Whole (suc c) counts
  EndsSo new counts (Ok turn.Spent) = (row : ℕ) × CommitEnds row new counts × (end_word g (AtCommit row) c ≡ told.Budget)
  EndsSo new counts (Ok (turn.Ended why)) = EndsFor why new counts
  EndsSo new counts (Err f) = Unit {0}

  -- what is shown of it
  abbrev pub cycle_items : List Shown
  cycle_items = items_at g c (end_in (setting_of g) (budget g c most) c)

module _ {S F : Type 0} (took cut : S → List Shown → S → Type 0) where
  -- the cycle ends as the table's, and the watch was shown the items that have happened in it
  pub record CycleRuns (g : Given) (c most : ℕ) (m : Storage) (new : Parts) (counts : CoreStats) (before now : S) (result : Result Turn (CoreFault F)) : Type 0 where
    pub ends : EndsSo g c most new counts result
    pub memory : MemoryOf g c m result
    pub shown : (start : S) (h : List Shown) → took start h before → TakesSome took cut start h (cycle_items g c most) now result

  -- for every sound run over the trace whose table the parts stand for, with its statistics
  abbrev pub CycleSo : Trace → ℕ → ℕ → Parts → Parts → CoreStats → CoreStats → S → S → Result Turn (CoreFault F) → Type 0
  CycleSo trace c most old new counted counts before now result =
      (g : Given) → IsSound g → g.trace ≡ trace → Stands g c false old (table (setting_of g) c) → HasStats (setting_of g) Whole c counted
      → CycleRuns g c most old.arch new counts before now result
