-- The commit stage of a cycle under a watch: how it ends, what it leaves, and what is shown of it.
use Rattle.std.specs.Prelude.{◌≡◌, ℕ, ◌+◌, false, List, [], Option, Some, None, Result, Ok, Err, count_by, ◌==◌, if◌then◌else◌}
use Rattle.event_trace.specs.declared.trace.Trace.{Trace}
use Rattle.sim_safe.specs.declared.observer.Meaning.{Meaning}
use Rattle.sim_safe.specs.declared.record.CommitRecord.{CommitRecord}
use Rattle.sim_safe.specs.Observed.{SawCounts, SawWithoutMemory}
use Rattle.sim_safe.specs.Record.{item_of}
use Rattle.ooo_table.specs.declared.event.EndWord.{EndWord}
use Rattle.ooo_table.specs.declared.event.EndWord.TheVariants as told
use Rattle.ooo_table.specs.Row.{Row, is_at}
use Rattle.ooo_table.specs.Cycle.{table, after_commit}
use Rattle.ooo_table.specs.Ends.{AtCommit, rows_at, last_commit, end_in}
use Rattle.ooo_table.specs.Events.{end_word}
use Rattle.ooo_table.specs.Machine.{Given, setting_of}
use Rattle.ooo_table.specs.MachineLaws.{IsSound}
use Rattle.ooo_table.specs.RunLaws.{commits_among}
use Rattle.core_parts.specs.declared.parts.Parts.{Parts}
use Rattle.core_parts.specs.Stands.{Stands}
use Rattle.core_watch.specs.Shown.{Shown, TakesAll, commit_of}
use Rattle.core_watch.specs.Items.{items_in}
use Rattle.core_watch.specs.StageItems.{commit_items}
use Rattle.core_statistics.specs.declared.stats.CoreStats.{CoreStats}
use Rattle.core_statistics.specs.Standing.{CommitsCounted}
use Rattle.watched_commit.specs.declared.stage.Committed.{Committed}
use Rattle.watched_commit.specs.declared.stage.Committed.TheVariants as stage

-- ---- a row that commits

-- what is shown of it: its commit in cycle c, and behind it what it did
abbrev pub shown_by : Trace → ℕ → ℕ → Option CommitRecord → List Shown
shown_by trace c row None = []
shown_by trace c row (Some did) = commit_of c row (item_of trace did)

-- How the stage ends with a row that exits with this code or doesn't, if it does: the row is the n-th that commits in the cycle.
abbrev pub end_with : Option ℕ → ℕ → ℕ → Option Committed
end_with (Some code) n most = Some (stage.Exited code)
end_with None n most = if n == most then Some stage.Spent else None

-- ---- the stage

-- the rows behind the stage, which is whole or ends with the commit of a row
abbrev pub rows_behind : Given → ℕ → Option ℕ → List Row
rows_behind g c None = (after_commit (setting_of g) c).rows
rows_behind g c (Some row) = rows_at (setting_of g) (AtCommit row) c

module _ (g : Given) (c most : ℕ) where
  -- the commits since the start with which the run ends, where so many may come from cycle c on
  abbrev pub budget : ℕ
  budget = commits_among (table (setting_of g) c).rows + most

  -- the number of the row of cycle c whose commit ends the run, if one does
  abbrev pub last_row : Option ℕ
  last_row = last_commit (setting_of g) budget c (after_commit (setting_of g) c).rows

  -- what is shown of the stage
  abbrev pub stage_items : List Shown
  stage_items = commit_items g c (rows_behind g c last_row)

  -- the stage is whole, and so many rows committed in it, which were counted
  pub record IsWhole (n : ℕ) (new : Parts) (counted counts : CoreStats) : Type 0 where
    pub none : last_row ≡ None
    pub stands : Stands g c false new (after_commit (setting_of g) c)
    pub count : count_by (λ r. is_at c r.committed) (after_commit (setting_of g) c).rows ≡ n
    pub stats : CommitsCounted g c (after_commit (setting_of g) c).rows counted counts

  -- The run ends with the commit of this row, and its end is told so. Nothing else of the cycle is shown, and only the commits up
  -- to it are counted.
  pub record EndsWith (row : ℕ) (word : EndWord) (new : Parts) (counted counts : CoreStats) : Type 0 where
    pub last : last_row ≡ Some row
    pub ends : end_in (setting_of g) budget c ≡ Some (AtCommit row)
    pub told : end_word g (AtCommit row) c ≡ word
    pub items : stage_items ≡ items_in g (AtCommit row) c c
    pub stands : Stands g c false new (record (table (setting_of g) c) { rows = rows_at (setting_of g) (AtCommit row) c })
    pub stats : CommitsCounted g c (rows_at (setting_of g) (AtCommit row) c) counted counts

  abbrev pub Leaves : Committed → Parts → CoreStats → CoreStats → Type 0
  Leaves (stage.All n) new counted counts = IsWhole n new counted counts
  Leaves stage.Spent new counted counts = (row : ℕ) × EndsWith row told.Budget new counted counts
  Leaves (stage.Exited code) new counted counts = (row : ℕ) × EndsWith row (told.Exited code) new counted counts

-- What the stage leaves of the parts, over every run whose table they stood for, and what its counts become. The state stays.
-- Behind a fault nothing is said of any.
abbrev pub CommitsRows : {F : Type 0} → ℕ → ℕ → Parts → Parts → CoreStats → CoreStats → Result Committed F → Type 0
CommitsRows c most old new counted counts (Ok answer) =
    (g : Given) → IsSound g → Stands g c false old (table (setting_of g) c) → Leaves g c most answer new counted counts × (new.arch ≡ old.arch)
CommitsRows c most old new counted counts (Err f) = Unit {0}

-- and what a watch has taken of it, where the run has this trace
pub record Watched {S F : Type 0} (took cut : S → List Shown → S → Type 0) (faults : S → ℕ × ℕ) (means : F → Meaning) (takes_none : S → Type 0)
    (trace : Trace) (c most : ℕ) (old : Parts) (before now : S) (answer : Result Committed F) : Type 0 where
  pub items : (start : S) (h : List Shown) → took start h before → (g : Given) → IsSound g → g.trace ≡ trace → Stands g c false old (table (setting_of g) c)
      → TakesAll took cut start h (stage_items g c most) now answer
  pub count : SawCounts means (faults before) (faults now) answer
  pub memory : takes_none before → SawWithoutMemory takes_none means now answer
