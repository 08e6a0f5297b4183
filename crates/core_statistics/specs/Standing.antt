-- When counts are those of a run, and that each stage of a cycle keeps them so.
use Rattle.std.specs.Prelude.{◌≡◌, ℕ, suc, List, ◌∷◌, ◌++◌, length, Option, count_by}
use Rattle.ruu_core.specs.declared.station.Station.{Station}
use Rattle.ooo_front.specs.declared.row.FetchRow.{FetchRow}
use Rattle.ooo_table.specs.Row.{Row, is_at}
use Rattle.ooo_table.specs.Table.{Setting}
use Rattle.ooo_table.specs.Recovery.{recovers}
use Rattle.ooo_table.specs.Cycle.{table, after_commit, after_recover, after_issue, after_dispatch}
use Rattle.ooo_table.specs.Ends.{Extent, Whole}
use Rattle.ooo_table.specs.Events.{cycles_of}
use Rattle.ooo_table.specs.Counts.{counts_of}
use Rattle.ooo_table.specs.Machine.{Given, setting_of}
use Rattle.ooo_table.specs.MachineLaws.{IsSound}
use Rattle.core_parts.specs.declared.answers.Issued.{Issued}
use Rattle.core_parts.specs.Rows.{newest_number}
use Rattle.core_parts.specs.Stages.{CommitsAs, issued_in, FetchedAt}
use Rattle.core_statistics.specs.declared.stats.CoreStats.{CoreStats}
use Rattle.core_statistics.specs.Counted.{stats_of, counts_in, with_commit, with_issues, with_dispatches, with_fetches, with_cycle}
use Rattle.core_statistics.specs.StageCounts.{turned, committed_in, with_recovery_of}

module _ (set : Setting) where
  -- the statistics of a run that came so far: after c whole cycles, or ended in the next one
  abbrev pub HasStats : Extent → ℕ → CoreStats → Type 0
  HasStats e c o = o ≡ stats_of (counts_of set e c) (cycles_of e c)

  -- within a cycle: they are those of these rows, where n cycles came to their write-backs and so many have begun
  abbrev pub CountsAre : ℕ → ℕ → List Row → CoreStats → Type 0
  CountsAre n cycles rows o = o ≡ stats_of (counts_in set n rows) cycles

  -- counts of the rows before a stage have become those of the rows behind it
  abbrev pub CountsBecome : ℕ → List Row → ℕ → List Row → CoreStats → CoreStats → Type 0
  CountsBecome n rows m behind before now = (cycles : ℕ) → CountsAre n cycles rows before → CountsAre m cycles behind now

-- what counts become in cycle c
module _ (g : Given) (c : ℕ) where
  -- counts of the table before the cycle have become those of these rows
  abbrev pub CommitsCounted : List Row → CoreStats → CoreStats → Type 0
  CommitsCounted rows before now = CountsBecome (setting_of g) c (table (setting_of g) c).rows c rows before now

  abbrev pub RecoveryCounted : CoreStats → CoreStats → Type 0
  RecoveryCounted before now = CountsBecome (setting_of g) c (after_commit (setting_of g) c).rows (suc c) (after_recover (setting_of g) c).rows before now

  abbrev pub IssuesCounted : CoreStats → CoreStats → Type 0
  IssuesCounted before now = CountsBecome (setting_of g) (suc c) (after_recover (setting_of g) c).rows (suc c) (after_issue (setting_of g) c).rows before now

  abbrev pub DispatchesCounted : CoreStats → CoreStats → Type 0
  DispatchesCounted before now = CountsBecome (setting_of g) (suc c) (after_issue (setting_of g) c).rows (suc c) (after_dispatch (setting_of g) c).rows before now

  abbrev pub FetchesCounted : CoreStats → CoreStats → Type 0
  FetchesCounted before now = CountsBecome (setting_of g) (suc c) (after_dispatch (setting_of g) c).rows (suc c) (table (setting_of g) (suc c)).rows before now

  -- what a core counts keeps its counts those of the run
  pub record CountsStand : Type 0 where
    -- a cycle is counted when it begins
    pub begin : (o : CoreStats) → HasStats (setting_of g) Whole c o → CountsAre (setting_of g) c (suc c) (table (setting_of g) c).rows (with_cycle o)
    -- the row r commits as the station s, the first one behind n others
    pub commit : (n : ℕ) (younger older left passed : List Row) (r : Row) (s : Station) (before now : CoreStats)
        → (table (setting_of g) c).rows ≡ younger ++ older → (table (setting_of g) c).rows ≡ left ++ (r ∷ (passed ++ older))
        → committed_in g c (turned g c older) ≡ n → committed_in g c (turned g c (r ∷ (passed ++ older))) ≡ suc n → CommitsAs g c s r (passed ++ older)
        → CommitsCounted (younger ++ turned g c older) before now → CommitsCounted (left ++ turned g c (r ∷ (passed ++ older))) before (with_commit s now)
    pub recovery : (answer : Option ℕ) (next : ℕ) (o : CoreStats) → IsSound g
        → answer ≡ newest_number (recovers (setting_of g) c) (after_commit (setting_of g) c).rows → next ≡ length (after_commit (setting_of g) c).rows
        → RecoveryCounted o (with_recovery_of answer next o)
    pub issues : (answer : List Issued) (o : CoreStats) → answer ≡ issued_in c (after_issue (setting_of g) c).rows → IssuesCounted o (with_issues answer o)
    pub dispatches : (n : ℕ) (o : CoreStats) → count_by (λ r. is_at c r.dispatched) (after_dispatch (setting_of g) c).rows ≡ n → DispatchesCounted o (with_dispatches n o)
    pub fetches : (answer : List FetchRow) (o : CoreStats) → FetchedAt g c (table (setting_of g) (suc c)).rows answer → FetchesCounted o (with_fetches (length answer) o)
