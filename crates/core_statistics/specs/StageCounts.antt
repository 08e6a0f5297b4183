-- How a core counts stage by stage: what its calls add to counts of the table are counts of the table again.
use Rattle.std.specs.Prelude.{◌≡◌, ℕ, suc, ◌-◌, List, ◌∷◌, ◌++◌, length, Option, Some, None, count_by}
use Rattle.ruu_core.specs.declared.station.Station.{Station}
use Rattle.ooo_front.specs.declared.row.FetchRow.{FetchRow}
use Rattle.ooo_table.specs.Row.{Row, is_at, sweep}
use Rattle.ooo_table.specs.Commit.{commit_row}
use Rattle.ooo_table.specs.Recovery.{recovers}
use Rattle.ooo_table.specs.Cycle.{after_commit, after_recover}
use Rattle.ooo_table.specs.Counts.{Counts}
use Rattle.ooo_table.specs.Machine.{Given, setting_of}
use Rattle.ooo_table.specs.MachineLaws.{IsSound}
use Rattle.core_parts.specs.declared.answers.Issued.{Issued}
use Rattle.core_parts.specs.Rows.{newest_number}
use Rattle.core_parts.specs.Stages.{CommitsAs, issued_in, FetchedAt}
use Rattle.core_statistics.specs.declared.stats.CoreStats.{CoreStats}
use Rattle.core_statistics.specs.Counted.{stats_of, plus_commits, plus_recovery, plus_issues, plus_dispatches, plus_fetches, with_commit, with_recovery, with_issues, with_dispatches, with_fetches, with_cycle}

-- a recovery counts all rows behind its row, of so many
abbrev pub with_recovery_of : Option ℕ → ℕ → CoreStats → CoreStats
with_recovery_of None count o = o
with_recovery_of (Some row) count o = with_recovery (count - suc row) o

module _ (g : Given) (c : ℕ) where
  -- the older rows behind their turns of the commit stage
  abbrev pub turned : List Row → List Row
  turned older = sweep (commit_row (setting_of g) c) older

  abbrev pub committed_in : List Row → ℕ
  committed_in rows = count_by (λ r. is_at c r.committed) rows

  pub record StagesCount : Type 0 where
    -- the row r commits as the station s, the first one behind n others
    pub commit : (k : Counts) (cycles n : ℕ) (older passed : List Row) (r : Row) (s : Station)
        → committed_in (turned older) ≡ n → committed_in (turned (r ∷ (passed ++ older))) ≡ suc n → CommitsAs g c s r (passed ++ older)
        → with_commit s (stats_of (plus_commits (setting_of g) c (turned older) k) cycles) ≡ stats_of (plus_commits (setting_of g) c (turned (r ∷ (passed ++ older))) k) cycles
    pub recovery : (k : Counts) (cycles : ℕ) (answer : Option ℕ) → IsSound g
        → answer ≡ newest_number (recovers (setting_of g) c) (after_commit (setting_of g) c).rows
        → with_recovery_of answer (length (after_commit (setting_of g) c).rows) (stats_of k cycles) ≡ stats_of (plus_recovery (setting_of g) c (after_recover (setting_of g) c).rows k) cycles
    pub issues : (k : Counts) (cycles : ℕ) (rows : List Row) (answer : List Issued) → answer ≡ issued_in c rows
        → with_issues answer (stats_of k cycles) ≡ stats_of (plus_issues (setting_of g) c rows k) cycles
    pub dispatches : (k : Counts) (cycles n : ℕ) (rows : List Row) → count_by (λ r. is_at c r.dispatched) rows ≡ n
        → with_dispatches n (stats_of k cycles) ≡ stats_of (plus_dispatches (setting_of g) c rows k) cycles
    pub fetches : (k : Counts) (cycles : ℕ) (rows : List Row) (answer : List FetchRow) → FetchedAt g c rows answer
        → with_fetches (length answer) (stats_of k cycles) ≡ stats_of (plus_fetches (setting_of g) c rows k) cycles
    pub cycle : (k : Counts) (cycles : ℕ) → with_cycle (stats_of k cycles) ≡ stats_of k (suc cycles)
