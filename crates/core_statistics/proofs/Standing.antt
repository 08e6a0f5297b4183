-- Counts of the table before a stage become those of the table behind it by what is counted of the stage.
use Rattle.std.proofs.Common.{◌≡◌, ℕ, suc, List, ◌∷◌, ◌++◌, Option, sym, ap, ◌∙◌, length}
use Rattle.std.specs.Prelude.{count_by}
use Rattle.ruu_core.specs.declared.station.Station.{Station}
use Rattle.ooo_front.specs.declared.row.FetchRow.{FetchRow}
use Rattle.ooo_table.specs.Row.{Row, is_at}
use Rattle.ooo_table.specs.Table.{Setting}
use Rattle.ooo_table.specs.Recovery.{recovers}
use Rattle.ooo_table.specs.Cycle.{table, after_commit, after_recover, after_issue, after_dispatch}
use Rattle.ooo_table.specs.Ends.{Whole}
use Rattle.ooo_table.specs.Machine.{Given, setting_of}
use Rattle.ooo_table.specs.MachineLaws.{IsSound}
use Rattle.core_parts.specs.declared.answers.Issued.{Issued}
use Rattle.core_parts.specs.Rows.{newest_number}
use Rattle.core_parts.specs.Stages.{CommitsAs, issued_in, FetchedAt}
use Rattle.core_statistics.specs.declared.stats.CoreStats.{CoreStats}
use Rattle.core_statistics.specs.Counted.{stats_of, counts_in, with_commit, with_issues, with_dispatches, with_fetches, with_cycle}
use Rattle.core_statistics.specs.StageCounts.{turned, committed_in, with_recovery_of}
use Rattle.core_statistics.specs.Standing.{HasStats, CountsAre, CommitsCounted, RecoveryCounted, IssuesCounted, DispatchesCounted, FetchesCounted, CountsStand}
use Rattle.core_statistics.proofs.Grow.{commits_grow, recovery_grows, issues_grow, dispatches_grow, fetches_grow}
use Rattle.core_statistics.proofs.Staged.{commit_counts, recovery_counts, issue_counts, dispatch_counts, fetch_counts, cycle_counts}

module _ (g : Given) (c : ℕ) where
  abbrev set : Setting
  set = setting_of g

  begins : (o : CoreStats) → HasStats set Whole c o → CountsAre set c (suc c) (table set c).rows (with_cycle o)
  begins o is = ap with_cycle is ∙ cycle_counts g c (counts_in set c (table set c).rows) c

  commit_becomes : (n : ℕ) (younger older left passed : List Row) (r : Row) (s : Station) (before now : CoreStats)
      → (table set c).rows ≡ younger ++ older → (table set c).rows ≡ left ++ (r ∷ (passed ++ older))
      → committed_in g c (turned g c older) ≡ n → committed_in g c (turned g c (r ∷ (passed ++ older))) ≡ suc n → CommitsAs g c s r (passed ++ older)
      → CommitsCounted g c (younger ++ turned g c older) before now
      → CommitsCounted g c (left ++ turned g c (r ∷ (passed ++ older))) before (with_commit s now)
  commit_becomes n younger older left passed r s before now rows split first then how counts cycles is =
      ap (with_commit s) (counts cycles is ∙ ap (λ x. stats_of x cycles) (commits_grow set c younger older rows))
      ∙ (commit_counts g c (counts_in set c (table set c).rows) cycles n older passed r s first then how
      ∙ ap (λ x. stats_of x cycles) (sym (commits_grow set c left (r ∷ (passed ++ older)) split)))

  recovery_becomes : (answer : Option ℕ) (next : ℕ) (o : CoreStats) → IsSound g → answer ≡ newest_number (recovers set c) (after_commit set c).rows
      → next ≡ length (after_commit set c).rows → RecoveryCounted g c o (with_recovery_of answer next o)
  recovery_becomes answer next o sound e f cycles is =
      ap (λ n. with_recovery_of answer n o) f
      ∙ (ap (with_recovery_of answer (length (after_commit set c).rows)) is
      ∙ (recovery_counts g c (counts_in set c (after_commit set c).rows) cycles answer sound e
      ∙ ap (λ x. stats_of x cycles) (sym (recovery_grows set c sound.config.penalty.least))))

  issues_become : (answer : List Issued) (o : CoreStats) → answer ≡ issued_in c (after_issue set c).rows → IssuesCounted g c o (with_issues answer o)
  issues_become answer o e cycles is =
      ap (with_issues answer) is
      ∙ (issue_counts g c (counts_in set (suc c) (after_recover set c).rows) cycles (after_issue set c).rows answer e
      ∙ ap (λ x. stats_of x cycles) (sym (issues_grow set c)))

  dispatches_become : (n : ℕ) (o : CoreStats) → count_by (λ r. is_at c r.dispatched) (after_dispatch set c).rows ≡ n → DispatchesCounted g c o (with_dispatches n o)
  dispatches_become n o e cycles is =
      ap (with_dispatches n) is
      ∙ (dispatch_counts g c (counts_in set (suc c) (after_issue set c).rows) cycles n (after_dispatch set c).rows e
      ∙ ap (λ x. stats_of x cycles) (sym (dispatches_grow set c)))

  fetches_become : (answer : List FetchRow) (o : CoreStats) → FetchedAt g c (table set (suc c)).rows answer → FetchesCounted g c o (with_fetches (length answer) o)
  fetches_become answer o e cycles is =
      ap (with_fetches (length answer)) is
      ∙ (fetch_counts g c (counts_in set (suc c) (after_dispatch set c).rows) cycles (table set (suc c)).rows answer e
      ∙ ap (λ x. stats_of x cycles) (sym (fetches_grow set c)))

pub counts_stand : (g : Given) (c : ℕ) → CountsStand g c
counts_stand g c =
    record {
      begin = begins g c;
      commit = commit_becomes g c;
      recovery = recovery_becomes g c;
      issues = issues_become g c;
      dispatches = dispatches_become g c;
      fetches = fetches_become g c;
    }
