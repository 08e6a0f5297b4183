-- The counts of the table grow from stage to stage by what each stage did.
use Rattle.std.specs.Prelude.{◌≡◌, ℕ, suc, ◌≤◌, List, ◌++◌}
use Rattle.ooo_table.specs.Row.{Row, sweep}
use Rattle.ooo_table.specs.Table.{Setting}
use Rattle.ooo_table.specs.Commit.{commit_row}
use Rattle.ooo_table.specs.Cycle.{table, after_commit, after_recover, after_issue, after_dispatch}
use Rattle.core_statistics.specs.Counted.{counts_in, plus_commits, plus_recovery, plus_issues, plus_dispatches, plus_fetches}

-- in cycle c: of the commit stage also where the younger rows have their turns to come
pub record CountsGrow (set : Setting) (c : ℕ) : Type 0 where
  pub commits : (younger older : List Row) → (table set c).rows ≡ younger ++ older
      → counts_in set c (younger ++ sweep (commit_row set c) older) ≡ plus_commits set c (sweep (commit_row set c) older) (counts_in set c (table set c).rows)
  pub recovery : 1 ≤ set.config.penalty
      → counts_in set (suc c) (after_recover set c).rows ≡ plus_recovery set c (after_recover set c).rows (counts_in set c (after_commit set c).rows)
  pub issues : counts_in set (suc c) (after_issue set c).rows ≡ plus_issues set c (after_issue set c).rows (counts_in set (suc c) (after_recover set c).rows)
  pub dispatches : counts_in set (suc c) (after_dispatch set c).rows ≡ plus_dispatches set c (after_dispatch set c).rows (counts_in set (suc c) (after_issue set c).rows)
  pub fetches : counts_in set (suc c) (table set (suc c)).rows ≡ plus_fetches set c (table set (suc c)).rows (counts_in set (suc c) (after_dispatch set c).rows)
