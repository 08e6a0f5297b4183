-- Within a stage: what holds when the turns of the older rows are over and those of the younger ones aren't.
use Rattle.std.specs.Prelude.{◌≡◌, ℕ, true, List, ◌∷◌, ◌++◌, length, Some, None}
use Rattle.ooo_table.specs.Row.{Row, sweep}
use Rattle.ooo_table.specs.Table.{Setting}
use Rattle.ooo_table.specs.Commit.{commit_row}
use Rattle.ooo_table.specs.Dispatch.{dispatch_row}
use Rattle.ooo_table.specs.Cycle.{table, after_commit, after_issue}
use Rattle.ooo_table.specs.Ends.{AtCommit, rows_at, is_last, last_commit}
use Rattle.ooo_table.specs.Later.{Each}
use Rattle.ooo_table.specs.CycleLaws.{Newest, Linked}

module _ (set : Setting) where
  -- the older rows had their turns of the dispatch stage
  abbrev pub dispatched_part : ℕ → List Row → List Row → List Row
  dispatched_part c younger older = younger ++ sweep (dispatch_row set c) older

  -- the waiting rows are the newest ones and linked, as before the stage and behind it
  pub record WithinDispatch (c : ℕ) (younger older : List Row) : Type 0 where
    pub newest : Each Newest (dispatched_part c younger older)
    pub linked : Linked set (dispatched_part c younger older) (after_issue set c).next_fetch

  -- the older rows and then this row, after their turns of the commit stage
  abbrev pub committed_part : ℕ → List Row → Row → List Row
  committed_part c older r = sweep (commit_row set c) (r ∷ older)

  -- the turn of the row r meets a commit that ends the run, and none of the older rows met one
  pub record MeetsEnd (most c : ℕ) (older : List Row) (r : Row) : Type 0 where
    pub before : last_commit set most c (sweep (commit_row set c) older) ≡ None
    pub last : is_last set most c (sweep (commit_row set c) older) (commit_row set c (sweep (commit_row set c) older) r) ≡ true

  -- it is the last commit of the run, and those commits have happened
  pub record EndsThere (most c : ℕ) (younger older : List Row) (r : Row) : Type 0 where
    pub number : last_commit set most c (after_commit set c).rows ≡ Some (length older)
    pub rows : rows_at set (AtCommit (length older)) c ≡ younger ++ committed_part c older r
