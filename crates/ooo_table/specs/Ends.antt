-- How a run ends, and which marks have happened by then.
use Rattle.std.specs.Prelude.{ℕ, suc, Bool, not, List, [], ◌∷◌, length, Option, Some, None, nat_lt, nat_le, ◌==◌, ◌&&◌, ◌||◌, if◌then◌else◌, count_by, is_some}
use Rattle.std.specs.List.{list_any}
use Rattle.ooo_table.specs.Row.{Row, is_at, returned, every, sweep}
use Rattle.ooo_table.specs.Table.{Setting, Table}
use Rattle.ooo_table.specs.Path.{is_exit}
use Rattle.ooo_table.specs.Done.{unsquashed_before, written}
use Rattle.ooo_table.specs.Commit.{commit, commit_row}
use Rattle.ooo_table.specs.Recovery.{recover}
use Rattle.ooo_table.specs.Issue.{issue}
use Rattle.ooo_table.specs.Dispatch.{dispatch, stops_machine}
use Rattle.ooo_table.specs.Cycle.{table}

-- How far a run came after c whole cycles: no further; into the commit stage of the next one, to the commit of this row;
-- or into its dispatch stage
pub data Extent : Type 0 where
  Whole : Extent
  AtCommit : (row : ℕ) → Extent
  AtStop : Extent

-- how many cycles came to their write-backs
abbrev pub recovered_cycles : Extent → ℕ → ℕ
recovered_cycles Whole c = c
recovered_cycles (AtCommit row) c = c
recovered_cycles AtStop c = suc c

-- a W or MW, where its cycle came and the row wasn't squashed before
abbrev pub happened : ℕ → Row → Option ℕ → Option ℕ
happened n r None = None
happened n r (Some w) = if nat_lt w n && unsquashed_before (Some w) r then Some w else None

abbrev pub or_else : Option ℕ → Option ℕ → Option ℕ
or_else (Some a) b = Some a
or_else None b = b

abbrev pub or_stop : Bool → Option ℕ → Option Extent
or_stop stops (Some row) = Some (AtCommit row)
or_stop stops None = if stops then Some AtStop else None

module _ (set : Setting) where
  -- ---- what a cycle meets

  -- in the cycle behind t an exit commits; the machine stops; a row commits
  abbrev pub exits_in : ℕ → Table → Bool
  exits_in c t = list_any (λ r. is_at c r.committed && is_exit set r) (commit set c t).rows

  abbrev pub stops_in : ℕ → Table → Bool
  stops_in c t = not (every (λ older r. not (stops_machine set c older r)) (issue set c (recover set c (commit set c t))).rows)

  abbrev pub commits_in : ℕ → Table → Bool
  commits_in c t = list_any (λ r. is_at c r.committed) (commit set c t).rows

  -- an exit has committed
  abbrev pub exited : Table → Bool
  exited t = list_any (λ r. is_some r.committed && is_exit set r) t.rows

  -- ---- marks that have happened

  -- the commit stage, up to the row with this number
  abbrev pub commit_up_to : ℕ → ℕ → List Row → Row → Row
  commit_up_to row c older r = if nat_le (length older) row then commit_row set c older r else r

  -- The rows with the marks that have happened: of a cycle that ends in its commit stage only the commits up to the row
  -- that ends it, of one that ends in its dispatch stage all but fetches.
  abbrev pub rows_at : Extent → ℕ → List Row
  rows_at Whole c = (table set c).rows
  rows_at (AtCommit row) c = sweep (commit_up_to row c) (table set c).rows
  rows_at AtStop c = (dispatch set c (issue set c (recover set c (commit set c (table set c))))).rows

  -- W and MW of a row, where they have happened
  abbrev pub written_by : Extent → ℕ → Row → Option ℕ
  written_by e c r = happened (recovered_cycles e c) r (written set r)

  abbrev pub returned_by : Extent → ℕ → Row → Option ℕ
  returned_by e c r = happened (recovered_cycles e c) r (returned r)

  -- ---- where a run ends

  -- the row commits at c and ends the run: it is an exit, or with it the budget of commits is used up
  abbrev pub is_last : ℕ → ℕ → List Row → Row → Bool
  is_last most c older r =
      is_at c r.committed
      && (is_exit set r || (count_by (λ o. is_some o.committed) (r ∷ older) == most))

  -- the number of the first such row
  abbrev pub last_commit : ℕ → ℕ → List Row → Option ℕ
  last_commit most c [] = None
  last_commit most c (r ∷ older) =
      or_else (last_commit most c older) (if is_last most c older r then Some (length older) else None)

  -- How a run with a budget of commits, which is not 0, ends in the cycle after c whole ones, if it does. `specs/Finish.antt`
  -- has the whole run.
  abbrev pub end_in : ℕ → ℕ → Option Extent
  end_in most c = or_stop (stops_in c (table set c)) (last_commit most c (commit set c (table set c)).rows)
