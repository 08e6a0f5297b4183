-- The dispatch stage: waiting rows enter the unit in row order. A row that can't holds up all rows behind it.
use Rattle.std.specs.Prelude.{ℕ, Bool, not, List, Some, nat_lt, ◌==◌, ◌&&◌, ◌||◌, if◌then◌else◌, count_by, is_some}
use Rattle.std.specs.List.{list_all, list_any}
use Rattle.ooo_table.specs.Row.{Row, is_at, sweep}
use Rattle.ooo_table.specs.Execution.{uses_memory}
use Rattle.ooo_table.specs.Table.{Setting, Table}
use Rattle.ooo_table.specs.Path.{execution, is_exit}
use Rattle.ooo_table.specs.Done.{live, waiting}

module _ (set : Setting) where
  -- the row is the first waiting one, and its words were there before c
  abbrev pub is_first : ℕ → List Row → Row → Bool
  is_first c older r = waiting r && nat_lt r.fetched.queued c && list_all (λ o. not (waiting o)) older

  -- the unit has a place, and the load/store queue has one where the row is a load or store
  abbrev pub has_place : List Row → Row → Bool
  has_place older r =
      nat_lt (count_by live older) set.config.ruu
      && (not (uses_memory (execution set r).memory) || nat_lt (count_by (λ o. live o && uses_memory (execution set o).memory) older) set.config.lsq)

  -- A right row that can't be done isn't dispatched, and a right call only into an empty unit. Of wrong rows only calls
  -- are not.
  abbrev pub may_enter : List Row → Row → Bool
  may_enter older r =
      if r.fetched.right then not (execution set r).stops && (not (execution set r).call || (count_by live older == 0)) else not (execution set r).call

  -- the row is dispatched at c: it is first, width and place are left, it may enter, no call was dispatched in this
  -- cycle, and no exit at all
  abbrev pub dispatches : ℕ → List Row → Row → Bool
  dispatches c older r =
      is_first c older r && nat_lt (count_by (λ o. is_at c o.dispatched) older) set.config.decode
      && has_place older r && may_enter older r
      && not (list_any (λ o. is_at c o.dispatched && (execution set o).call) older)
      && not (list_any (λ o. is_some o.dispatched && is_exit set o) older)

  abbrev pub dispatch_row : ℕ → List Row → Row → Row
  dispatch_row c older r = if dispatches c older r then record r { dispatched = Some c } else r

  abbrev pub dispatch : ℕ → Table → Table
  dispatch c t = record t { rows = sweep (dispatch_row c) t.rows }

  -- at this row the machine stops in cycle c: it is first and right, can't be done, and no row is live
  abbrev pub stops_machine : ℕ → List Row → Row → Bool
  stops_machine c older r =
      is_first c older r && r.fetched.right && (execution set r).stops && (count_by live older == 0)
