-- The commit stage: right rows leave in row order, a width of them in a cycle, and no more stores than there are ports.
use Rattle.std.specs.Prelude.{ℕ, Bool, not, List, Some, nat_lt, ◌&&◌, ◌||◌, if◌then◌else◌, count_by, is_some, is_none}
use Rattle.std.specs.List.{list_all}
use Rattle.ooo_table.specs.Row.{Row, is_at, sweep}
use Rattle.ooo_table.specs.Table.{Setting, Table}
use Rattle.ooo_table.specs.Path.{stores}
use Rattle.ooo_table.specs.Done.{done_before}

module _ (set : Setting) where
  -- the row commits at c: it is right, hasn't committed, was done before, every right row before it has committed, and
  -- width and, for a store, a port are left by the rows before it
  abbrev pub commits : ℕ → List Row → Row → Bool
  commits c older r =
      r.fetched.right && is_none r.committed && done_before set c older r
      && list_all (λ o. not o.fetched.right || is_some o.committed) older
      && nat_lt (count_by (λ o. is_at c o.committed) older) set.config.commit
      && (not (stores set r) || nat_lt (count_by (λ o. is_at c o.committed && stores set o) older) set.config.ports)

  abbrev pub commit_row : ℕ → List Row → Row → Row
  commit_row c older r = if commits c older r then record r { committed = Some c } else r

  abbrev pub commit : ℕ → Table → Table
  commit c t = record t { rows = sweep (commit_row c) t.rows }
