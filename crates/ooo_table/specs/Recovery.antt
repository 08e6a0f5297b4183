-- Write-back and recovery: where a right mispredicted row writes back, every later row is squashed, and fetching goes on
-- behind that row after a penalty.
use Rattle.std.specs.Prelude.{ℕ, Bool, List, Some, ◌&&◌, if◌then◌else◌, find, is_none}
use Rattle.std.specs.List.{list_any}
use Rattle.ooo_table.specs.Row.{Row, is_at, sweep}
use Rattle.ooo_table.specs.Table.{Setting, Table}
use Rattle.ooo_table.specs.Path.{mispredicted, redirected}
use Rattle.ooo_table.specs.Done.{written}

module _ (set : Setting) where
  abbrev pub recovers : ℕ → Row → Bool
  recovers c r = mispredicted set r && is_at c (written set r)

  abbrev pub squash_row : ℕ → List Row → Row → Row
  squash_row c older r =
      if list_any (recovers c) older && is_none r.squashed then record r { squashed = Some c } else r

  abbrev pub recover : ℕ → Table → Table
  recover c t =
      record t {
        rows = sweep (squash_row c) t.rows;
        next_fetch = redirected set c (find (recovers c) t.rows) t.next_fetch;
      }
