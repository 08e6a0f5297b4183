-- What is counted of a table, over the marks that have happened.
use Rattle.std.specs.Prelude.{ℕ, Bool, not, ◌==◌, ◌&&◌, length, count_by, is_some}
use Rattle.ooo_table.specs.Row.{Row, not_forwarded}
use Rattle.ooo_table.specs.Table.{Setting}
use Rattle.ooo_table.specs.Path.{execution, loads, stores, mispredicted}
use Rattle.ooo_table.specs.Ends.{Extent, rows_at, written_by}

pub record Counts : Type 0 where
  -- commits; of them loads, stores, branches and jumps, and system calls
  pub insn : ℕ
  pub loads : ℕ
  pub stores : ℕ
  pub branches : ℕ
  pub calls : ℕ
  -- rows of any path
  pub fetched : ℕ
  pub dispatched : ℕ
  pub squashed : ℕ
  pub recoveries : ℕ
  -- loads that got their value from an older store, wrong rows among them
  pub forwarded : ℕ
  -- committed branches and jumps whose predicted address was the next one
  pub addr_hits : ℕ

module _ (set : Setting) where
  -- a row that has committed and passes
  abbrev pub committed_as : (Row → Bool) → Row → Bool
  committed_as p r = is_some r.committed && p r

  abbrev pub is_hit : Row → Bool
  is_hit r = (execution set r).control && (r.fetched.predicted == (execution set r).next)

  -- a mispredicted row recovers where its W has happened
  abbrev pub has_recovered : Extent → ℕ → Row → Bool
  has_recovered e c r = mispredicted set r && is_some (written_by set e c r)

  abbrev pub counts_of : Extent → ℕ → Counts
  counts_of e c =
      record {
        insn = count_by (λ r. is_some r.committed) (rows_at set e c);
        loads = count_by (committed_as (loads set)) (rows_at set e c);
        stores = count_by (committed_as (stores set)) (rows_at set e c);
        branches = count_by (committed_as (λ r. (execution set r).control)) (rows_at set e c);
        calls = count_by (committed_as (λ r. (execution set r).call)) (rows_at set e c);
        fetched = length (rows_at set e c);
        dispatched = count_by (λ r. is_some r.dispatched) (rows_at set e c);
        squashed = count_by (λ r. is_some r.squashed) (rows_at set e c);
        recoveries = count_by (has_recovered e c) (rows_at set e c);
        forwarded = count_by (λ r. not (not_forwarded r.access)) (rows_at set e c);
        addr_hits = count_by (committed_as is_hit) (rows_at set e c);
      }
