-- The table: cycle after cycle, each with its five stages in this order: commit, recovery, issue, dispatch, fetch.
use Rattle.std.specs.Prelude.{ℕ, zero, suc, [], ◌∷◌}
use Rattle.mem_hier.specs.Replay.{SettleAll}
use Rattle.ooo_table.specs.Table.{Setting, Table}
use Rattle.ooo_table.specs.Path.{first_fetch}
use Rattle.ooo_table.specs.Commit.{commit}
use Rattle.ooo_table.specs.Recovery.{recover}
use Rattle.ooo_table.specs.References.{references_of, predictor_events_of}
use Rattle.ooo_table.specs.Issue.{issue}
use Rattle.ooo_table.specs.Dispatch.{dispatch}
use Rattle.ooo_table.specs.Fetch.{fetch}

module _ (set : Setting) where
  -- the cycle is over, and so its references and predictor events are history
  abbrev pub close : ℕ → Table → Table
  close c t =
      record t {
        references = references_of set c t.rows t.references;
        predictor_events = predictor_events_of set c t.rows t.predictor_events;
      }

  abbrev pub cycle : ℕ → Table → Table
  cycle c t = close c (fetch set c (dispatch set c (issue set c (recover set c (commit set c t)))))

  -- after c cycles. The hierarchy is settled before the first one
  abbrev pub table : ℕ → Table
  table zero =
      record {
        rows = [];
        next_fetch = first_fetch set;
        references = SettleAll ∷ set.start_references;
        predictor_events = set.start_events;
      }
  table (suc c) = cycle c (table c)

  -- ---- within cycle c

  abbrev pub after_commit : ℕ → Table
  after_commit c = commit set c (table c)

  abbrev pub after_recover : ℕ → Table
  after_recover c = recover set c (after_commit c)

  abbrev pub after_issue : ℕ → Table
  after_issue c = issue set c (after_recover c)

  abbrev pub after_dispatch : ℕ → Table
  after_dispatch c = dispatch set c (after_issue c)

  abbrev pub after_fetch : ℕ → Table
  after_fetch c = fetch set c (after_dispatch c)
