-- Facts that every turn of every stage keeps hold of all rows, wherever a run ends.
use Rattle.std.proofs.Common.{ℕ, zero, suc, List, [], ◌∷◌}
use Rattle.std.specs.Prelude.{nat_le, length}
use Rattle.std.specs.List.{AllZip}
use Rattle.std.proofs.lemmas.Bool.{cond_both}
use Rattle.mem_hier.specs.Replay.{Reference}
use Rattle.bpred_unit.specs.declared.predictor.Look.{Look}
use Rattle.ooo_table.specs.Row.{Row, sweep}
use Rattle.ooo_table.specs.Table.{Setting, Table, NextFetch}
use Rattle.ooo_table.specs.Commit.{commit, commit_row}
use Rattle.ooo_table.specs.Recovery.{recover, squash_row}
use Rattle.ooo_table.specs.References.{store_references, predictor_events_of}
use Rattle.ooo_table.specs.Issue.{issue, issue_row}
use Rattle.ooo_table.specs.Dispatch.{dispatch, dispatch_row}
use Rattle.ooo_table.specs.Fetch.{fetch_up_to, fetch_one, may_fetch, fetched_row}
use Rattle.ooo_table.specs.Cycle.{table, cycle}
use Rattle.ooo_table.specs.Ends.{Extent, Whole, AtCommit, AtStop, rows_at, commit_up_to}
use Rattle.ooo_table.specs.Later.{Each}
use Rattle.ooo_table.proofs.Order.{Changed}
use Rattle.ooo_table.proofs.RowFacts.{sweep_keeps, changed_commit, changed_squash, changed_dispatch, changed_issue, same_changed}

module _ (set : Setting) where
  -- one turn, behind rows that have the fact
  abbrev pub Turn : ℕ → (List Row → Row → Type 0) → (List Row → Row → Row) → Type 0
  Turn c P f = (older before : List Row) (r : Row) → AllZip (Changed c) older before → Each P before → P older r → P before (f before r)

  pub record Kept (c : ℕ) (P : List Row → Row → Type 0) : Type 0 where
    pub at_commit : Turn c P (commit_row set c)
    pub at_squash : Turn c P (squash_row set c)
    pub at_issue : (base : List Reference) (start : List Row) → Turn c P (issue_row set c base start)
    pub at_dispatch : Turn c P (dispatch_row set c)
    pub at_fetch : (older : List Row) (u : NextFetch) (look : Look) (queued : ℕ) → Each P older → P older (fetched_row set c u look queued)
    -- no turn at all
    pub still : (older before : List Row) (r : Row) → AllZip (Changed c) older before → Each P before → P older r → P before r

  pub kept_marks : (c : ℕ) (P : List Row → Row → Type 0) → Kept c P → (t : Table) → Each P t.rows
      → Each P (dispatch set c (issue set c (recover set c (commit set c t)))).rows
  kept_marks c P k t g =
      let one = commit set c t in
      let two = recover set c one in
      let three = issue set c two in
      let g1 : Each P one.rows = (sweep_keeps P (Changed c) (commit_row set c) (changed_commit set c) k.at_commit t.rows g).1 in
      let g2 : Each P two.rows = (sweep_keeps P (Changed c) (squash_row set c) (changed_squash set c) k.at_squash one.rows g1).1 in
      let base = store_references set c two.rows two.references in
      let g3 : Each P three.rows = (sweep_keeps P (Changed c) (issue_row set c base two.rows) (changed_issue set c base two.rows) (k.at_issue base two.rows) two.rows g2).1 in
      (sweep_keeps P (Changed c) (dispatch_row set c) (changed_dispatch set c) k.at_dispatch three.rows g3).1

  -- as far as the issue stage
  pub kept_issue : (c : ℕ) (P : List Row → Row → Type 0) → Kept c P → (t : Table) → Each P t.rows → Each P (issue set c (recover set c (commit set c t))).rows
  kept_issue c P k t g =
      let one = commit set c t in
      let two = recover set c one in
      let g1 : Each P one.rows = (sweep_keeps P (Changed c) (commit_row set c) (changed_commit set c) k.at_commit t.rows g).1 in
      let g2 : Each P two.rows = (sweep_keeps P (Changed c) (squash_row set c) (changed_squash set c) k.at_squash one.rows g1).1 in
      let base = store_references set c two.rows two.references in
      (sweep_keeps P (Changed c) (issue_row set c base two.rows) (changed_issue set c base two.rows) (k.at_issue base two.rows) two.rows g2).1

  kept_fetches : (n c : ℕ) (P : List Row → Row → Type 0) → Kept c P → (t : Table) → Each P t.rows → Each P (fetch_up_to set n c t).rows
  kept_fetches zero c P k t g = g
  kept_fetches (suc n) c P k t g =
      cond_both (may_fetch set c t) (fetch_up_to set n c (fetch_one set c t)) t (λ u. Each P u.rows)
      (λ _. kept_fetches n c P k (fetch_one set c t) (k.at_fetch t.rows t.next_fetch (set.look t.next_fetch.pc (predictor_events_of set c t.rows t.predictor_events)) _ g, g)) (λ _. g)

  pub kept_cycle : (c : ℕ) (P : List Row → Row → Type 0) → Kept c P → (t : Table) → Each P t.rows → Each P (cycle set c t).rows
  kept_cycle c P k t g = kept_fetches set.config.decode c P k (dispatch set c (issue set c (recover set c (commit set c t)))) (kept_marks c P k t g)

  pub changed_up_to : (row c : ℕ) (older : List Row) (r : Row) → Changed c r (commit_up_to set row c older r)
  changed_up_to row c older r =
      cond_both (nat_le (length older) row) (commit_row set c older r) r (Changed c r) (λ _. changed_commit set c older r) (λ _. same_changed set c r)

  pub kept_up_to : (row c : ℕ) (P : List Row → Row → Type 0) → Kept c P → (rows : List Row) → Each P rows → Each P (sweep (commit_up_to set row c) rows)
  kept_up_to row c P k rows g = (sweep_keeps P (Changed c) (commit_up_to set row c) (changed_up_to row c) turn rows g).1
    where
      turn : Turn c P (commit_up_to set row c)
      turn older before r zip below p =
          cond_both (nat_le (length before) row) (commit_row set c before r) r (P before) (λ _. k.at_commit older before r zip below p) (λ _. k.still older before r zip below p)

  module _ (P : ℕ → List Row → Row → Type 0) (keeps : (c : ℕ) → Kept c (P c)) (later : (c : ℕ) (older : List Row) (r : Row) → P c older r → P (suc c) older r) where
    all_later : (c : ℕ) (rows : List Row) → Each (P c) rows → Each (P (suc c)) rows
    all_later c [] g = tt
    all_later c (r ∷ rows) g = (later c rows r g.0, all_later c rows g.1)

    pub kept_table : (c : ℕ) → Each (P c) (table set c).rows
    kept_table zero = tt
    kept_table (suc c) = all_later c (table set (suc c)).rows (kept_cycle c (P c) (keeps c) (table set c) (kept_table c))

    -- wherever a run ends
    pub kept_at : (e : Extent) (c : ℕ) → Each (P c) (rows_at set e c)
    kept_at Whole c = kept_table c
    kept_at (AtCommit row) c = kept_up_to row c (P c) (keeps c) (table set c).rows (kept_table c)
    kept_at AtStop c = kept_marks c (P c) (keeps c) (table set c) (kept_table c)

pub each_of : (P Q : List Row → Row → Type 0) → ((older : List Row) (r : Row) → P older r → Q older r) → (rows : List Row) → Each P rows → Each Q rows
each_of P Q f [] g = tt
each_of P Q f (r ∷ rows) g = (f rows r g.0, each_of P Q f rows g.1)
