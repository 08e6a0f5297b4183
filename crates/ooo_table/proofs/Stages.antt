-- The facts of rows at each stage, and how many rows there are.
use Rattle.std.proofs.Common.{◌≡◌, ℕ, zero, suc, ◌+◌, ◌*◌, ◌<◌, ◌≤◌, Bool, true, false, cond, List, [], ◌∷◌, length, Option, Some, None, refl, sym, ap, ◌∙◌, subst, arith}
use Rattle.std.specs.Prelude.{◌&&◌, ◌||◌, is_none, is_some}
use Rattle.std.proofs.lemmas.Bool.{cond_both, and_parts, and_from, eqb-true}
use Rattle.mem_hier.specs.Replay.{Reference}
use Rattle.ooo_table.specs.Row.{Row, is_at, is_before, accessed, sweep, MemoryAccess}
use Rattle.ooo_table.specs.Execution.{MemoryUse, NoMemory, LoadFrom, StoreTo, is_load, is_store}
use Rattle.ooo_table.specs.Table.{Setting, Table}
use Rattle.ooo_table.specs.Path.{execution, loads}
use Rattle.ooo_table.specs.Done.{written, finished, have_produced, done_before}
use Rattle.ooo_table.specs.Commit.{commit, commit_row}
use Rattle.ooo_table.specs.Recovery.{recover, squash_row}
use Rattle.ooo_table.specs.References.{store_references}
use Rattle.ooo_table.specs.Issue.{issue_row, issues, accesses, access_of, issues_at}
use Rattle.ooo_table.specs.Dispatch.{dispatch_row}
use Rattle.ooo_table.specs.Fetch.{fetch_up_to, fetch_one, may_fetch}
use Rattle.ooo_table.specs.Cycle.{table, after_recover, after_issue, after_dispatch}
use Rattle.ooo_table.specs.Later.{Each, Where}
use Rattle.ooo_table.specs.Legal.{CommitAllowed}
use Rattle.ooo_table.specs.CycleLaws.{Fresh, Newest, RowFacts, SquashSpreads, IssuesLive, AtStages, LinkedAtStages, BeforeIssue, RowsFit}
use Rattle.ooo_table.proofs.RowFacts.{facts_table, done_issued}
use Rattle.ooo_table.proofs.Quiet.{both_table, follows_sweep, same_dispatch}
use Rattle.ooo_table.proofs.Counts.{both'}
use Rattle.ooo_table.proofs.CycleFacts.{facts_one, facts_two, facts_three, facts_four, follows_one, follows_two, follows_three, fresh_two, comes_two, newest_one, newest_two, newest_three, newest_four, newest_table, linked_one, linked_two, linked_three, linked_four, linked_table}

module _ (set : Setting) where
  pub facts_stages : (c : ℕ) → AtStages set c (Each (RowFacts set c))
  facts_stages c = record { table = facts_table set c; commit = facts_one set c; recover = facts_two set c; issue = facts_three set c; dispatch = facts_four set c }

  pub squash_stages : (c : ℕ) → AtStages set c (Each SquashSpreads)
  squash_stages c =
      record {
        table = (both_table set c).1;
        commit = follows_one set c;
        recover = follows_two set c;
        issue = follows_three set c;
        dispatch = follows_sweep (dispatch_row set c) (same_dispatch set c) (after_issue set c).rows (follows_three set c);
      }

  pub newest_stages : (c : ℕ) → AtStages set c (Each Newest)
  newest_stages c =
      record {
        table = newest_table set c;
        commit = newest_one set c (newest_table set c);
        recover = newest_two set c (newest_table set c);
        issue = newest_three set c (newest_table set c);
        dispatch = newest_four set c (newest_table set c);
      }

  pub linked_stages : (c : ℕ) → LinkedAtStages set c
  linked_stages c =
      record {
        table = linked_table set c;
        commit = linked_one set c (linked_table set c);
        recover = linked_two set c (linked_table set c);
        issue = linked_three set c (linked_table set c);
        dispatch = linked_four set c (linked_table set c);
      }

  pub before_issue : (c : ℕ) → BeforeIssue set c
  before_issue c = record { fresh = fresh_two set c; comes = comes_two set c }

  -- ---- what issues is live

  some_before : (n : ℕ) (m : Option ℕ) → is_before n m ≡ true → is_some m ≡ true
  some_before n None h = absurd cc
  some_before n (Some t) h = refl

  -- a load without an access isn't done
  undone : (n : ℕ) (older : List Row) (r : Row) → loads set r ≡ true → r.access ≡ None → done_before set n older r ≡ true → ⊥
  undone n older r l e = by_kind (execution set r).memory l refl
    where
      by_kind : (m : MemoryUse) → is_load m ≡ true → (execution set r).memory ≡ m → cond (is_store (execution set r).memory) (is_before n (written set r) && have_produced set n older r (execution set r).second) (is_before n (finished set r)) ≡ true → ⊥
      by_kind NoMemory l f h = absurd cc
      by_kind (StoreTo addr) l f h = absurd cc
      by_kind (LoadFrom addr) l f h =
          let k : is_before n (finished set r) ≡ true = sym (ap (λ m. cond (is_store m) (is_before n (written set r) && have_produced set n older r (execution set r).second) (is_before n (finished set r))) f) ∙ h in
          let g : is_before n (cond true (accessed' r.access) (written set r)) ≡ true = sym (ap (λ m. is_before n (cond (is_load m) (accessed' r.access) (written set r))) f) ∙ k in
          both' g (ap (λ a. is_before n (accessed' a)) e)
        where
          accessed' : Option MemoryAccess → Option ℕ
          accessed' None = None
          accessed' (Some a) = Some a.back

  uncommitted : (c : ℕ) (older : List Row) (r : Row) → RowFacts set c older r → ((x : ℕ) → done_before set x older r ≡ true → ⊥) → is_none r.committed ≡ true
  uncommitted c older r f no_done = by_mark r.committed f.order
    where
      by_mark : (m : Option ℕ) → Where m (CommitAllowed set older r) → is_none m ≡ true
      by_mark None w = refl
      by_mark (Some x) w = absurd (no_done x w.done)

  issue_live : (c : ℕ) (base : List Reference) (start older before : List Row) (r : Row) → RowFacts set c older r → Fresh c r → IssuesLive set c (issue_row set c base start before r)
  issue_live c base start older before r f fresh =
      cond_both (issues set c start before r) (record r { issued = Some c }) _ (IssuesLive set c)
      (λ e. record { live = λ _. and_from _ _ (and_from _ _ (some_before c r.dispatched (early e)) (uncommitted c older r f (λ x d. both' (done_issued set x older r f.reached d) (unissued (fresh' e))))) (stands e) })
      (λ _. cond_both (accesses set c start before r) (record r { access = Some (access_of set c base before r) }) r (IssuesLive set c)
      (λ e. record { live = λ _. and_from _ _ (and_from _ _ (f.came (some_written r.issued (back e))) (uncommitted c older r f (undone' e))) (stands' e) })
      (λ _. record { live = λ h. absurd (not_here h) }))
    where
      early : issues set c start before r ≡ true → is_before c r.dispatched ≡ true
      early e = grind (arith, and_parts)

      fresh' : issues set c start before r ≡ true → is_none r.issued ≡ true
      fresh' e = grind (arith, and_parts)

      stands : issues set c start before r ≡ true → is_none r.squashed ≡ true
      stands e = grind (arith, and_parts)

      unissued : is_none r.issued ≡ true → is_some r.issued ≡ false
      unissued = by_mark r.issued
        where
          by_mark : (m : Option ℕ) → is_none m ≡ true → is_some m ≡ false
          by_mark None h = refl
          by_mark (Some x) h = absurd cc

      back : accesses set c start before r ≡ true → is_before (suc c) (written set r) ≡ true
      back e = grind (arith, and_parts)

      reads : accesses set c start before r ≡ true → loads set r ≡ true
      reads e = grind (arith, and_parts)

      first : accesses set c start before r ≡ true → is_none r.access ≡ true
      first e = grind (arith, and_parts)

      stands' : accesses set c start before r ≡ true → is_none r.squashed ≡ true
      stands' e = grind (arith, and_parts)

      unset : (m : Option MemoryAccess) → is_none m ≡ true → m ≡ None
      unset None h = refl
      unset (Some a) h = absurd cc

      undone' : accesses set c start before r ≡ true → (x : ℕ) → done_before set x older r ≡ true → ⊥
      undone' e x = undone x older r (reads e) (unset r.access (first e))

      some_written : (m : Option ℕ) → is_before (suc c) (written set (record r { issued = m })) ≡ true → is_some m ≡ true
      some_written None h = absurd cc
      some_written (Some x) h = refl

      not_at : (m : Option ℕ) → Where m (λ i. i < c) → is_at c m ≡ false
      not_at None w = refl
      not_at (Some x) w = by_test (is_at c (Some x)) refl
        where
          by_test : (b : Bool) → is_at c (Some x) ≡ b → b ≡ false
          by_test true e = let k : x ≡ c = eqb-true x c e in absurd (omega (arith, w, k))
          by_test false e = refl

      not_accessed : (m : Option MemoryAccess) → Where m (λ a. a.at < c) → is_at c (accessed (record r { access = m })) ≡ false
      not_accessed None w = refl
      not_accessed (Some a) w = not_at (Some a.at) w

      not_here : issues_at set c r ≡ true → ⊥
      not_here h = neither (is_at c r.issued) (is_at c (accessed r)) h (not_at r.issued fresh.issued) (not_accessed r.access fresh.access)
        where
          neither : (a b : Bool) → (a || b) ≡ true → a ≡ false → b ≡ false → ⊥
          neither true b h e f = both' refl e
          neither false b h e f = both' h f

  pub issues_live : (c : ℕ) → Each (λ _. IssuesLive set c) (after_issue set c).rows
  issues_live c = all (after_recover set c).rows (facts_two set c) (fresh_two set c)
    where
      base : List Reference
      base = store_references set c (after_recover set c).rows (after_recover set c).references

      start : List Row
      start = (after_recover set c).rows

      all : (rows : List Row) → Each (RowFacts set c) rows → Each (λ _. Fresh c) rows → Each (λ _. IssuesLive set c) (sweep (issue_row set c base start) rows)
      all [] f g = tt
      all (r ∷ older) f g = (issue_live c base start older (sweep (issue_row set c base start) older) r f.0 g.0, all older f.1 g.1)

  -- ---- how many rows there are

  swept_length : (f : List Row → Row → Row) (rows : List Row) → length (sweep f rows) ≡ length rows
  swept_length f [] = refl
  swept_length f (r ∷ rows) = ap suc (swept_length f rows)

  fetched_length : (n c : ℕ) (t : Table) → length (fetch_up_to set n c t).rows ≤ length t.rows + n
  fetched_length zero c t = omega arith
  fetched_length (suc n) c t =
      cond_both (may_fetch set c t) (fetch_up_to set n c (fetch_one set c t)) t (λ u. length u.rows ≤ length t.rows + suc n)
      (λ _. more (length t.rows) (fetched_length n c (fetch_one set c t))) (λ _. omega arith)
    where
      more : (k : ℕ) → length (fetch_up_to set n c (fetch_one set c t)).rows ≤ suc k + n → length (fetch_up_to set n c (fetch_one set c t)).rows ≤ k + suc n
      more k h = omega arith

  pub rows_fit : (c : ℕ) → RowsFit set c
  rows_fit zero = omega arith
  rows_fit (suc c) =
      let one = commit set c (table set c) in
      let two = recover set c one in
      let base = store_references set c two.rows two.references in
      let same : length (after_dispatch set c).rows ≡ length (table set c).rows =
      swept_length (dispatch_row set c) (after_issue set c).rows
      ∙ (swept_length (issue_row set c base two.rows) two.rows ∙ (swept_length (squash_row set c) one.rows ∙ swept_length (commit_row set c) (table set c).rows)) in
      next (length (table set c).rows) set.config.decode (rows_fit c) (subst (λ n. length (fetch_up_to set set.config.decode c (after_dispatch set c)).rows ≤ n + set.config.decode) same (fetched_length set.config.decode c (after_dispatch set c)))
    where
      next : (k d : ℕ) → k ≤ d * c → length (fetch_up_to set set.config.decode c (after_dispatch set c)).rows ≤ k + d → length (fetch_up_to set set.config.decode c (after_dispatch set c)).rows ≤ d * suc c
      next k d h g = grind (arith)
