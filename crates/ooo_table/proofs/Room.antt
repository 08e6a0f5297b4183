-- Waiting rows, live rows, and live loads and stores have their places.
use Rattle.std.proofs.Common.{◌≡◌, ℕ, zero, suc, ◌<◌, ◌≤◌, Bool, true, false, List, [], ◌∷◌, Option, Some, None, refl, sym, ap, ◌∙◌, subst, arith, inl, inr}
use Rattle.std.specs.Prelude.{◌&&◌, ◌||◌, not, nat_lt, nat_le, is_none, is_some, ◌⊎◌, count_by}
use Rattle.std.specs.List.{list_any}
use Rattle.std.proofs.lemmas.Bool.{cond_both, and_parts, and_left, and_from, ltb-true, cond-false, false_from_ne_true}
use Rattle.mem_hier.specs.Replay.{Reference}
use Rattle.ooo_table.specs.Row.{Row, sweep}
use Rattle.ooo_table.specs.Execution.{uses_memory}
use Rattle.ooo_table.specs.Table.{Setting, Table}
use Rattle.ooo_table.specs.Path.{execution, execution_of}
use Rattle.ooo_table.specs.Done.{waiting, live}
use Rattle.ooo_table.specs.Commit.{commit_row, commits}
use Rattle.ooo_table.specs.Recovery.{squash_row, recovers}
use Rattle.ooo_table.specs.References.{store_references, predictor_events_of, references_of}
use Rattle.ooo_table.specs.Issue.{issue_row, issues, accesses, access_of}
use Rattle.ooo_table.specs.Dispatch.{dispatch_row, dispatches, has_place}
use Rattle.ooo_table.specs.Fetch.{fetch_up_to, fetch_one, may_fetch, fetched_row, queue_cycle}
use Rattle.ooo_table.specs.Cycle.{table}
use Rattle.ooo_table.specs.Ends.{Extent, Whole, AtCommit, AtStop, rows_at, commit_up_to}
use Rattle.ooo_table.specs.Later.{Each}
use Rattle.ooo_table.specs.Legal.{PlacesKept}
use Rattle.ooo_table.specs.CycleLaws.{RowFacts, Passed}
use Rattle.ooo_table.proofs.Order.{Changed, Now}
use Rattle.ooo_table.proofs.RowFacts.{changed_commit, changed_squash, changed_issue, facts_table, facts_commit, facts_squash, facts_issue, sweep_keeps}
use Rattle.ooo_table.proofs.Kept.{changed_up_to}
use Rattle.ooo_table.proofs.Counts.{both', count_true, count_false, swept_less, after_commit, after_recover, after_issue, after_dispatch, less_up_to, less_marks, fetched_same}

unset_now : {A : Type 0} (At : A → Type 0) (m n : Option A) → Now At m n → is_none n ≡ true → is_none m ≡ true
unset_now At m n (inl e) h = ap is_none (sym e) ∙ h
unset_now At m n (inr (e, i, at)) h = ap is_none e

-- a change makes no row wait or live that wasn't
waited : (c : ℕ) (r s : Row) → Changed c r s → waiting s ≡ true → waiting r ≡ true
waited c r s ch h = by_case ch.dispatched
  where
    parts : (is_none s.dispatched ≡ true) × (is_none s.squashed ≡ true)
    parts = and_parts _ _ h

    by_case : (s.dispatched ≡ r.dispatched) ⊎ ((waiting r ≡ true) × (s.dispatched ≡ Some c)) → waiting r ≡ true
    by_case (inl e) = and_from _ _ (ap is_none (sym e) ∙ parts.0) (unset_now (λ d. d ≡ c) r.squashed s.squashed ch.squashed parts.1)
    by_case (inr (w, e)) = w

lived : (c : ℕ) (r s : Row) → Changed c r s → s.dispatched ≡ r.dispatched → live s ≡ true → live r ≡ true
lived c r s ch e h =
    let parts : ((is_some s.dispatched && is_none s.committed) ≡ true) × (is_none s.squashed ≡ true) = and_parts _ _ h in
    let two : (is_some s.dispatched ≡ true) × (is_none s.committed ≡ true) = and_parts _ _ parts.0 in
    and_from _ _ (and_from _ _ (ap is_some (sym e) ∙ two.0) (unset_now (λ d. d ≡ c) r.committed s.committed ch.committed two.1))
    (unset_now (λ d. d ≡ c) r.squashed s.squashed ch.squashed parts.1)

module _ (set : Setting) where
  commit_stays : (c : ℕ) (before : List Row) (r : Row) → (commit_row set c before r).dispatched ≡ r.dispatched
  commit_stays c before r = cond_both (commits set c before r) (record r { committed = Some c }) r (λ s. s.dispatched ≡ r.dispatched) (λ _. refl) (λ _. refl)

  up_to_stays : (row c : ℕ) (before : List Row) (r : Row) → (commit_up_to set row c before r).dispatched ≡ r.dispatched
  up_to_stays row c before r = cond_both _ (commit_row set c before r) r (λ s. s.dispatched ≡ r.dispatched) (λ _. commit_stays c before r) (λ _. refl)

  squash_stays : (c : ℕ) (before : List Row) (r : Row) → (squash_row set c before r).dispatched ≡ r.dispatched
  squash_stays c before r =
      cond_both (list_any (recovers set c) before && is_none r.squashed) (record r { squashed = Some c }) r (λ s. s.dispatched ≡ r.dispatched) (λ _. refl) (λ _. refl)

  issue_stays : (c : ℕ) (base : List Reference) (start before : List Row) (r : Row) → (issue_row set c base start before r).dispatched ≡ r.dispatched
  issue_stays c base start before r =
      cond_both (issues set c start before r) (record r { issued = Some c }) _ (λ s. s.dispatched ≡ r.dispatched) (λ _. refl)
      (λ _. cond_both (accesses set c start before r) (record r { access = Some (access_of set c base before r) }) r (λ s. s.dispatched ≡ r.dispatched) (λ _. refl) (λ _. refl))

  -- only waiting rows are dispatched
  not_again : (c : ℕ) (before : List Row) (r : Row) → waiting r ≡ false → dispatch_row set c before r ≡ r
  not_again c before r h = cond-false (dispatches set c before r) (record r { dispatched = Some c }) r (false_from_ne_true _ (λ e. both' (waits e) h))
    where
      waits : dispatches set c before r ≡ true → waiting r ≡ true
      waits e = grind (arith, and_parts)

  all_passed : (c : ℕ) (rows : List Row) → Passed rows → sweep (dispatch_row set c) rows ≡ rows
  all_passed c [] h = refl
  all_passed c (r ∷ rows) h = ap (λ l. dispatch_row set c l r ∷ l) (all_passed c rows h.1) ∙ ap (λ x. x ∷ rows) (not_again c rows r h.0)

  base_of : ℕ → List Reference
  base_of c = store_references set c (after_recover set c).rows (after_recover set c).references

  -- the facts of rows as the dispatch stage begins
  facts_marks : (c : ℕ) → Each (RowFacts set c) (after_issue set c).rows
  facts_marks c =
      let g1 : Each (RowFacts set c) (after_commit set c).rows = (sweep_keeps (RowFacts set c) (Changed c) (commit_row set c) (changed_commit set c) (facts_commit set c) (table set c).rows (facts_table set c)).1 in
      let g2 : Each (RowFacts set c) (after_recover set c).rows = (sweep_keeps (RowFacts set c) (Changed c) (squash_row set c) (changed_squash set c) (facts_squash set c) (after_commit set c).rows g1).1 in
      let base = store_references set c (after_recover set c).rows (after_recover set c).references in
      (sweep_keeps (RowFacts set c) (Changed c) (issue_row set c base (after_recover set c).rows) (changed_issue set c base (after_recover set c).rows) (facts_issue set c base (after_recover set c).rows) (after_recover set c).rows g2).1

  -- counts of dispatched rows that only dispatch raises, where it finds a place
  pub record Placed (p : Row → Bool) (n : ℕ) : Type 0 where
    pub before : (c : ℕ) (r s : Row) → Changed c r s → s.dispatched ≡ r.dispatched → p s ≡ true → p r ≡ true
    pub came : (r : Row) → r.dispatched ≡ None → p r ≡ false
    pub room : (c : ℕ) (older : List Row) (r : Row) → dispatches set c older r ≡ true → p (record r { dispatched = Some c }) ≡ true → count_by p older < n

  module _ (p : Row → Bool) (n : ℕ) (k : Placed p n) where
    entered : (c : ℕ) (rows : List Row) → Each (RowFacts set c) rows → count_by p rows ≤ n → count_by p (sweep (dispatch_row set c) rows) ≤ n
    entered c [] facts h = h
    entered c (r ∷ rows) facts h = by_mark r.dispatched refl (entered c rows facts.1)
      where
        before : List Row
        before = sweep (dispatch_row set c) rows

        came_not : is_some r.dispatched ≡ true → waiting r ≡ false
        came_not e = and_left (is_none r.dispatched) (is_none r.squashed) (by_some r.dispatched e)
          where
            by_some : (m : Option ℕ) → is_some m ≡ true → is_none m ≡ false
            by_some None e = absurd cc
            by_some (Some d) e = refl

        stays : is_some r.dispatched ≡ true → sweep (dispatch_row set c) (r ∷ rows) ≡ r ∷ rows
        stays e = all_passed c (r ∷ rows) (came_not e, facts.0.first e)

        turn : r.dispatched ≡ None → count_by p before ≤ n → count_by p (dispatch_row set c before r ∷ before) ≤ n
        turn u ih =
            cond_both (dispatches set c before r) (record r { dispatched = Some c }) r (λ s. count_by p (s ∷ before) ≤ n)
            (λ e. by_place e (p (record r { dispatched = Some c })) refl) (λ _. omega (arith, ih, count_false p r before (k.came r u)))
          where
            by_place : dispatches set c before r ≡ true → (b : Bool) → p (record r { dispatched = Some c }) ≡ b → count_by p (record r { dispatched = Some c } ∷ before) ≤ n
            by_place e true f = omega (arith, k.room c before r e f, count_true p (record r { dispatched = Some c }) before f)
            by_place e false f = omega (arith, ih, count_false p (record r { dispatched = Some c }) before f)

        by_mark : (m : Option ℕ) → r.dispatched ≡ m → (count_by p rows ≤ n → count_by p before ≤ n) → count_by p (sweep (dispatch_row set c) (r ∷ rows)) ≤ n
        by_mark (Some d) e ih = subst (λ l. count_by p l ≤ n) (sym (stays (ap is_some e))) h
        by_mark None e ih = turn e (ih (omega (arith, h, count_false p r rows (k.came r e))))

    up_to_less : (c row : ℕ) → count_by p (sweep (commit_up_to set row c) (table set c).rows) ≤ count_by p (table set c).rows
    up_to_less c row =
        swept_less p p (commit_up_to set row c) (λ b r h. k.before c r (commit_up_to set row c b r) (changed_up_to set row c b r) (up_to_stays row c b r) h) (table set c).rows

    pub marks_less : (c : ℕ) → count_by p (after_issue set c).rows ≤ count_by p (table set c).rows
    marks_less c =
        let base = store_references set c (after_recover set c).rows (after_recover set c).references in
        omega (
          arith,
          swept_less p p (commit_row set c) (λ b r h. k.before c r (commit_row set c b r) (changed_commit set c b r) (commit_stays c b r) h) (table set c).rows,
          swept_less p p (squash_row set c) (λ b r h. k.before c r (squash_row set c b r) (changed_squash set c b r) (squash_stays c b r) h) (after_commit set c).rows,
          swept_less p p (issue_row set c base (after_recover set c).rows)
              (λ b r h. k.before c r (issue_row set c base (after_recover set c).rows b r) (changed_issue set c base (after_recover set c).rows b r) (issue_stays c base (after_recover set c).rows b r) h)
              (after_recover set c).rows,
        )

    placed_marks : (c : ℕ) → count_by p (table set c).rows ≤ n → count_by p (after_dispatch set c).rows ≤ n
    placed_marks c h = entered c (after_issue set c).rows (facts_marks c) (omega (arith, h, marks_less c))

    placed_table : (c : ℕ) → count_by p (table set c).rows ≤ n
    placed_table zero = omega arith
    placed_table (suc c) =
        omega (arith, placed_marks c (placed_table c), fetched_same set p c (λ u look queued. k.came (fetched_row set c u look queued) refl) set.config.decode (after_dispatch set c))

    placed_at : (e : Extent) (c : ℕ) → count_by p (rows_at set e c) ≤ n
    placed_at Whole c = placed_table c
    placed_at (AtCommit row) c = omega (arith, placed_table c, up_to_less c row)
    placed_at AtStop c = placed_marks c (placed_table c)

  -- waiting rows
  fetched_queue : (n c : ℕ) (t : Table) → count_by waiting t.rows ≤ set.config.ifq → count_by waiting (fetch_up_to set n c t).rows ≤ set.config.ifq
  fetched_queue zero c t h = h
  fetched_queue (suc n) c t h =
      cond_both (may_fetch set c t) (fetch_up_to set n c (fetch_one set c t)) t (λ u. count_by waiting u.rows ≤ set.config.ifq)
      (λ e. fetched_queue n c (fetch_one set c t)
      (omega (
        arith,
        ltb-true (count_by waiting t.rows) set.config.ifq (and_parts (nat_le t.next_fetch.earliest c) (nat_lt (count_by waiting t.rows) set.config.ifq) e).1,
        count_true waiting (fetched_row set c t.next_fetch (set.look t.next_fetch.pc (predictor_events_of set c t.rows t.predictor_events)) (queue_cycle set c t.next_fetch.pc (references_of set c t.rows t.references))) t.rows refl,
      )))
      (λ _. h)

  queue_table : (c : ℕ) → count_by waiting (table set c).rows ≤ set.config.ifq
  queue_table zero = omega arith
  queue_table (suc c) = fetched_queue set.config.decode c (after_dispatch set c) (omega (arith, queue_table c, less_marks set c waiting (waited c)))

  queue_at : (e : Extent) (c : ℕ) → count_by waiting (rows_at set e c) ≤ set.config.ifq
  queue_at Whole c = queue_table c
  queue_at (AtCommit row) c = omega (arith, queue_table c, less_up_to set c waiting (waited c) row)
  queue_at AtStop c = omega (arith, queue_table c, less_marks set c waiting (waited c))

  -- live rows, and the loads and stores among them
  undispatched : (r : Row) → r.dispatched ≡ None → live r ≡ false
  undispatched r e = and_left (is_some r.dispatched && is_none r.committed) (is_none r.squashed) (and_left (is_some r.dispatched) (is_none r.committed) (ap is_some e))

  finds_place : (c : ℕ) (older : List Row) (r : Row) → dispatches set c older r ≡ true → has_place set older r ≡ true
  finds_place c older r e = grind (arith, and_parts)

  pub live_placed : Placed live set.config.ruu
  live_placed =
      record {
        before = lived;
        came = undispatched;
        room = λ c older r e h. ltb-true _ _ (and_parts _ _ (finds_place c older r e)).0;
      }

  abbrev in_memory : Row → Bool
  in_memory r = live r && uses_memory (execution set r).memory

  memory_placed : Placed in_memory set.config.lsq
  memory_placed =
      record {
        before = λ c r s ch e h. let parts : (live s ≡ true) × (uses_memory (execution set s).memory ≡ true) = and_parts _ _ h in
            and_from _ _ (lived c r s ch e parts.0) (subst (λ w. uses_memory (execution_of set w).memory ≡ true) ch.fetched parts.1);
        came = λ r e. and_left (live r) (uses_memory (execution set r).memory) (undispatched r e);
        room = λ c older r e h. let k : (not (uses_memory (execution set r).memory) || nat_lt (count_by (λ o. live o && uses_memory (execution set o).memory) older) set.config.lsq) ≡ true = (and_parts _ _ (finds_place c older r e)).1 in
            let a : uses_memory (execution set r).memory ≡ true = (and_parts (live (record r { dispatched = Some c })) (uses_memory (execution set r).memory) h).1 in
            ltb-true _ _ (subst (λ b. (not b || nat_lt (count_by (λ o. live o && uses_memory (execution set o).memory) older) set.config.lsq) ≡ true) a k);
      }

  pub places_at : (e : Extent) (c : ℕ) → PlacesKept set (rows_at set e c)
  places_at e c =
      record {
        queue = queue_at e c;
        unit = placed_at live set.config.ruu live_placed e c;
        memory = placed_at in_memory set.config.lsq memory_placed e c;
      }
