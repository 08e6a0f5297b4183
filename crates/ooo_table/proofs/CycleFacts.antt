-- What rows keep from stage to stage.
use Rattle.std.proofs.Common.{◌≡◌, ℕ, zero, suc, ◌<◌, ◌≤◌, Bool, true, false, cond, List, [], ◌∷◌, Option, Some, None, refl, sym, ap, ◌∙◌, subst, arith, inl, inr}
use Rattle.std.specs.Prelude.{◌==◌, ◌&&◌, ◌||◌, not, is_none, is_some, find}
use Rattle.std.specs.List.{AllZip, list_any, list_all}
use Rattle.std.proofs.lemmas.Bool.{cond_both, and_parts, and_from, and_right, ltb-true, eqb-true}
use Rattle.mem_hier.specs.Replay.{Reference}
use Rattle.ooo_table.specs.Row.{Row, Fetched, is_at, is_before, sweep, MemoryAccess, returned}
use Rattle.ooo_table.specs.Table.{Setting, Table, NextFetch}
use Rattle.ooo_table.specs.Path.{execution, loads, stores, mispredicted, redirected}
use Rattle.ooo_table.specs.Done.{written, finished, have_produced, waiting, live}
use Rattle.ooo_table.specs.Commit.{commit_row, commits}
use Rattle.ooo_table.specs.Recovery.{squash_row, recovers}
use Rattle.ooo_table.specs.References.{store_references}
use Rattle.ooo_table.specs.Issue.{issue_row, issues, accesses, access_of}
use Rattle.ooo_table.specs.Dispatch.{dispatch_row, dispatches}
use Rattle.ooo_table.specs.Fetch.{fetch_up_to, fetch_one, may_fetch}
use Rattle.ooo_table.specs.Cycle.{table, after_commit, after_recover, after_issue, after_dispatch}
use Rattle.ooo_table.specs.Later.{Each, Where}
use Rattle.ooo_table.specs.Legal.{CommitAllowed}
use Rattle.ooo_table.specs.Bound.{Bounded}
use Rattle.ooo_table.specs.CycleLaws.{Fresh, Comes, Newest, as_next, Leads, Linked, RecoversLive, RowFacts, Passed, SquashSpreads}
use Rattle.ooo_table.proofs.Order.{Changed, Now, below_written}
use Rattle.ooo_table.proofs.RowFacts.{passed_stays, waits_not, sweep_keeps, changed_commit, changed_squash, changed_dispatch, changed_issue, facts_commit, facts_squash, facts_issue, facts_dispatch, facts_table}
use Rattle.ooo_table.proofs.Rising.{rises_stores, rises_table}
use Rattle.ooo_table.proofs.Route.{Route, Ahead, stage_keeps, recover_keeps, route_table, any_same, zip_of, find_none}
use Rattle.ooo_table.proofs.Times.{Times, times_table, times_later, times_commit, times_squash, times_issue, times_dispatch}
use Rattle.ooo_table.proofs.Quiet.{each_turn, Own, follows_sweep, both_table, own_commit, same_commit, same_issue, squash_follows, squash_still}
use Rattle.ooo_table.proofs.Kept.{Kept, kept_table}

module _ (set : Setting) where
  base_of : ℕ → List Reference
  base_of c = store_references set c (after_recover set c).rows (after_recover set c).references

  -- facts of marks alone
  pub facts_one : (c : ℕ) → Each (RowFacts set c) (after_commit set c).rows
  facts_one c = (sweep_keeps (RowFacts set c) (Changed c) (commit_row set c) (changed_commit set c) (facts_commit set c) (table set c).rows (facts_table set c)).1

  pub facts_two : (c : ℕ) → Each (RowFacts set c) (after_recover set c).rows
  facts_two c = (sweep_keeps (RowFacts set c) (Changed c) (squash_row set c) (changed_squash set c) (facts_squash set c) (after_commit set c).rows (facts_one c)).1

  pub facts_three : (c : ℕ) → Each (RowFacts set c) (after_issue set c).rows
  facts_three c =
      let base = store_references set c (after_recover set c).rows (after_recover set c).references in
      (sweep_keeps (RowFacts set c) (Changed c) (issue_row set c base (after_recover set c).rows) (changed_issue set c base (after_recover set c).rows) (facts_issue set c base (after_recover set c).rows) (after_recover set c).rows (facts_two c)).1

  pub facts_four : (c : ℕ) → Each (RowFacts set c) (after_dispatch set c).rows
  facts_four c = (sweep_keeps (RowFacts set c) (Changed c) (dispatch_row set c) (changed_dispatch set c) (facts_dispatch set c) (after_issue set c).rows (facts_three c)).1

  pub follows_one : (c : ℕ) → Each SquashSpreads (after_commit set c).rows
  follows_one c = follows_sweep (commit_row set c) (same_commit set c) (table set c).rows (both_table set c).1

  pub follows_two : (c : ℕ) → Each SquashSpreads (after_recover set c).rows
  follows_two c = squash_follows set c (after_commit set c).rows (each_turn _ _ (commit_row set c) (own_commit set c c) (table set c).rows (both_table set c).0) (follows_one c)

  pub follows_three : (c : ℕ) → Each SquashSpreads (after_issue set c).rows
  follows_three c =
      let base = store_references set c (after_recover set c).rows (after_recover set c).references in
      follows_sweep (issue_row set c base (after_recover set c).rows) (same_issue set c base (after_recover set c).rows) (after_recover set c).rows (follows_two c)

  -- fetches, issues and accesses are of earlier cycles
  fresh_same : (c : ℕ) (r s : Row) → s.fetched ≡ r.fetched → s.issued ≡ r.issued → s.access ≡ r.access → Fresh c r → Fresh c s
  fresh_same c r s w i a f =
      record { at = subst (λ w. w.at < c) (sym w) f.at; issued = subst (λ m. Where m (λ i. i < c)) (sym i) f.issued; access = subst (λ m. Where m (λ a. a.at < c)) (sym a) f.access }

  fresh_commit : (c : ℕ) (before : List Row) (r : Row) → Fresh c r → Fresh c (commit_row set c before r)
  fresh_commit c before r f = cond_both (commits set c before r) (record r { committed = Some c }) r (Fresh c) (λ _. fresh_same c r _ refl refl refl f) (λ _. f)

  fresh_squash : (c : ℕ) (before : List Row) (r : Row) → Fresh c r → Fresh c (squash_row set c before r)
  fresh_squash c before r f = cond_both (list_any (recovers set c) before && is_none r.squashed) (record r { squashed = Some c }) r (Fresh c) (λ _. fresh_same c r _ refl refl refl f) (λ _. f)

  pub fresh_table : (c : ℕ) → Each (λ _. Fresh c) (table set c).rows
  fresh_table c = all (table set c).rows (both_table set c).0
    where
      all : (rows : List Row) → Each (λ _. Own c) rows → Each (λ _. Fresh c) rows
      all [] h = tt
      all (r ∷ rows) h = (record { at = h.0.at; issued = h.0.issued; access = h.0.access }, all rows h.1)

  pub fresh_one : (c : ℕ) → Each (λ _. Fresh c) (after_commit set c).rows
  fresh_one c = each_turn (Fresh c) (Fresh c) (commit_row set c) (fresh_commit c) (table set c).rows (fresh_table c)

  pub fresh_two : (c : ℕ) → Each (λ _. Fresh c) (after_recover set c).rows
  fresh_two c = each_turn (Fresh c) (Fresh c) (squash_row set c) (fresh_squash c) (after_commit set c).rows (fresh_one c)

  -- accesses are back no earlier than they issue
  comes_turn : (c : ℕ) (older : List Row) (r s : Row) → Changed c r s → (r.access ≡ None → Where s.access (λ a. (a.at ≤ a.back) × (is_before (suc a.at) (written set s) ≡ true))) → Comes set r → Comes set s
  comes_turn c older r s ch new f = by_access ch.access
    where
      apart : (m : Option MemoryAccess) → Where m (λ a. (a.at ≤ a.back) × (is_before (suc a.at) (written set s) ≡ true)) → Where m (λ a. a.at ≤ a.back) × Where m (λ a. is_before (suc a.at) (written set s) ≡ true)
      apart None w = (tt, tt)
      apart (Some a) w = w

      still : (m : Option MemoryAccess) → Where m (λ a. a.at ≤ a.back) → Where m (λ a. is_before (suc a.at) (written set r) ≡ true) → Where m (λ a. (a.at ≤ a.back) × (is_before (suc a.at) (written set s) ≡ true))
      still None w v = tt
      still (Some a) w v = (w, below_written set c (suc a.at) r s ch v)

      joined : Where s.access (λ a. (a.at ≤ a.back) × (is_before (suc a.at) (written set s) ≡ true)) → Comes set s
      joined w = let k = apart s.access w in record { back = k.0; written = k.1 }

      by_access : Now (λ a. a.at ≡ c) r.access s.access → Comes set s
      by_access (inl e) = joined (subst (λ m. Where m (λ a. (a.at ≤ a.back) × (is_before (suc a.at) (written set s) ≡ true))) (sym e) (still r.access f.back f.written))
      by_access (inr (e, i, at)) = joined (new e)

  comes_kept : (c : ℕ) → Kept set c (λ _. Comes set)
  comes_kept c =
      record {
        at_commit = λ older before r zip below f. same before r _ (changed_commit set c before r) (cond_both (commits set c before r) (record r { committed = Some c }) r (λ s. s.access ≡ r.access) (λ _. refl) (λ _. refl)) f;
        at_squash = λ older before r zip below f. same before r _ (changed_squash set c before r) (cond_both (list_any (recovers set c) before && is_none r.squashed) (record r { squashed = Some c }) r (λ s. s.access ≡ r.access) (λ _. refl) (λ _. refl)) f;
        at_issue = λ base start older before r zip below f. by_issue base start before r f;
        at_dispatch = λ older before r zip below f. same before r _ (changed_dispatch set c before r) (cond_both (dispatches set c before r) (record r { dispatched = Some c }) r (λ s. s.access ≡ r.access) (λ _. refl) (λ _. refl)) f;
        at_fetch = λ older u look queued below. record { back = tt; written = tt };
        still = λ older before r zip below f. f;
      }
    where
      same : (older : List Row) (r s : Row) → Changed c r s → s.access ≡ r.access → Comes set r → Comes set s
      same older r s ch e f = comes_turn c older r s ch (λ n. subst (λ m. Where m (λ a. (a.at ≤ a.back) × (is_before (suc a.at) (written set s) ≡ true))) (sym (e ∙ n)) tt) f

      by_issue : (base : List Reference) (start before : List Row) (r : Row) → Comes set r → Comes set (issue_row set c base start before r)
      by_issue base start before r f =
          cond_both (issues set c start before r) (record r { issued = Some c }) _ (λ s. Changed c r s → Comes set s)
          (λ e ch. same before r _ ch refl f)
          (λ _. cond_both (accesses set c start before r) (record r { access = Some (access_of set c base before r) }) r (λ s. Changed c r s → Comes set s)
          (λ e ch. comes_turn c before r _ ch (λ n. (omega arith, back e)) f)
          (λ e ch. f))
          (changed_issue set c base start before r)
        where
          back : accesses set c start before r ≡ true → is_before (suc c) (written set r) ≡ true
          back e = grind (arith, and_parts)

  pub comes_table : (c : ℕ) → Each (λ _. Comes set) (table set c).rows
  comes_table c = kept_table set (λ _ _. Comes set) comes_kept (λ c older r f. f) c

  pub comes_one : (c : ℕ) → Each (λ _. Comes set) (after_commit set c).rows
  comes_one c = (sweep_keeps (λ _. Comes set) (Changed c) (commit_row set c) (changed_commit set c) (comes_kept c).at_commit (table set c).rows (comes_table c)).1

  pub comes_two : (c : ℕ) → Each (λ _. Comes set) (after_recover set c).rows
  comes_two c = (sweep_keeps (λ _. Comes set) (Changed c) (squash_row set c) (changed_squash set c) (comes_kept c).at_squash (after_commit set c).rows (comes_one c)).1

  -- after a recovery no row is waiting
  pub squashed_passed : (c : ℕ) (rows : List Row) → Each (RowFacts set c) rows → list_any (recovers set c) rows ≡ true → Passed (sweep (squash_row set c) rows)
  squashed_passed c [] g e = absurd cc
  squashed_passed c (r ∷ older) g e = by_any (squashed_passed c older g.1) (list_any (recovers set c) older) refl e
    where
      before : List Row
      before = sweep (squash_row set c) older

      zip : AllZip (Changed c) older before
      zip = zip_of set (squash_row set c) (changed_squash set c) older

      gone : (b d : Bool) → b ≡ true → is_none r.squashed ≡ d → waiting (cond (b && d) (record r { squashed = Some c }) r) ≡ false
      gone true true e f = and_right (is_none r.dispatched) false refl
      gone true false e f = and_right (is_none r.dispatched) (is_none r.squashed) f
      gone false d e f = absurd cc

      came : recovers set c r ≡ true → is_some r.dispatched ≡ true
      came h = g.0.came (some_issued r.issued (and_parts (mispredicted set r) (is_at c (written set r)) h).1)
        where
          some_issued : (m : Option ℕ) → is_at c (written set (record r { issued = m })) ≡ true → is_some m ≡ true
          some_issued None h = absurd cc
          some_issued (Some x) h = refl

      some_not : (m n : Option ℕ) → is_some m ≡ true → (is_none m && is_none n) ≡ false
      some_not None n h = absurd cc
      some_not (Some x) n h = refl

      by_any : (list_any (recovers set c) older ≡ true → Passed before) → (b : Bool) → list_any (recovers set c) older ≡ b → (recovers set c r || b) ≡ true → Passed (sweep (squash_row set c) (r ∷ older))
      by_any ih true f h =
          let any : list_any (recovers set c) before ≡ true = any_same set c older ∙ f in
          (gone (list_any (recovers set c) before) (is_none r.squashed) any refl, ih f)
      by_any ih false f h =
          let at : is_some r.dispatched ≡ true = came (only (recovers set c r) h) in
          (waits_not c r (squash_row set c before r) (changed_squash set c before r) (some_not r.dispatched r.squashed at), passed_stays c older before zip (g.0.first at))
        where
          only : (b : Bool) → (b || false) ≡ true → b ≡ true
          only true h = refl
          only false h = absurd cc

  -- only the newest rows are waiting
  newest_same : (c : ℕ) (older before : List Row) (r s : Row) → AllZip (Changed c) older before → waiting s ≡ waiting r → Newest older r → Newest before s
  newest_same c older before r s zip e n = record { passed = λ h. passed_stays c older before zip (n.passed (sym e ∙ h)) }

  newest_turn : (c : ℕ) (older before : List Row) (r s : Row) → AllZip (Changed c) older before → Changed c r s → (waiting r ≡ true → waiting s ≡ false → Passed before) → Newest older r → Newest before s
  newest_turn c older before r s zip ch new n = record { passed = by_waiting (waiting r) refl }
    where
      by_waiting : (b : Bool) → waiting r ≡ b → waiting s ≡ false → Passed before
      by_waiting true e h = new e h
      by_waiting false e h = passed_stays c older before zip (n.passed e)

  pub newest_one : (c : ℕ) → Each Newest (table set c).rows → Each Newest (after_commit set c).rows
  newest_one c n =
      (sweep_keeps Newest (Changed c) (commit_row set c) (changed_commit set c)
      (λ older before r zip below h. newest_same c older before r (commit_row set c before r) zip (cond_both (commits set c before r) (record r { committed = Some c }) r (λ s. waiting s ≡ waiting r) (λ _. refl) (λ _. refl)) h)
      (table set c).rows n).1

  newest_squash : (c : ℕ) (rows : List Row) → Each (RowFacts set c) rows → Each Newest rows → Each Newest (sweep (squash_row set c) rows)
  newest_squash c [] g n = tt
  newest_squash c (r ∷ older) g n =
      (newest_turn c older before r (squash_row set c before r) zip (changed_squash set c before r) (λ w h. taken (list_any (recovers set c) before) refl w h) n.0, newest_squash c older g.1 n.1)
    where
      before : List Row
      before = sweep (squash_row set c) older

      zip : AllZip (Changed c) older before
      zip = zip_of set (squash_row set c) (changed_squash set c) older

      taken : (b : Bool) → list_any (recovers set c) before ≡ b → waiting r ≡ true → waiting (squash_row set c before r) ≡ false → Passed before
      taken true e w h = squashed_passed c older g.1 (sym (any_same set c older) ∙ e)
      taken false e w h =
          let k : waiting r ≡ false = sym (ap waiting (ap (λ b. cond (b && is_none r.squashed) (record r { squashed = Some c }) r) e)) ∙ h in absurd cc

  pub newest_two : (c : ℕ) → Each Newest (table set c).rows → Each Newest (after_recover set c).rows
  newest_two c n = newest_squash c (after_commit set c).rows (facts_one c) (newest_one c n)

  pub newest_three : (c : ℕ) → Each Newest (table set c).rows → Each Newest (after_issue set c).rows
  newest_three c n =
      let base = store_references set c (after_recover set c).rows (after_recover set c).references in
      let start = (after_recover set c).rows in
      (sweep_keeps Newest (Changed c) (issue_row set c base start) (changed_issue set c base start)
      (λ older before r zip below h. newest_same c older before r (issue_row set c base start before r) zip
      (cond_both (issues set c start before r) (record r { issued = Some c }) _ (λ s. waiting s ≡ waiting r) (λ _. refl)
      (λ _. cond_both (accesses set c start before r) (record r { access = Some (access_of set c base before r) }) r (λ s. waiting s ≡ waiting r) (λ _. refl) (λ _. refl))) h)
      start (newest_two c n)).1

  all_each : (rows : List Row) → list_all (λ o. not (waiting o)) rows ≡ true → Passed rows
  all_each [] h = tt
  all_each (o ∷ rows) h = let k : (not (waiting o) ≡ true) × (list_all (λ o. not (waiting o)) rows ≡ true) = and_parts _ _ h in (flip (waiting o) k.0, all_each rows k.1)
    where
      flip : (b : Bool) → not b ≡ true → b ≡ false
      flip true h = absurd cc
      flip false h = refl

  pub newest_dispatch : (c : ℕ) (rows : List Row) → Each Newest rows → Each Newest (sweep (dispatch_row set c) rows)
  newest_dispatch c rows n =
      (sweep_keeps Newest (Changed c) (dispatch_row set c) (changed_dispatch set c)
      (λ older before r zip below h. newest_turn c older before r (dispatch_row set c before r) zip (changed_dispatch set c before r) (λ w e. taken before r (dispatches set c before r) refl w e) h)
      rows n).1
    where
      taken : (before : List Row) (r : Row) (b : Bool) → dispatches set c before r ≡ b → waiting r ≡ true → waiting (dispatch_row set c before r) ≡ false → Passed before
      taken before r true e w h = all_each before (let k : list_all (λ o. not (waiting o)) before ≡ true = grind (arith, and_parts) in k)
      taken before r false e w h = let k : waiting r ≡ false = sym (ap (λ b. waiting (cond b (record r { dispatched = Some c }) r)) e) ∙ h in absurd cc

  pub newest_four : (c : ℕ) → Each Newest (table set c).rows → Each Newest (after_dispatch set c).rows
  newest_four c n = newest_dispatch c (after_issue set c).rows (newest_three c n)

  newest_fetches : (n c : ℕ) (t : Table) → Each Newest t.rows → Each Newest (fetch_up_to set n c t).rows
  newest_fetches zero c t h = h
  newest_fetches (suc n) c t h =
      cond_both (may_fetch set c t) (fetch_up_to set n c (fetch_one set c t)) t (λ u. Each Newest u.rows)
      (λ _. newest_fetches n c (fetch_one set c t) (record { passed = λ e. absurd cc }, h)) (λ _. h)

  pub newest_table : (c : ℕ) → Each Newest (table set c).rows
  newest_table zero = tt
  newest_table (suc c) = newest_fetches set.config.decode c (after_dispatch set c) (newest_four c (newest_table c))

  -- a stage that makes no row wait keeps the links between waiting rows
  linked_sweep : (f : List Row → Row → Row) → ((before : List Row) (r : Row) → (f before r).fetched ≡ r.fetched) → ((before : List Row) (r : Row) → waiting (f before r) ≡ true → waiting r ≡ true)
      → (rows : List Row) (u : NextFetch) → Linked set rows u → Linked set (sweep f rows) u
  linked_sweep f same waits [] u h = tt
  linked_sweep f same waits (r ∷ older) u h =
      λ w.
      let k : Leads set r u × Linked set older (as_next r) = h (waits (sweep f older) r w) in
      let ih : Linked set (sweep f older) (as_next r) = linked_sweep f same waits older (as_next r) k.1 in
      moved (f (sweep f older) r) k.0 ih (same (sweep f older) r)
    where
      moved : (s : Row) → Leads set r u → Linked set (sweep f older) (as_next r) → s.fetched ≡ r.fetched → Leads set s u × Linked set (sweep f older) (as_next s)
      moved s l k e =
          let P : Fetched → Type 0 = λ x. Leads set (record s { fetched = x }) u × Linked set (sweep f older) (as_next (record s { fetched = x })) in
          subst P (sym e) (record { pc = l.pc; right = l.right; state = l.state }, k)

  linked_passed : (rows : List Row) (u : NextFetch) → Passed rows → Linked set rows u
  linked_passed [] u p = tt
  linked_passed (r ∷ older) u p = λ w. absurd (differ (waiting r) w p.0)
    where
      differ : (b : Bool) → b ≡ true → b ≡ false → ⊥
      differ b e f = cc

  pub linked_one : (c : ℕ) → Linked set (table set c).rows (table set c).next_fetch → Linked set (after_commit set c).rows (after_commit set c).next_fetch
  linked_one c h =
      linked_sweep (commit_row set c) (λ before r. (changed_commit set c before r).fetched)
      (λ before r. cond_both (commits set c before r) (record r { committed = Some c }) r (λ s. waiting s ≡ true → waiting r ≡ true) (λ _ w. w) (λ _ w. w)) (table set c).rows (table set c).next_fetch h

  pub linked_two : (c : ℕ) → Linked set (table set c).rows (table set c).next_fetch → Linked set (after_recover set c).rows (after_recover set c).next_fetch
  linked_two c h = by_any (list_any (recovers set c) rows) refl
    where
      rows : List Row
      rows = (after_commit set c).rows

      u : NextFetch
      u = (after_commit set c).next_fetch

      by_any : (b : Bool) → list_any (recovers set c) rows ≡ b → Linked set (sweep (squash_row set c) rows) (redirected set c (find (recovers set c) rows) u)
      by_any true e = linked_passed (sweep (squash_row set c) rows) (redirected set c (find (recovers set c) rows) u) (squashed_passed c rows (facts_one c) e)
      by_any false e =
          subst (λ l. Linked set l (redirected set c (find (recovers set c) rows) u)) (sym (squash_still set c rows e))
          (subst (λ o. Linked set rows (redirected set c o u)) (sym (find_none set c rows e)) (linked_one c h))

  pub linked_three : (c : ℕ) → Linked set (table set c).rows (table set c).next_fetch → Linked set (after_issue set c).rows (after_issue set c).next_fetch
  linked_three c h =
      let base = store_references set c (after_recover set c).rows (after_recover set c).references in
      let start = (after_recover set c).rows in
      linked_sweep (issue_row set c base start) (λ before r. (changed_issue set c base start before r).fetched)
      (λ before r. cond_both (issues set c start before r) (record r { issued = Some c }) _ (λ s. waiting s ≡ true → waiting r ≡ true) (λ _ w. w)
      (λ _. cond_both (accesses set c start before r) (record r { access = Some (access_of set c base before r) }) r (λ s. waiting s ≡ true → waiting r ≡ true) (λ _ w. w) (λ _ w. w)))
      start (after_recover set c).next_fetch (linked_two c h)

  pub linked_dispatch : (c : ℕ) (rows : List Row) (u : NextFetch) → Linked set rows u → Linked set (sweep (dispatch_row set c) rows) u
  linked_dispatch c =
      linked_sweep (dispatch_row set c) (λ before r. (changed_dispatch set c before r).fetched)
      (λ before r. cond_both (dispatches set c before r) (record r { dispatched = Some c }) r (λ s. waiting s ≡ true → waiting r ≡ true) (λ _ w. absurd cc) (λ _ w. w))

  pub linked_four : (c : ℕ) → Linked set (table set c).rows (table set c).next_fetch → Linked set (after_dispatch set c).rows (after_dispatch set c).next_fetch
  linked_four c h = linked_dispatch c (after_issue set c).rows (after_issue set c).next_fetch (linked_three c h)

  -- the earliest cycle of the next fetch doesn't matter for them
  linked_next : (rows : List Row) (u v : NextFetch) → v.pc ≡ u.pc → v.right ≡ u.right → v.state ≡ u.state → Linked set rows u → Linked set rows v
  linked_next [] u v p r o h = tt
  linked_next (x ∷ older) u v p r o h = λ w. let k : Leads set x u × Linked set older (as_next x) = h w in (record { pc = p ∙ k.0.pc; right = r ∙ k.0.right; state = o ∙ k.0.state }, k.1)

  pub linked_fetch : (c : ℕ) (t : Table) → Linked set t.rows t.next_fetch → Linked set (fetch_one set c t).rows (fetch_one set c t).next_fetch
  linked_fetch c t h = λ w. (record { pc = refl; right = refl; state = refl }, linked_next t.rows t.next_fetch _ refl refl refl h)

  linked_fetches : (n c : ℕ) (t : Table) → Linked set t.rows t.next_fetch → Linked set (fetch_up_to set n c t).rows (fetch_up_to set n c t).next_fetch
  linked_fetches zero c t h = h
  linked_fetches (suc n) c t h =
      cond_both (may_fetch set c t) (fetch_up_to set n c (fetch_one set c t)) t (λ u. Linked set u.rows u.next_fetch)
      (λ _. linked_fetches n c (fetch_one set c t) (linked_fetch c t h)) (λ _. h)

  pub linked_table : (c : ℕ) → Linked set (table set c).rows (table set c).next_fetch
  linked_table zero = tt
  linked_table (suc c) = linked_fetches set.config.decode c (after_dispatch set c) (linked_four c (linked_table c))

module _ (set : Setting) (I M : ℕ) (limits : Bounded set I M) where
  pub route_one : (c : ℕ) → Each (Route set c) (after_commit set c).rows × Ahead set c (after_commit set c).rows (after_commit set c).next_fetch
  route_one c = stage_keeps set c c (commit_row set c) (table set c).rows (table set c).next_fetch (omega arith) (changed_commit set c) (route_table set c limits.penalty)

  pub route_two : (c : ℕ) → Each (Route set (suc c)) (after_recover set c).rows × Ahead set (suc c) (after_recover set c).rows (after_recover set c).next_fetch
  route_two c = recover_keeps set c (after_commit set c) limits.penalty (route_one c)

  pub route_three : (c : ℕ) → Each (Route set (suc c)) (after_issue set c).rows × Ahead set (suc c) (after_issue set c).rows (after_issue set c).next_fetch
  route_three c =
      let base = store_references set c (after_recover set c).rows (after_recover set c).references in
      let start = (after_recover set c).rows in
      stage_keeps set c (suc c) (issue_row set c base start) start (after_recover set c).next_fetch (omega arith) (changed_issue set c base start) (route_two c)

  pub times_one : (c : ℕ) → Each (Times set I M limits (suc c)) (after_commit set c).rows
  times_one c = (sweep_keeps (Times set I M limits (suc c)) (Changed c) (commit_row set c) (changed_commit set c) (times_commit set I M limits c) (table set c).rows (times_later set I M limits c (table set c).rows (times_table set I M limits c))).1

  pub times_two : (c : ℕ) → Each (Times set I M limits (suc c)) (after_recover set c).rows
  times_two c = times_squash set I M limits c (after_commit set c).rows (route_one c).0 (times_one c)

  pub times_three : (c : ℕ) → Each (Times set I M limits (suc c)) (after_issue set c).rows
  times_three c =
      let base = store_references set c (after_recover set c).rows (after_recover set c).references in
      let start = (after_recover set c).rows in
      (sweep_keeps (Times set I M limits (suc c)) (Changed c) (issue_row set c base start) (changed_issue set c base start) (times_issue set I M limits c base (rises_stores set c start (after_recover set c).references (rises_table set limits.start c)) start) start (times_two c)).1

  pub times_four : (c : ℕ) → Each (Times set I M limits (suc c)) (after_dispatch set c).rows
  times_four c = (sweep_keeps (Times set I M limits (suc c)) (Changed c) (dispatch_row set c) (changed_dispatch set c) (times_dispatch set I M limits c) (after_issue set c).rows (times_three c)).1

  -- rows that recover are live
  at_not_below : (x c : ℕ) (m : Option ℕ) → x ≤ c → is_at c m ≡ true → is_before x m ≡ true → ⊥
  at_not_below x c None le h k = absurd cc
  at_not_below x c (Some t) le h k = let e : t ≡ c = eqb-true t c h in omega (arith, e, ltb-true t x k)

  live_row : (c : ℕ) (older : List Row) (r : Row) → RowFacts set c older r → Times set I M limits (suc c) older r → Comes set r → recovers set c r ≡ true → live r ≡ true
  live_row c older r g t f h =
      and_from _ _ (and_from _ _ came (unset r.committed refl g.order g.committed_by)) (ap is_none (t.kept right))
    where
      parts : (mispredicted set r ≡ true) × (is_at c (written set r) ≡ true)
      parts = and_parts (mispredicted set r) (is_at c (written set r)) h

      right : r.fetched.right ≡ true
      right = (and_parts r.fetched.right (not (execution set r).stops) (and_parts (r.fetched.right && not (execution set r).stops) (not (r.fetched.predicted == (execution set r).next)) parts.0).0).0

      came : is_some r.dispatched ≡ true
      came = g.came (some_issued r.issued parts.1)
        where
          some_issued : (m : Option ℕ) → is_at c (written set (record r { issued = m })) ≡ true → is_some m ≡ true
          some_issued None h = absurd cc
          some_issued (Some x) h = refl

      read : (x : ℕ) → x ≤ c → (m : Option MemoryAccess) → Where m (λ a. a.at ≤ a.back) → Where m (λ a. is_before (suc a.at) (written set r) ≡ true) → is_before x (returned (record r { access = m })) ≡ true → ⊥
      read x le None b w k = absurd cc
      read x le (Some a) b w k = let lt : a.back < x = ltb-true a.back x k in at_not_below (suc a.at) c (written set r) (omega arith) parts.1 w

      finished_late : (x : ℕ) → x ≤ c → (l : Bool) → is_before x (cond l (returned r) (written set r)) ≡ true → ⊥
      finished_late x le true k = read x le r.access f.back f.written k
      finished_late x le false k = at_not_below x c (written set r) le parts.1 k

      done_late : (x : ℕ) → x ≤ c → (b : Bool) → cond b (is_before x (written set r) && have_produced set x older r (execution set r).second) (is_before x (finished set r)) ≡ true → ⊥
      done_late x le true k = at_not_below x c (written set r) le parts.1 (and_parts (is_before x (written set r)) (have_produced set x older r (execution set r).second) k).0
      done_late x le false k = finished_late x le (loads set r) k

      unset : (m : Option ℕ) → r.committed ≡ m → Where m (CommitAllowed set older r) → Where m (λ x. x ≤ c) → is_none m ≡ true
      unset None e w by = refl
      unset (Some x) e w by = absurd (done_late x by (stores set r) w.done)

  pub live_one : (c : ℕ) → Each (λ _. RecoversLive set c) (after_commit set c).rows
  live_one c = all (after_commit set c).rows (facts_one set c) (times_one c) (comes_one set c)
    where
      all : (rows : List Row) → Each (RowFacts set c) rows → Each (Times set I M limits (suc c)) rows → Each (λ _. Comes set) rows → Each (λ _. RecoversLive set c) rows
      all [] g t f = tt
      all (r ∷ rows) g t f = (record { live = live_row c rows r g.0 t.0 f.0 }, all rows g.1 t.1 f.1)
