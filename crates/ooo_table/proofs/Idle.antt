-- With no right row in flight, the next one is fetched in time.
use Rattle.std.proofs.Common.{◌≡◌, ℕ, zero, suc, ◌+◌, ◌<◌, ◌≤◌, Bool, true, false, cond, List, [], ◌∷◌, ◌++◌, Option, Some, None, refl, sym, ap, ◌∙◌, subst, arith, inl, inr}
use Rattle.std.specs.Prelude.{◌==◌, ◌&&◌, ◌||◌, not, nat_lt, nat_le, is_none, is_some, ◌⊎◌, find, max, count_by}
use Rattle.std.specs.List.{list_any}
use Rattle.std.proofs.lemmas.Bool.{cond_both, and_parts, and_right, and_left, and_from, or_left, ltb-true, le-leb, lt-leb, lt-ltb, not-true, cond-false, cond-true, cases_lt}
use Rattle.std.proofs.lemmas.Bool.Decides.{nat_tests}
use Rattle.mem_hier.specs.Replay.{Reference}
use Rattle.ooo_table.specs.Row.{Row, is_at, is_before, sweep, MemoryAccess, returned}
use Rattle.ooo_table.specs.Table.{Setting, Table, NextFetch}
use Rattle.ooo_table.specs.Path.{execution, loads, redirected, next_fetch_after, keeps_fetching, mispredicted}
use Rattle.ooo_table.specs.Done.{written, waiting, live}
use Rattle.ooo_table.specs.Commit.{commit, commit_row}
use Rattle.ooo_table.specs.Recovery.{recover, squash_row, recovers}
use Rattle.ooo_table.specs.References.{store_references, predictor_events_of, references_of}
use Rattle.ooo_table.specs.Issue.{issue, issue_row, issues, accesses, access_of}
use Rattle.ooo_table.specs.Dispatch.{dispatch, dispatch_row, dispatches, may_enter}
use Rattle.ooo_table.specs.Fetch.{fetch_up_to, fetch_one, may_fetch, fetched_row, queue_cycle}
use Rattle.ooo_table.specs.Cycle.{table, cycle}
use Rattle.ooo_table.specs.Ends.{stops_in, commits_in, exited}
use Rattle.ooo_table.specs.Later.{Each, Where}
use Rattle.ooo_table.specs.PathLaws.{newest}
use Rattle.ooo_table.specs.Bound.{Bounded, bound}
use Rattle.ooo_table.specs.CycleLaws.{RowFacts, Focus}
use Rattle.ooo_table.proofs.Over.{Over, AllOver, count_none, each_map, commit_same, issue_same, dispatch_same, swept_same, any_from, not_waiting}
use Rattle.ooo_table.proofs.Times.{Times, Reads, times_table}
use Rattle.ooo_table.proofs.Route.{Ahead, route_table}
use Rattle.ooo_table.proofs.Marks.{fetch_adds}
use Rattle.ooo_table.proofs.Deadlines.{each_split, commit_row_keeps, squash_row_keeps, dispatch_row_keeps, each_sweep, still_running}
use Rattle.ooo_table.proofs.RowFacts.{facts_table}
use Rattle.ooo_table.proofs.Enter.{Settled, Oldest, oldest, all_over, over_row, fetched_commits}
use Rattle.ooo_table.proofs.Route.{Strays, find_none}
use Rattle.ooo_table.proofs.Times.{gone_all, times_later}

both : {b : Bool} → b ≡ true → b ≡ false → ⊥
both e g = cc

-- the earliest cycle of the next fetch is near, or close behind the newest row
abbrev pub After : List Row → NextFetch → Type 0
After [] u = ⊥
After (r ∷ rows) u = (r.squashed ≡ None) × (u.earliest ≤ max (suc r.fetched.at) r.fetched.queued)

module _ (set : Setting) (I M : ℕ) (limits : Bounded set I M) where
  abbrev pub Soon : ℕ → Table → Type 0
  Soon c t = (t.next_fetch.earliest ≤ c + set.config.penalty) ⊎ After t.rows t.next_fetch

  -- a stage that squashes nothing keeps this
  after_sweep : (f : List Row → Row → Row) → ((b : List Row) (o : Row) → ((f b o).fetched ≡ o.fetched) × ((f b o).squashed ≡ o.squashed)) → (rows : List Row) (u : NextFetch) → After rows u → After (sweep f rows) u
  after_sweep f same [] u h = absurd h
  after_sweep f same (r ∷ rows) u h =
      ((same (sweep f rows) r).1 ∙ h.0, subst (λ w. u.earliest ≤ max (suc w.at) w.queued) (sym (same (sweep f rows) r).0) h.1)

  squash_still : (c : ℕ) (rows : List Row) → find (recovers set c) rows ≡ None → sweep (squash_row set c) rows ≡ rows
  squash_still c [] e = refl
  squash_still c (r ∷ rows) e =
      ap (λ l. squash_row set c l r ∷ l) (squash_still c rows (rest (recovers set c r) e))
      ∙ ap (λ x. x ∷ rows) (cond-false (list_any (recovers set c) rows && is_none r.squashed) (record r { squashed = Some c }) r (and_left (list_any (recovers set c) rows) (is_none r.squashed) (nothing rows (rest (recovers set c r) e))))
    where
      rest : (b : Bool) → cond b (Some r) (find (recovers set c) rows) ≡ None → find (recovers set c) rows ≡ None
      rest true e = absurd cc
      rest false e = e

      nothing : (rows : List Row) → find (recovers set c) rows ≡ None → list_any (recovers set c) rows ≡ false
      nothing [] e = refl
      nothing (o ∷ rows) e = by_case (recovers set c o) e (nothing rows)
        where
          by_case : (b : Bool) → cond b (Some o) (find (recovers set c) rows) ≡ None → (find (recovers set c) rows ≡ None → list_any (recovers set c) rows ≡ false) → (b || list_any (recovers set c) rows) ≡ false
          by_case true e ih = absurd cc
          by_case false e ih = ih e

  soon_recover : (c : ℕ) (t : Table) → Soon c t → Soon c (recover set c t)
  soon_recover c t s = by_find (find (recovers set c) t.rows) refl s
    where
      by_find : (o : Option Row) → find (recovers set c) t.rows ≡ o → Soon c t → ((redirected set c o t.next_fetch).earliest ≤ c + set.config.penalty) ⊎ After (sweep (squash_row set c) t.rows) (redirected set c o t.next_fetch)
      by_find (Some m) e s = inl (omega arith)
      by_find None e (inl s) = inl s
      by_find None e (inr s) = inr (subst (λ l. After l t.next_fetch) (sym (squash_still c t.rows e)) s)

  soon_fetches : (n c : ℕ) (t : Table) → Soon c t → Soon c (fetch_up_to set n c t)
  soon_fetches zero c t s = s
  soon_fetches (suc n) c t s =
      cond_both (may_fetch set c t) (fetch_up_to set n c (fetch_one set c t)) t (λ u. Soon c u) (λ _. soon_fetches n c (fetch_one set c t) (inr (refl, bounded))) (λ _. s)
    where
      row : Row
      row = fetched_row set c t.next_fetch (set.look t.next_fetch.pc (predictor_events_of set c t.rows t.predictor_events)) (queue_cycle set c t.next_fetch.pc (references_of set c t.rows t.references))

      bounded : (next_fetch_after set c row).earliest ≤ max (suc c) row.fetched.queued
      bounded = cond_both (keeps_fetching set c row) c (max (suc c) row.fetched.queued) (λ e. e ≤ max (suc c) row.fetched.queued) (λ _. omega arith) (λ _. omega arith)

  soon_cycle : (c : ℕ) (t : Table) → Soon c t → Soon (suc c) (cycle set c t)
  soon_cycle c t s = later (soon_fetches set.config.decode c (dispatch set c three) (swept s2))
    where
      one : Table
      one = commit set c t

      two : Table
      two = recover set c one

      three : Table
      three = issue set c two

      base : List Reference
      base = store_references set c two.rows two.references

      first : Soon c t → Soon c one
      first (inl h) = inl h
      first (inr h) = inr (after_sweep (commit_row set c) (λ b o. commit_row_keeps set I M limits c (λ s. (s.fetched ≡ o.fetched) × (s.squashed ≡ o.squashed)) b o (refl, refl) (refl, refl)) t.rows t.next_fetch h)

      s2 : Soon c two
      s2 = soon_recover c one (first s)

      swept : Soon c two → Soon c (dispatch set c three)
      swept (inl h) = inl h
      swept (inr h) =
          inr (after_sweep (dispatch_row set c) (λ b o. dispatch_row_keeps set I M limits c (λ s. (s.fetched ≡ o.fetched) × (s.squashed ≡ o.squashed)) b o (refl, refl) (refl, refl)) three.rows two.next_fetch
          (after_sweep (issue_row set c base two.rows)
          (λ b o. cond_both (issues set c two.rows b o) (record o { issued = Some c }) _ (λ s. (s.fetched ≡ o.fetched) × (s.squashed ≡ o.squashed)) (λ _. (refl, refl))
          (λ _. cond_both (accesses set c two.rows b o) (record o { access = Some (access_of set c base b o) }) o (λ s. (s.fetched ≡ o.fetched) × (s.squashed ≡ o.squashed)) (λ _. (refl, refl)) (λ _. (refl, refl))))
          two.rows two.next_fetch h))

      later : Soon c (cycle set c t) → Soon (suc c) (cycle set c t)
      later (inl h) = inl (omega arith)
      later (inr h) = inr h

  soon_table : (c : ℕ) → Soon c (table set c)
  soon_table zero = inl (omega arith)
  soon_table (suc c) = soon_cycle c (table set c) (soon_table c)

  -- a dispatched right row doesn't stop
  abbrev Goes : Row → Type 0
  Goes r = r.fetched.right ≡ true → is_some r.dispatched ≡ true → (execution set r).stops ≡ false

  goes_cycle : (c : ℕ) (t : Table) → Each (λ _ o. Goes o) t.rows → Each (λ _ o. Goes o) (cycle set c t).rows
  goes_cycle c t h = fetches set.config.decode (dispatch set c three) h4
    where
      one : Table
      one = commit set c t

      two : Table
      two = recover set c one

      three : Table
      three = issue set c two

      base : List Reference
      base = store_references set c two.rows two.references

      h1 : Each (λ _ o. Goes o) one.rows
      h1 = each_sweep set I M limits Goes Goes (commit_row set c) (λ b o k. commit_row_keeps set I M limits c Goes b o k k) t.rows h

      h2 : Each (λ _ o. Goes o) two.rows
      h2 = each_sweep set I M limits Goes Goes (squash_row set c) (λ b o k. squash_row_keeps set I M limits c Goes b o k k) one.rows h1

      h3 : Each (λ _ o. Goes o) three.rows
      h3 = each_sweep set I M limits Goes Goes (issue_row set c base two.rows)
          (λ b o k. cond_both (issues set c two.rows b o) (record o { issued = Some c }) _ Goes (λ _. k)
          (λ _. cond_both (accesses set c two.rows b o) (record o { access = Some (access_of set c base b o) }) o Goes (λ _. k) (λ _. k))) two.rows h2

      turn : (b : List Row) (o : Row) → Goes o → Goes (dispatch_row set c b o)
      turn b o k = cond_both (dispatches set c b o) (record o { dispatched = Some c }) o Goes (λ e w s. not-true _ (entered w (enter e))) (λ _. k)
        where
          enter : dispatches set c b o ≡ true → may_enter set b o ≡ true
          enter e = grind (arith, and_parts)

          entered : o.fetched.right ≡ true → may_enter set b o ≡ true → not (execution set o).stops ≡ true
          entered w m =
              let k : (not (execution set o).stops && (not (execution set o).call || (count_by live b == 0))) ≡ true =
              sym (cond-true o.fetched.right (not (execution set o).stops && (not (execution set o).call || (count_by live b == 0))) (not (execution set o).call) w) ∙ m in
              (and_parts _ _ k).0

      h4 : Each (λ _ o. Goes o) (dispatch set c three).rows
      h4 = each_sweep set I M limits Goes Goes (dispatch_row set c) turn three.rows h3

      fetches : (n : ℕ) (u : Table) → Each (λ _ o. Goes o) u.rows → Each (λ _ o. Goes o) (fetch_up_to set n c u).rows
      fetches zero u h = h
      fetches (suc n) u h = cond_both (may_fetch set c u) (fetch_up_to set n c (fetch_one set c u)) u (λ v. Each (λ _ o. Goes o) v.rows) (λ _. fetches n (fetch_one set c u) ((λ w s. absurd cc), h)) (λ _. h)

  goes_table : (c : ℕ) → Each (λ _ o. Goes o) (table set c).rows
  goes_table zero = tt
  goes_table (suc c) = goes_cycle c (table set c) (goes_table c)

  -- a right row that has committed was written back, and the path goes on behind it
  path_row : (c : ℕ) (rows : List Row) → Each (RowFacts set c) rows → Each (Times set I M limits c) rows → Each (λ _ o. Goes o) rows → Settled rows
      → Each (λ _ o. o.fetched.right ≡ true → (is_before c (written set o) ≡ true) × ((execution set o).stops ≡ false)) rows
  path_row c [] g t k s = tt
  path_row c (o ∷ rows) g t k s = ((λ w. (back w, k.0 w (g.0.left (s.0 w)))), path_row c rows g.1 t.1 k.1 s.1)
    where
      over : o.fetched.right ≡ true → Over set c c o
      over w = over_row set I M limits c c rows o g.0 t.0 s.0 (λ f. absurd (both w f))

      by_access : (m : Option MemoryAccess) → Where m (Reads set I M limits c (written set o)) → is_some m ≡ true → is_before c (written set o) ≡ true
      by_access None h e = absurd cc
      by_access (Some a) h e = later (written set o) h.2
        where
          later : (w : Option ℕ) → is_before (suc a.at) w ≡ true → is_before c w ≡ true
          later None h = absurd cc
          later (Some x) k = let lt : x < suc a.at = ltb-true _ _ k in let early : a.at < c = h.0 in lt-ltb x c (omega arith)

      back : o.fetched.right ≡ true → is_before c (written set o) ≡ true
      back w = by_load (loads set o) refl
        where
          by_load : (b : Bool) → loads set o ≡ b → is_before c (written set o) ≡ true
          by_load true l = by_access o.access t.0.access ((over w).read w l)
          by_load false l = ap (λ b. is_before c (cond b (returned o) (written set o))) (sym l) ∙ (over w).done w

  newest_shows : (P : Row → Type 0) (rows : List Row) (m : Row) → newest rows ≡ Some m → Each (λ _ o. o.fetched.right ≡ true → P o) rows → P m
  newest_shows P [] m e h = absurd cc
  newest_shows P (o ∷ rows) m e h = by_case o.fetched.right refl e (newest_shows P rows m)
    where
      by_case : (b : Bool) → o.fetched.right ≡ b → cond b (Some o) (newest rows) ≡ Some m → (newest rows ≡ Some m → Each (λ _ o. o.fetched.right ≡ true → P o) rows → P m) → P m
      by_case true f e ih = let k : o ≡ m = cc in subst P k (h.0 f)
      by_case false f e ih = ih e h.1

  -- hence the next row is right
  next_right : (c : ℕ) (t : Table) → Ahead set c t.rows t.next_fetch → Each (λ _ o. o.fetched.right ≡ true → (is_before c (written set o) ≡ true) × ((execution set o).stops ≡ false)) t.rows → t.next_fetch.right ≡ true
  next_right c t a shows = by_right t.next_fetch.right refl
    where
      off : (o : Option Row) → newest t.rows ≡ o → Strays set c o → ⊥
      off None e s = s
      off (Some m) e (inl s) = both s (newest_shows (λ o. (is_before c (written set o) ≡ true) × ((execution set o).stops ≡ false)) t.rows m e shows).1
      off (Some m) e (inr s) = both (newest_shows (λ o. (is_before c (written set o) ≡ true) × ((execution set o).stops ≡ false)) t.rows m e shows).0 s.1

      by_right : (b : Bool) → t.next_fetch.right ≡ b → t.next_fetch.right ≡ true
      by_right true e = e
      by_right false e = absurd (off (newest t.rows) refl (a.strays e))

  -- and its fetch is due within the penalty
  next_soon : (c : ℕ) (t : Table) → Each (Times set I M limits c) t.rows → AllOver set c c t.rows → Soon c t → t.next_fetch.earliest ≤ c + set.config.penalty
  next_soon c t times over (inl h) = h
  next_soon c t times over (inr h) = by_rows t.rows times over h
    where
      by_rows : (rows : List Row) → Each (Times set I M limits c) rows → AllOver set c c rows → After rows t.next_fetch → t.next_fetch.earliest ≤ c + set.config.penalty
      by_rows [] times over h = absurd h
      by_rows (r ∷ rows) times over h = by_right r.fetched.right refl
        where
          soon : (m : Option ℕ) → is_some m ≡ true → Where m (λ d. (d < c) × (r.fetched.queued < d)) → t.next_fetch.earliest ≤ c + set.config.penalty
          soon None e w = absurd cc
          soon (Some d) e w = let lt : d < c = w.0 in let gt : r.fetched.queued < d = w.1 in let bound : t.next_fetch.earliest ≤ max (suc r.fetched.at) r.fetched.queued = h.1 in let at : r.fetched.at ≤ r.fetched.queued = times.0.least in omega arith

          by_right : (b : Bool) → r.fetched.right ≡ b → t.next_fetch.earliest ≤ c + set.config.penalty
          by_right true e = soon r.dispatched (over.0.came e) times.0.dispatched
          by_right false e = let (x, f, le) = over.0.gone e in absurd (some_not x f h.0)
            where
              some_not : (x : ℕ) → r.squashed ≡ Some x → r.squashed ≡ None → ⊥
              some_not x f g = let k : ◌≡◌ {A = Option ℕ} None (Some x) = sym g ∙ f in cc

  -- with all rows over, a cycle changes nothing but fetches
  idle_cycle : (c : ℕ) (t : Table) → AllOver set c c t.rows → Each (λ _ o. o.fetched.right ≡ true → (is_before c (written set o) ≡ true) × ((execution set o).stops ≡ false)) t.rows
      → (dispatch set c (issue set c (recover set c (commit set c t)))) ≡ t
  idle_cycle c t over shows =
      ap (λ u. dispatch set c (issue set c (recover set c u))) s1 ∙ (ap (λ u. dispatch set c (issue set c u)) s2 ∙ (ap (dispatch set c) s3 ∙ s4))
    where
      s1 : commit set c t ≡ t
      s1 = ap (λ l. record t { rows = l }) (swept_same set c c (commit_row set c) (commit_same set c c) t.rows over)

      none_at : (o : Row) → (o.fetched.right ≡ true → (is_before c (written set o) ≡ true) × ((execution set o).stops ≡ false)) → recovers set c o ≡ false
      none_at o h = by_right o.fetched.right refl
        where
          below_not_at : (m : Option ℕ) → is_before c m ≡ true → is_at c m ≡ false
          below_not_at None k = absurd cc
          below_not_at (Some x) k = grind (arith, nat_tests)

          by_right : (b : Bool) → o.fetched.right ≡ b → recovers set c o ≡ false
          by_right true w = and_right (mispredicted set o) (is_at c (written set o)) (below_not_at (written set o) (h w).0)
          by_right false w = and_left (mispredicted set o) (is_at c (written set o))
              (and_left (o.fetched.right && not (execution set o).stops) (not (o.fetched.predicted == (execution set o).next)) (and_left o.fetched.right (not (execution set o).stops) w))

      none : find (recovers set c) t.rows ≡ None
      none = find_none set c t.rows (any_from (recovers set c) t.rows (each_map (λ o. o.fetched.right ≡ true → (is_before c (written set o) ≡ true) × ((execution set o).stops ≡ false)) (λ o. recovers set c o ≡ false) none_at t.rows shows))

      s2 : recover set c t ≡ t
      s2 = ap (λ o. record t { rows = sweep (squash_row set c) t.rows; next_fetch = redirected set c o t.next_fetch }) none
          ∙ ap (λ l. record t { rows = l }) (squash_still c t.rows none)

      s3 : issue set c t ≡ t
      s3 = ap (λ l. record t { rows = l }) (swept_same set c c (issue_row set c (store_references set c t.rows t.references) t.rows) (issue_same set c c (store_references set c t.rows t.references) t.rows) t.rows over)

      s4 : dispatch set c t ≡ t
      s4 = ap (λ l. record t { rows = l }) (swept_same set c c (dispatch_row set c) (dispatch_same set c c) t.rows over)

  -- what it fetches first is a right row
  one_fetched : (n c : ℕ) (t : Table) → t.next_fetch.right ≡ true → may_fetch set c t ≡ true → Settled (fetch_up_to set (suc n) c t).rows → ⊥
  one_fetched n c t right may s = inside (fetch_adds set n c (fetch_one set c t)) (subst (λ u. Settled u.rows) (cond-true (may_fetch set c t) (fetch_up_to set n c (fetch_one set c t)) t may) s)
    where
      row : Row
      row = fetched_row set c t.next_fetch (set.look t.next_fetch.pc (predictor_events_of set c t.rows t.predictor_events)) (queue_cycle set c t.next_fetch.pc (references_of set c t.rows t.references))

      inside : (fresh : List Row) × ((fetch_up_to set n c (fetch_one set c t)).rows ≡ fresh ++ (row ∷ t.rows)) → Settled (fetch_up_to set n c (fetch_one set c t)).rows → ⊥
      inside (fresh, e) s = let k : (row.fetched.right ≡ true → is_some row.committed ≡ true) × Settled t.rows = each_split (λ _ o. o.fetched.right ≡ true → is_some o.committed ≡ true) fresh t.rows row (subst Settled e s) in
          both (k.0 right) refl

  some_fetched : (n c : ℕ) (t : Table) → 1 ≤ n → t.next_fetch.right ≡ true → may_fetch set c t ≡ true → Settled (fetch_up_to set n c t).rows → ⊥
  some_fetched zero c t le right may s = absurd (omega arith)
  some_fetched (suc n) c t le right may s = one_fetched n c t right may s

  none_fetched : (n c : ℕ) (t : Table) → may_fetch set c t ≡ false → fetch_up_to set n c t ≡ t
  none_fetched zero c t may = refl
  none_fetched (suc n) c t may = cond-false (may_fetch set c t) (fetch_up_to set n c (fetch_one set c t)) t may

  -- the machine with no right row in flight
  pub record Resting (c : ℕ) : Type 0 where
    pub right : (table set c).next_fetch.right ≡ true
    pub over : AllOver set c c (table set c).rows
    pub same : dispatch set c (issue set c (recover set c (commit set c (table set c)))) ≡ table set c

  resting : (c : ℕ) → Settled (table set c).rows → Resting c
  resting c settled = record { right = right; over = over; same = idle_cycle c t over shows }
    where
      t : Table
      t = table set c

      times : Each (Times set I M limits c) t.rows
      times = times_table set I M limits c

      shows : Each (λ _ o. o.fetched.right ≡ true → (is_before c (written set o) ≡ true) × ((execution set o).stops ≡ false)) t.rows
      shows = path_row c t.rows (facts_table set c) times (goes_table c) settled

      ahead : Ahead set c t.rows t.next_fetch
      ahead = (route_table set c limits.penalty).1

      right : t.next_fetch.right ≡ true
      right = next_right c t ahead shows

      over : AllOver set c c t.rows
      over = all_over set I M limits c c t.rows (facts_table set c) times settled (gone_all set I M limits c t.rows (times_later set I M limits c t.rows times) (ahead.clean right))

  abbrev pub Result : ℕ → ℕ → Type 0
  Result c n = (x : ℕ) × (c ≤ x) × (x < c + n + 1 + I + M + 43) × ((commits_in set x (table set x) || stops_in set x (table set x)) ≡ true)

  -- the next right row is fetched in this cycle, or the time until it has become less
  idle_now : (n c : ℕ) → exited set (table set c) ≡ false → Settled (table set c).rows
      → (c < (table set c).next_fetch.earliest → exited set (table set (suc c)) ≡ false → Settled (table set (suc c)).rows → (table set (suc c)).next_fetch.earliest ≡ (table set c).next_fetch.earliest → Result c n)
      → Result c n
  idle_now n c running settled wait = by_now (commits_in set c t) refl
    where
      t : Table
      t = table set c

      rest : Resting c
      rest = resting c settled

      quiet_next : commits_in set c t ≡ false → exited set (table set (suc c)) ≡ false
      quiet_next q = still_running set I M limits c t running q

      by_oldest : commits_in set c t ≡ false → Settled (table set (suc c)).rows ⊎ Focus Oldest (table set (suc c)).rows → (Settled (table set (suc c)).rows → ⊥) → Result c n
      by_oldest q (inl s) never = absurd (never s)
      by_oldest q (inr f) never = let (x, le, lt, h) = fetched_commits set I M limits (suc c) (quiet_next q) f in (x, omega arith, omega arith, h)

      may : t.next_fetch.earliest ≤ c → may_fetch set c t ≡ true
      may le = and_from _ _ (le-leb t.next_fetch.earliest c le)
          (lt-ltb _ _ (omega (arith, limits.ifq, count_none waiting t.rows (each_map (Over set c c) _ (λ o v. not_waiting set c c o v) t.rows rest.over))))

      fetched : t.next_fetch.earliest ≤ c → Settled (table set (suc c)).rows → ⊥
      fetched le s = some_fetched set.config.decode c t limits.decode rest.right (may le) (subst (λ u. Settled (fetch_up_to set set.config.decode c u).rows) rest.same s)

      left : c < t.next_fetch.earliest → fetch_up_to set set.config.decode c (dispatch set c (issue set c (recover set c (commit set c t)))) ≡ t
      left lt = ap (fetch_up_to set set.config.decode c) rest.same
          ∙ none_fetched set.config.decode c t (and_left (nat_le t.next_fetch.earliest c) (nat_lt (count_by waiting t.rows) set.config.ifq) (lt-leb t.next_fetch.earliest c lt))

      by_time : commits_in set c t ≡ false → (c < t.next_fetch.earliest) ⊎ (t.next_fetch.earliest ≤ c) → Result c n
      by_time q (inr le) = by_oldest q (oldest (table set (suc c)).rows) (fetched le)
      by_time q (inl lt) = wait lt (quiet_next q) (subst (λ u. Settled u.rows) (sym (left lt)) settled) (ap (λ u. u.next_fetch.earliest) (left lt))

      by_now : (b : Bool) → commits_in set c t ≡ b → Result c n
      by_now true e = (c, omega arith, omega arith, or_left _ _ e)
      by_now false e = by_time e (cases_lt c t.next_fetch.earliest)

  idle_commits : (n c : ℕ) → exited set (table set c) ≡ false → Settled (table set c).rows → (table set c).next_fetch.earliest ≤ c + n → Result c n
  idle_commits zero c running settled soon = idle_now zero c running settled (λ lt r s e. absurd (omega arith))
  idle_commits (suc n) c running settled soon =
      idle_now (suc n) c running settled (λ lt r s e. let (x, le, less, h) = idle_commits n (suc c) r s (omega arith) in (x, omega arith, omega arith, h))

  -- within each K cycles a row commits or the machine stops
  pub bound_holds : (c : ℕ) → exited set (table set c) ≡ false
      → (x : ℕ) × (c ≤ x) × (x < c + bound set I M) × ((commits_in set x (table set x) || stops_in set x (table set x)) ≡ true)
  bound_holds c running = by_oldest (oldest (table set c).rows)
    where
      by_oldest : Settled (table set c).rows ⊎ Focus Oldest (table set c).rows → (x : ℕ) × (c ≤ x) × (x < c + bound set I M) × ((commits_in set x (table set x) || stops_in set x (table set x)) ≡ true)
      by_oldest (inr f) = let (x, le, lt, h) = fetched_commits set I M limits c running f in (x, le, omega arith, h)
      by_oldest (inl s) =
          let (x, le, lt, h) = idle_commits set.config.penalty c running s (next_soon c (table set c) (times_table set I M limits c) (resting c s).over (soon_table c)) in
          (x, le, omega arith, h)
