-- Facts that every row keeps; among them, that commits are in row order.
use Rattle.std.proofs.Common.{◌≡◌, ℕ, zero, suc, ◌+◌, ◌≤◌, Bool, true, false, cond, List, [], ◌∷◌, Option, Some, None, refl, sym, ap, ◌∙◌, subst, arith, inl, inr}
use Rattle.std.specs.Prelude.{◌&&◌, ◌||◌, not, is_none, is_some, option_map, ◌⊎◌}
use Rattle.std.specs.List.{AllZip, list_any, list_all}
use Rattle.std.proofs.lemmas.Bool.{cond_both, and_parts, and_right, not-true}
use Rattle.mem_hier.specs.Replay.{Reference}
use Rattle.bpred_unit.specs.declared.predictor.Look.{Look}
use Rattle.ooo_table.specs.Row.{Row, is_before, sweep, returned}
use Rattle.ooo_table.specs.Execution.{unit_latency}
use Rattle.ooo_table.specs.Table.{Setting, Table, NextFetch}
use Rattle.ooo_table.specs.Path.{execution, stores, loads}
use Rattle.ooo_table.specs.Done.{have_produced, done_before, finished, written, waiting}
use Rattle.ooo_table.specs.Commit.{commit, commits, commit_row}
use Rattle.ooo_table.specs.Recovery.{recover, squash_row, recovers}
use Rattle.ooo_table.specs.References.{store_references, predictor_events_of}
use Rattle.ooo_table.specs.Issue.{issue, issues, accesses, issue_row, access_of}
use Rattle.ooo_table.specs.Dispatch.{dispatch, dispatches, dispatch_row}
use Rattle.ooo_table.specs.Fetch.{fetch_up_to, fetch_one, may_fetch, fetched_row}
use Rattle.ooo_table.specs.Cycle.{table, cycle}
use Rattle.ooo_table.specs.Later.{Each, Where, By}
use Rattle.ooo_table.specs.Legal.{CommitAllowed, InOrder, CommitsInOrder}
use Rattle.ooo_table.specs.CycleLaws.{RowFacts, Passed}
use Rattle.ooo_table.proofs.Marks.{none_of}
use Rattle.ooo_table.proofs.Order.{Changed, Now, done_stays}

-- a sweep keeps a fact that each of its turns keeps
pub sweep_keeps : (P : List Row → Row → Type 0) (R : Row → Row → Type 0) (f : List Row → Row → Row)
    → ((older : List Row) (r : Row) → R r (f older r))
    → ((older before : List Row) (r : Row) → AllZip R older before → Each P before → P older r → P before (f before r))
    → (rows : List Row) → Each P rows → AllZip R rows (sweep f rows) × Each P (sweep f rows)
sweep_keeps P R f changed step [] facts = (tt, tt)
sweep_keeps P R f changed step (r ∷ older) facts =
    let ih : AllZip R older (sweep f older) × Each P (sweep f older) = sweep_keeps P R f changed step older facts.1 in
    ((changed (sweep f older) r, ih.0), (step older (sweep f older) r ih.0 ih.1 facts.0, ih.1))

-- a row that isn't waiting never waits again
pub waits_not : (c : ℕ) (o o' : Row) → Changed c o o' → waiting o ≡ false → waiting o' ≡ false
waits_not c o o' ch h = by_dispatch ch.dispatched
  where
    by_squash : is_none o'.dispatched ≡ is_none o.dispatched → Now (λ d. d ≡ c) o.squashed o'.squashed → waiting o' ≡ false
    by_squash e (inl f) = rw (e, f) h
    by_squash e (inr (f, i, at)) = rw i (and_right (is_none o'.dispatched) false refl)

    by_dispatch : (o'.dispatched ≡ o.dispatched) ⊎ ((waiting o ≡ true) × (o'.dispatched ≡ Some c)) → waiting o' ≡ false
    by_dispatch (inl e) = by_squash (ap is_none e) ch.squashed
    by_dispatch (inr (w, e)) = absurd cc

pub passed_stays : (c : ℕ) (older before : List Row) → AllZip (Changed c) older before → Passed older → Passed before
passed_stays c [] [] zip p = tt
passed_stays c (o ∷ older) (o' ∷ before) zip p = (waits_not c o o' zip.0 p.0, passed_stays c older before zip.1 p.1)
passed_stays c [] (o' ∷ before) zip p = absurd zip
passed_stays c (o ∷ older) [] zip p = absurd zip

-- marks don't change
same_if_set : {A : Type 0} (At : A → Type 0) (old new : Option A) → Now At old new → is_some old ≡ true → new ≡ old
same_if_set At old new (inl e) h = e
same_if_set At old new (inr (e, i, at)) h = absurd cc (sym h ∙ ap is_some e)

order_stays : (c x : ℕ) (older before : List Row) → AllZip (Changed c) older before → Each (λ _. InOrder x) older → Each (λ _. InOrder x) before
order_stays c x [] [] zip p = tt
order_stays c x (o ∷ older) (o' ∷ before) zip p = (record { before = now }, order_stays c x older before zip.1 p.1)
  where
    kept : (m m' : Option ℕ) → Now (λ d. d ≡ c) m m' → By x m → By x m'
    kept m m' (inl e) h = rw e h
    kept None m' (inr e) h = absurd h
    kept (Some y) m' (inr e) h = absurd cc (e.0)

    now : o'.fetched.right ≡ true → By x o'.committed
    now right = kept _ _ zip.0.committed (p.0.before (ap (λ w. w.right) (sym zip.0.fetched) ∙ right))
order_stays c x [] (o' ∷ before) zip p = absurd zip
order_stays c x (o ∷ older) [] zip p = absurd zip

stays_set : {A : Type 0} (At : A → Type 0) (old new : Option A) → Now At old new → is_some old ≡ true → is_some new ≡ true
stays_set At old new n h = ap is_some (same_if_set At old new n h) ∙ h

pub dispatch_same : (c : ℕ) (r s : Row) → Changed c r s → is_some r.dispatched ≡ true → s.dispatched ≡ r.dispatched
dispatch_same c r s ch h = by_case ch.dispatched
  where
    not_waiting : (m n : Option ℕ) → is_some m ≡ true → (is_none m && is_none n) ≡ true → ⊥
    not_waiting None n e h = cc
    not_waiting (Some d) n e h = cc

    by_case : (s.dispatched ≡ r.dispatched) ⊎ ((waiting r ≡ true) × (s.dispatched ≡ Some c)) → s.dispatched ≡ r.dispatched
    by_case (inl e) = e
    by_case (inr (w, e)) = absurd (not_waiting r.dispatched r.squashed h w)

where_at : {A : Type 0} (m : Option A) (P : A → Type 0) (x : A) → m ≡ Some x → Where m P → P x
where_at None P x e w = absurd cc
where_at {A = A} (Some y) P x e w = let k : y ≡ x = cc in subst P k w

unset : {A : Type 0} (m : Option A) → m ≡ None → is_some m ≡ true → ⊥
unset None e h = cc
unset (Some x) e h = cc

module _ (set : Setting) where
  -- what allowed a commit holds on
  commits_allowed : (c x : ℕ) (older before : List Row) (r s : Row) → AllZip (Changed c) older before → Changed c r s → RowFacts set c older r
      → is_some r.committed ≡ true → CommitAllowed set older r x → CommitAllowed set before s x
  commits_allowed c x older before r s zip ch facts left well = by_dispatch r.dispatched refl
    where
      at : is_some r.dispatched ≡ true
      at = facts.left left

      by_dispatch : (m : Option ℕ) → r.dispatched ≡ m → CommitAllowed set before s x
      by_dispatch None e = absurd cc (sym at ∙ ap is_some e)
      by_dispatch (Some d) e =
          record {
            right = ap (λ w. w.right) ch.fetched ∙ well.right;
            done = done_stays set c d x older before r s zip ch (rw e at facts.dispatched_by) (facts.first at) e (dispatch_same c r s ch at ∙ e) well.done;
            order = order_stays c x older before zip well.order;
          }

  -- the facts hold on where they hold of the new marks
  facts_stays : (c : ℕ) (older before : List Row) (r s : Row) → AllZip (Changed c) older before → Changed c r s → RowFacts set c older r
      → (waiting r ≡ true → s.dispatched ≡ Some c → Passed before)
      → (r.issued ≡ None → is_some s.issued ≡ true → is_some s.dispatched ≡ true)
      → (r.access ≡ None → is_some s.access ≡ true → is_some s.issued ≡ true)
      → (r.committed ≡ None → (x : ℕ) → s.committed ≡ Some x → (is_some s.dispatched ≡ true) × CommitAllowed set before s x)
      → RowFacts set c before s
  facts_stays c older before r s zip ch facts dis iss acc cmt =
      record {
        dispatched_by = by_cycle ch.dispatched;
        committed_by = by_now r.committed s.committed ch.committed facts.committed_by;
        came = came' ch.issued;
        reached = reached' ch.access;
        left = λ h. left' ch.committed h;
        first = λ h. first' ch.dispatched h;
        order = order' s.committed refl ch.committed;
      }
    where
      dispatched_set : is_some r.dispatched ≡ true → is_some s.dispatched ≡ true
      dispatched_set h = ap is_some (dispatch_same c r s ch h) ∙ h

      by_now : (m m' : Option ℕ) → Now (λ d. d ≡ c) m m' → Where m (λ d. d ≤ c) → Where m' (λ d. d ≤ c)
      by_now m m' (inl e) w = rw e w
      by_now m None (inr e) w = tt
      by_now m (Some y) (inr (e, i, at)) w = omega arith

      by_cycle : (s.dispatched ≡ r.dispatched) ⊎ ((waiting r ≡ true) × (s.dispatched ≡ Some c)) → Where s.dispatched (λ d. d ≤ c)
      by_cycle (inl e) = rw e facts.dispatched_by
      by_cycle (inr (w, e)) = let h : c ≤ c = omega arith in rw e h

      came' : Now (λ d. d ≡ c) r.issued s.issued → is_some s.issued ≡ true → is_some s.dispatched ≡ true
      came' (inl e) h = dispatched_set (facts.came (ap is_some (sym e) ∙ h))
      came' (inr (e, i, at)) h = iss e h

      reached' : Now (λ a. a.at ≡ c) r.access s.access → is_some s.access ≡ true → is_some s.issued ≡ true
      reached' (inl e) h = stays_set _ _ _ ch.issued (facts.reached (ap is_some (sym e) ∙ h))
      reached' (inr (e, i, at)) h = acc e h

      some_is : {A : Type 0} (m : Option A) → is_some m ≡ true → (x : A) × (m ≡ Some x)
      some_is None h = absurd cc
      some_is (Some x) h = (x, refl)

      left' : Now (λ d. d ≡ c) r.committed s.committed → is_some s.committed ≡ true → is_some s.dispatched ≡ true
      left' (inl e) h = dispatched_set (facts.left (ap is_some (sym e) ∙ h))
      left' (inr (e, i, at)) h = let it : (x : ℕ) × (s.committed ≡ Some x) = some_is s.committed h in (cmt e it.0 it.1).0

      first' : (s.dispatched ≡ r.dispatched) ⊎ ((waiting r ≡ true) × (s.dispatched ≡ Some c)) → is_some s.dispatched ≡ true → Passed before
      first' (inl e) h = passed_stays c older before zip (facts.first (ap is_some (sym e) ∙ h))
      first' (inr (w, e)) h = dis w e

      order' : (m : Option ℕ) → s.committed ≡ m → Now (λ d. d ≡ c) r.committed s.committed → Where m (CommitAllowed set before s)
      order' None e n = tt
      order' (Some x) e (inl f) =
          let at : r.committed ≡ Some x = sym f ∙ e in
          commits_allowed c x older before r s zip ch facts (ap is_some at) (where_at r.committed (CommitAllowed set older r) x at facts.order)
      order' (Some x) e (inr (f, i, at)) = (cmt f x e).1

  pub changed_commit : (c : ℕ) (older : List Row) (r : Row) → Changed c r (commit_row set c older r)
  changed_commit c older r =
      cond_both (commits set c older r) (record r { committed = Some c }) r (Changed c r)
      (λ e. record { fetched = refl; dispatched = inl refl; issued = inl refl; access = inl refl; committed = inr (none e, refl, refl); squashed = inl refl })
      (λ _. record { fetched = refl; dispatched = inl refl; issued = inl refl; access = inl refl; committed = inl refl; squashed = inl refl })
    where
      none : commits set c older r ≡ true → r.committed ≡ None
      none e = grind (arith, none_of, and_parts)

  pub below_is_some : {A : Type 0} (n : ℕ) (f : A → ℕ) (m : Option A) → is_before n (option_map f m) ≡ true → is_some m ≡ true
  below_is_some n f None h = absurd cc
  below_is_some n f (Some x) h = refl

  -- a row that is done has issued
  pub done_issued : (n : ℕ) (older : List Row) (r : Row) → (is_some r.access ≡ true → is_some r.issued ≡ true) → done_before set n older r ≡ true → is_some r.issued ≡ true
  done_issued n older r reached h = by_store (stores set r) h
    where
      by_load : (b : Bool) → is_before n (cond b (returned r) (written set r)) ≡ true → is_some r.issued ≡ true
      by_load true h = reached (below_is_some n (λ a. a.back) r.access h)
      by_load false h = below_is_some n (λ i. i + unit_latency (execution set r).unit) r.issued h

      by_store : (b : Bool) → cond b (is_before n (written set r) && have_produced set n older r (execution set r).second) (is_before n (finished set r)) ≡ true → is_some r.issued ≡ true
      by_store true h = below_is_some n (λ i. i + unit_latency (execution set r).unit) r.issued (and_parts _ _ h).0
      by_store false h = by_load (loads set r) h

  -- the commit stage's test of the rows before, as a fact of each
  all_in_order : (c : ℕ) (rows : List Row) → Each (λ _ o. Where o.committed (λ d. d ≤ c)) rows → list_all (λ o. not o.fetched.right || is_some o.committed) rows ≡ true → Each (λ _. InOrder c) rows
  all_in_order c [] by h = tt
  all_in_order c (o ∷ rows) by h =
      let parts : ((not o.fetched.right || is_some o.committed) ≡ true) × (list_all (λ o. not o.fetched.right || is_some o.committed) rows ≡ true) = and_parts _ _ h in
      (record { before = λ right. by_case o.committed by.0 (rw right at parts.0) }, all_in_order c rows by.1 parts.1)
    where
      by_case : (m : Option ℕ) → Where m (λ d. d ≤ c) → is_some m ≡ true → By c m
      by_case None w h = absurd cc
      by_case (Some d) w h = w

  pub facts_commit : (c : ℕ) (older before : List Row) (r : Row) → AllZip (Changed c) older before → Each (RowFacts set c) before → RowFacts set c older r
      → RowFacts set c before (commit_row set c before r)
  facts_commit c older before r zip below facts =
      cond_both (commits set c before r) (record r { committed = Some c }) r (λ s. Changed c r s → RowFacts set c before s)
      (λ e ch. facts_stays c older before r _ zip ch facts (λ w f. absurd (unset_wait w f)) (λ f h. facts.came h) (λ f h. facts.reached h)
      (λ f x h. (facts.came (done_issued c before r facts.reached (done e)), well e x h)))
      (λ e ch. facts_stays c older before r r zip ch facts (λ w f. absurd (unset_wait w f)) (λ f h. facts.came h) (λ f h. facts.reached h)
      (λ f x h. absurd cc))
      (changed_commit c before r)
    where
      done : commits set c before r ≡ true → done_before set c before r ≡ true
      done e = grind (arith, and_parts)

      is_right : commits set c before r ≡ true → r.fetched.right ≡ true
      is_right e = grind (arith, and_parts)

      all_before : commits set c before r ≡ true → list_all (λ o. not o.fetched.right || is_some o.committed) before ≡ true
      all_before e = grind (arith, and_parts)

      committed_below : (rows : List Row) → Each (RowFacts set c) rows → Each (λ _ o. Where o.committed (λ d. d ≤ c)) rows
      committed_below [] g = tt
      committed_below (o ∷ rows) g = (g.0.committed_by, committed_below rows g.1)

      well : commits set c before r ≡ true → (x : ℕ) → ◌≡◌ {A = Option ℕ} (Some c) (Some x) → CommitAllowed set before (record r { committed = Some c }) x
      well e x h =
          let same : c ≡ x = cc in
          subst (λ y. CommitAllowed set before (record r { committed = Some c }) y) same
          (record { right = is_right e; done = done e; order = all_in_order c before (committed_below before below) (all_before e) })

      unset_wait : waiting r ≡ true → r.dispatched ≡ Some c → ⊥
      unset_wait w f = unset r.dispatched (none_of _ (and_parts _ _ w).0) (ap is_some f)

  unset_wait : (c : ℕ) (r : Row) → waiting r ≡ true → r.dispatched ≡ Some c → ⊥
  unset_wait c r w f = unset r.dispatched (none_of _ (and_parts _ _ w).0) (ap is_some f)

  pub same_changed : (c : ℕ) (r : Row) → Changed c r r
  same_changed c r = record { fetched = refl; dispatched = inl refl; issued = inl refl; access = inl refl; committed = inl refl; squashed = inl refl }

  -- a row that its turn leaves as it is, behind rows that may have changed
  pub facts_same : (c : ℕ) (older before : List Row) (r : Row) → AllZip (Changed c) older before → RowFacts set c older r → RowFacts set c before r
  facts_same c older before r zip facts =
      facts_stays c older before r r zip (same_changed c r) facts (λ w f. absurd (unset_wait c r w f)) (λ f h. facts.came h) (λ f h. facts.reached h)
      (λ f x h. absurd cc)

  pub changed_squash : (c : ℕ) (older : List Row) (r : Row) → Changed c r (squash_row set c older r)
  changed_squash c older r =
      cond_both (list_any (recovers set c) older && is_none r.squashed) (record r { squashed = Some c }) r (Changed c r)
      (λ e. record { fetched = refl; dispatched = inl refl; issued = inl refl; access = inl refl; committed = inl refl; squashed = inr (none_of _ (and_parts _ _ e).1, refl, refl) })
      (λ _. same_changed c r)

  pub facts_squash : (c : ℕ) (older before : List Row) (r : Row) → AllZip (Changed c) older before → Each (RowFacts set c) before → RowFacts set c older r
      → RowFacts set c before (squash_row set c before r)
  facts_squash c older before r zip below facts =
      cond_both (list_any (recovers set c) before && is_none r.squashed) (record r { squashed = Some c }) r (λ s. Changed c r s → RowFacts set c before s)
      (λ e ch. facts_stays c older before r _ zip ch facts (λ w f. absurd (unset_wait c r w f)) (λ f h. facts.came h) (λ f h. facts.reached h)
      (λ f x h. absurd cc))
      (λ e ch. facts_same c older before r zip facts)
      (changed_squash c before r)

  pub changed_dispatch : (c : ℕ) (older : List Row) (r : Row) → Changed c r (dispatch_row set c older r)
  changed_dispatch c older r =
      cond_both (dispatches set c older r) (record r { dispatched = Some c }) r (Changed c r)
      (λ e. record { fetched = refl; dispatched = inr (waits e, refl); issued = inl refl; access = inl refl; committed = inl refl; squashed = inl refl })
      (λ _. same_changed c r)
    where
      waits : dispatches set c older r ≡ true → waiting r ≡ true
      waits e = grind (arith, and_parts)

  all_passed : (rows : List Row) → list_all (λ o. not (waiting o)) rows ≡ true → Passed rows
  all_passed [] h = tt
  all_passed (o ∷ rows) h =
      let parts : (not (waiting o) ≡ true) × (list_all (λ o. not (waiting o)) rows ≡ true) = and_parts _ _ h in
      (not-true _ parts.0, all_passed rows parts.1)

  pub facts_dispatch : (c : ℕ) (older before : List Row) (r : Row) → AllZip (Changed c) older before → Each (RowFacts set c) before → RowFacts set c older r
      → RowFacts set c before (dispatch_row set c before r)
  facts_dispatch c older before r zip below facts =
      cond_both (dispatches set c before r) (record r { dispatched = Some c }) r (λ s. Changed c r s → RowFacts set c before s)
      (λ e ch. facts_stays c older before r _ zip ch facts (λ w f. all_passed before (firsts e)) (λ f h. refl) (λ f h. facts.reached h)
      (λ f x h. absurd cc))
      (λ e ch. facts_same c older before r zip facts)
      (changed_dispatch c before r)
    where
      firsts : dispatches set c before r ≡ true → list_all (λ o. not (waiting o)) before ≡ true
      firsts e = grind (arith, and_parts)

  module _ (c : ℕ) (base : List Reference) (start : List Row) where
    pub changed_issue : (older : List Row) (r : Row) → Changed c r (issue_row set c base start older r)
    changed_issue older r =
        cond_both (issues set c start older r) (record r { issued = Some c }) _ (Changed c r)
        (λ e. record { fetched = refl; dispatched = inl refl; issued = inr (unissued e, refl, refl); access = inl refl; committed = inl refl; squashed = inl refl })
        (λ _. cond_both (accesses set c start older r) (record r { access = Some (access_of set c base older r) }) r (Changed c r)
        (λ e. record { fetched = refl; dispatched = inl refl; issued = inl refl; access = inr (unread e, refl, refl); committed = inl refl; squashed = inl refl })
        (λ _. same_changed c r))
      where
        unissued : issues set c start older r ≡ true → r.issued ≡ None
        unissued e = grind (arith, none_of, and_parts)

        unread : accesses set c start older r ≡ true → r.access ≡ None
        unread e = grind (arith, none_of, and_parts)

    below_some : (n : ℕ) (m : Option ℕ) → is_before n m ≡ true → is_some m ≡ true
    below_some n None h = absurd cc
    below_some n (Some x) h = refl

    pub facts_issue : (older before : List Row) (r : Row) → AllZip (Changed c) older before → Each (RowFacts set c) before → RowFacts set c older r
        → RowFacts set c before (issue_row set c base start before r)
    facts_issue older before r zip below facts =
        cond_both (issues set c start before r) (record r { issued = Some c }) _ (λ s. Changed c r s → RowFacts set c before s)
        (λ e ch. facts_stays c older before r _ zip ch facts (λ w f. absurd (unset_wait c r w f)) (λ f h. below_some c r.dispatched (in_time e)) (λ f h. refl)
        (λ f x h. absurd cc))
        (λ _. cond_both (accesses set c start before r) (record r { access = Some (access_of set c base before r) }) r (λ s. Changed c r s → RowFacts set c before s)
        (λ e ch. facts_stays c older before r _ zip ch facts (λ w f. absurd (unset_wait c r w f)) (λ f h. facts.came h)
        (λ f h. below_is_some (suc c) (λ i. i + unit_latency (execution set r).unit) r.issued (is_back e)) (λ f x h. absurd cc))
        (λ e ch. facts_same c older before r zip facts))
        (changed_issue before r)
      where
        in_time : issues set c start before r ≡ true → is_before c r.dispatched ≡ true
        in_time e = grind (arith, and_parts)

        is_back : accesses set c start before r ≡ true → is_before (suc c) (written set r) ≡ true
        is_back e = grind (arith, and_parts)

  pub facts_later : (c : ℕ) (older : List Row) (r : Row) → RowFacts set c older r → RowFacts set (suc c) older r
  facts_later c older r g =
      record {
        dispatched_by = weaker r.dispatched g.dispatched_by;
        committed_by = weaker r.committed g.committed_by;
        came = g.came;
        reached = g.reached;
        left = g.left;
        first = g.first;
        order = g.order;
      }
    where
      weaker : (m : Option ℕ) → Where m (λ d. d ≤ c) → Where m (λ d. d ≤ suc c)
      weaker None w = tt
      weaker (Some d) w = omega arith

  all_later : (c : ℕ) (rows : List Row) → Each (RowFacts set c) rows → Each (RowFacts set (suc c)) rows
  all_later c [] g = tt
  all_later c (r ∷ rows) g = (facts_later c rows r g.0, all_later c rows g.1)

  pub facts_fresh : (c : ℕ) (older : List Row) (u : NextFetch) (look : Look) (queued : ℕ) → RowFacts set c older (fetched_row set c u look queued)
  facts_fresh c older u look queued =
      record { dispatched_by = tt; committed_by = tt; came = λ h. absurd cc; reached = λ h. absurd cc; left = λ h. absurd cc; first = λ h. absurd cc; order = tt }

  facts_fetches : (n c : ℕ) (t : Table) → Each (RowFacts set c) t.rows → Each (RowFacts set c) (fetch_up_to set n c t).rows
  facts_fetches zero c t g = g
  facts_fetches (suc n) c t g =
      cond_both (may_fetch set c t) (fetch_up_to set n c (fetch_one set c t)) t (λ u. Each (RowFacts set c) u.rows)
      (λ _. facts_fetches n c (fetch_one set c t) (facts_fresh c t.rows t.next_fetch (set.look t.next_fetch.pc (predictor_events_of set c t.rows t.predictor_events)) _, g)) (λ _. g)

  pub facts_cycle : (c : ℕ) (t : Table) → Each (RowFacts set c) t.rows → Each (RowFacts set c) (cycle set c t).rows
  facts_cycle c t g =
      let one = commit set c t in
      let two = recover set c one in
      let three = issue set c two in
      let g1 : Each (RowFacts set c) one.rows = (sweep_keeps (RowFacts set c) (Changed c) (commit_row set c) (changed_commit c) (facts_commit c) t.rows g).1 in
      let g2 : Each (RowFacts set c) two.rows = (sweep_keeps (RowFacts set c) (Changed c) (squash_row set c) (changed_squash c) (facts_squash c) one.rows g1).1 in
      let base = store_references set c two.rows two.references in
      let g3 : Each (RowFacts set c) three.rows = (sweep_keeps (RowFacts set c) (Changed c) (issue_row set c base two.rows) (changed_issue c base two.rows) (facts_issue c base two.rows) two.rows g2).1 in
      let g4 : Each (RowFacts set c) (dispatch set c three).rows = (sweep_keeps (RowFacts set c) (Changed c) (dispatch_row set c) (changed_dispatch c) (facts_dispatch c) three.rows g3).1 in
      facts_fetches set.config.decode c (dispatch set c three) g4

  pub facts_table : (c : ℕ) → Each (RowFacts set c) (table set c).rows
  facts_table zero = tt
  facts_table (suc c) = all_later c _ (facts_cycle c (table set c) (facts_table c))

  in_order_of : (c : ℕ) (rows : List Row) → Each (RowFacts set c) rows → Each (CommitsInOrder set) rows
  in_order_of c [] g = tt
  in_order_of c (r ∷ rows) g = (g.0.order, in_order_of c rows g.1)

  pub commits_in_order : (c : ℕ) → Each (CommitsInOrder set) (table set c).rows
  commits_in_order c = in_order_of c _ (facts_table c)
