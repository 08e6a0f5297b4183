-- Between which cycles the marks of a row lie, and that wrong rows before a right one are squashed.
use Rattle.std.proofs.Common.{◌≡◌, ℕ, zero, suc, ◌+◌, ◌-◌, ◌<◌, ◌≤◌, true, false, List, [], ◌∷◌, Option, Some, None, refl, sym, ap, ◌∙◌, arith, inl, inr}
use Rattle.std.specs.Prelude.{◌&&◌, nat_lt, is_none, is_some, ◌⊎◌}
use Rattle.std.specs.List.{AllZip, list_any}
use Rattle.std.proofs.lemmas.Bool.{cond_both, and_parts, ltb-true, leb-true}
use Rattle.mem_hier.specs.Replay.{Reference, Fetch, Load}
use Rattle.bpred_unit.specs.declared.predictor.Look.{Look}
use Rattle.ooo_table.specs.Row.{Row, is_before, sweep, MemoryAccess}
use Rattle.ooo_table.specs.Execution.{address}
use Rattle.ooo_table.specs.Table.{Setting, Table, NextFetch}
use Rattle.ooo_table.specs.Path.{execution}
use Rattle.ooo_table.specs.Done.{written, waiting}
use Rattle.ooo_table.specs.Commit.{commit, commit_row, commits}
use Rattle.ooo_table.specs.Recovery.{recover, squash_row, recovers}
use Rattle.ooo_table.specs.References.{predictor_events_of, references_of, store_references, load_references}
use Rattle.ooo_table.specs.Issue.{issue, issue_row, issues, accesses, access_of, is_forwarded}
use Rattle.ooo_table.specs.Dispatch.{dispatch, dispatch_row, dispatches}
use Rattle.ooo_table.specs.Fetch.{fetch_up_to, fetch_one, may_fetch, fetched_row, queue_cycle}
use Rattle.ooo_table.specs.Cycle.{table, cycle}
use Rattle.ooo_table.specs.Later.{Each, Where}
use Rattle.ooo_table.specs.Bound.{Bounded, Rises}
use Rattle.ooo_table.proofs.Order.{Changed, Now, below_written}
use Rattle.ooo_table.proofs.RowFacts.{sweep_keeps, changed_commit, changed_squash, changed_dispatch, changed_issue}
use Rattle.ooo_table.proofs.Rising.{rises_stores, rises_loads, rises_all, rises_table}
use Rattle.ooo_table.proofs.Route.{Route, Ahead, Clean, zip_of, stage_keeps, recover_keeps, any_same, right_stands, route_table, fetched_ahead, fetched_route}

-- all wrong rows were squashed by cycle f
abbrev pub Gone : ℕ → List Row → Type 0
Gone f rows = Each (λ _ o. o.fetched.right ≡ false → (x : ℕ) × (o.squashed ≡ Some x) × (x ≤ f)) rows

module _ (set : Setting) (I M : ℕ) (limits : Bounded set I M) where
  -- the cycles of an access
  abbrev pub Reads : ℕ → Option ℕ → MemoryAccess → Type 0
  Reads n w a = (a.at < n) × (a.back ≤ a.at + M) × (is_before (suc a.at) w ≡ true)

  pub record Times (n : ℕ) (older : List Row) (r : Row) : Type 0 where
    pub at : r.fetched.at < n
    pub least : r.fetched.at ≤ r.fetched.queued
    pub most : r.fetched.queued ≤ r.fetched.at + I
    pub dispatched : Where r.dispatched (λ d. (d < n) × (r.fetched.queued < d))
    pub issued : Where r.issued (λ i. i < n)
    pub access : Where r.access (Reads n (written set r))
    pub committed : Where r.committed (λ x. x < n)
    pub squashed : Where r.squashed (λ x. x < n)
    pub kept : r.fetched.right ≡ true → r.squashed ≡ None
    pub gone : r.fetched.right ≡ true → Gone r.fetched.at older

  gone_stays : (c f : ℕ) (older before : List Row) → AllZip (Changed c) older before → Gone f older → Gone f before
  gone_stays c f [] [] zip g = tt
  gone_stays c f (o ∷ older) (o' ∷ before) zip g = ((λ w. still o.squashed o'.squashed zip.0.squashed (g.0 (ap (λ w. w.right) (sym zip.0.fetched) ∙ w))), gone_stays c f older before zip.1 g.1)
    where
      still : (m m' : Option ℕ) → Now (λ d. d ≡ c) m m' → (x : ℕ) × (m ≡ Some x) × (x ≤ f) → (x : ℕ) × (m' ≡ Some x) × (x ≤ f)
      still m m' (inl e) (x, g, le) = (x, e ∙ g, le)
      still m m' (inr (e, i, at)) (x, g, le) = absurd cc
  gone_stays c f [] (o' ∷ before) zip g = absurd zip
  gone_stays c f (o ∷ older) [] zip g = absurd zip

  now_below : (c : ℕ) (m m' : Option ℕ) → Now (λ d. d ≡ c) m m' → Where m (λ x. x < suc c) → Where m' (λ x. x < suc c)
  now_below c m m' (inl e) w = rw e w
  now_below c m None (inr e) w = tt
  now_below c m (Some y) (inr (e, i, at)) w = omega arith

  times_stays : (c : ℕ) (older before : List Row) (r s : Row) → AllZip (Changed c) older before → Changed c r s → Times (suc c) older r
      → (s.dispatched ≡ Some c → r.fetched.queued < c)
      → (r.access ≡ None → Where s.access (Reads (suc c) (written set s)))
      → (r.fetched.right ≡ true → s.squashed ≡ None)
      → Times (suc c) before s
  times_stays c older before r s zip ch t dis acc stands =
      record {
        at = rw ch.fetched t.at;
        least = rw ch.fetched t.least;
        most = rw ch.fetched t.most;
        dispatched = by_dispatch ch.dispatched;
        issued = now_below c r.issued s.issued ch.issued t.issued;
        access = by_access ch.access;
        committed = now_below c r.committed s.committed ch.committed t.committed;
        squashed = now_below c r.squashed s.squashed ch.squashed t.squashed;
        kept = λ w. stands (ap (λ w. w.right) (sym ch.fetched) ∙ w);
        gone = λ w. rw ch.fetched (gone_stays c r.fetched.at older before zip (t.gone (ap (λ w. w.right) (sym ch.fetched) ∙ w)));
      }
    where
      by_dispatch : (s.dispatched ≡ r.dispatched) ⊎ ((waiting r ≡ true) × (s.dispatched ≡ Some c)) → Where s.dispatched (λ d. (d < suc c) × (s.fetched.queued < d))
      by_dispatch (inl e) = let k : Where r.dispatched (λ d. (d < suc c) × (s.fetched.queued < d)) = rw ch.fetched t.dispatched in rw e k
      by_dispatch (inr (w, e)) = let k : (c < suc c) × (s.fetched.queued < c) = (omega arith, rw ch.fetched (dis e)) in rw e k

      older_read : (m : Option MemoryAccess) → Where m (Reads (suc c) (written set r)) → Where m (Reads (suc c) (written set s))
      older_read None w = tt
      older_read (Some a) w = (w.0, w.1, below_written set c (suc a.at) r s ch w.2)

      by_access : Now (λ a. a.at ≡ c) r.access s.access → Where s.access (Reads (suc c) (written set s))
      by_access (inl e) = let k : Where r.access (Reads (suc c) (written set s)) = older_read r.access t.access in rw e k
      by_access (inr (e, i, at)) = acc e

  unread : (r : Row) (s : Row) (n : ℕ) → s.access ≡ r.access → r.access ≡ None → Where s.access (Reads n (written set s))
  unread r s n e f = let k : s.access ≡ None = e ∙ f in rw k tt

  queued_before : (c : ℕ) (older : List Row) (r : Row) → Times (suc c) older r → r.dispatched ≡ Some c → r.fetched.queued < c
  queued_before c older r t e = by_case r.dispatched e t.dispatched
    where
      by_case : (m : Option ℕ) → m ≡ Some c → Where m (λ d. (d < suc c) × (r.fetched.queued < d)) → r.fetched.queued < c
      by_case None e w = absurd cc
      by_case (Some d) e w = let k : d ≡ c = cc in omega (arith, w.1, k)

  same_turn : (c : ℕ) (older before : List Row) (r s : Row) → AllZip (Changed c) older before → Changed c r s → Times (suc c) older r
      → s.dispatched ≡ r.dispatched → s.access ≡ r.access → s.squashed ≡ r.squashed → Times (suc c) before s
  same_turn c older before r s zip ch t d a q =
      times_stays c older before r s zip ch t (λ e. queued_before c older r t (sym d ∙ e)) (λ f. unread r s (suc c) a f) (λ w. q ∙ t.kept w)

  pub times_commit : (c : ℕ) (older before : List Row) (r : Row) → AllZip (Changed c) older before → Each (Times (suc c)) before → Times (suc c) older r
      → Times (suc c) before (commit_row set c before r)
  times_commit c older before r zip below t =
      cond_both (commits set c before r) (record r { committed = Some c }) r (λ s. Changed c r s → Times (suc c) before s)
      (λ e ch. same_turn c older before r _ zip ch t refl refl refl) (λ e ch. same_turn c older before r _ zip ch t refl refl refl) (changed_commit set c before r)

  pub times_dispatch : (c : ℕ) (older before : List Row) (r : Row) → AllZip (Changed c) older before → Each (Times (suc c)) before → Times (suc c) older r
      → Times (suc c) before (dispatch_row set c before r)
  times_dispatch c older before r zip below t =
      cond_both (dispatches set c before r) (record r { dispatched = Some c }) r (λ s. Changed c r s → Times (suc c) before s)
      (λ e ch. times_stays c older before r _ zip ch t (λ f. ltb-true _ _ (queued e)) (λ f. unread r (record r { dispatched = Some c }) (suc c) refl f) (λ w. t.kept w))
      (λ e ch. same_turn c older before r _ zip ch t refl refl refl) (changed_dispatch set c before r)
    where
      queued : dispatches set c before r ≡ true → nat_lt r.fetched.queued c ≡ true
      queued e = grind (arith, and_parts)

  pub times_issue : (c : ℕ) (base : List Reference) → Rises c base → (start older before : List Row) (r : Row) → AllZip (Changed c) older before → Each (Times (suc c)) before → Times (suc c) older r
      → Times (suc c) before (issue_row set c base start before r)
  times_issue c base rise start older before r zip below t =
      cond_both (issues set c start before r) (record r { issued = Some c }) _ (λ s. Changed c r s → Times (suc c) before s)
      (λ e ch. same_turn c older before r _ zip ch t refl refl refl)
      (λ _. cond_both (accesses set c start before r) (record r { access = Some (access_of set c base before r) }) r (λ s. Changed c r s → Times (suc c) before s)
      (λ e ch. times_stays c older before r _ zip ch t (λ f. queued_before c older r t f) (λ f. (omega arith, in_time, back e)) (λ w. t.kept w))
      (λ e ch. same_turn c older before r _ zip ch t refl refl refl))
      (changed_issue set c base start before r)
    where
      in_time : (access_of set c base before r).back ≤ c + M
      in_time = cond_both (is_forwarded set before r) 1 (set.latency (Load (address (execution set r).memory) c) (load_references set c before base)) (λ n. c + n ≤ c + M)
          (λ e. omega (arith, limits.some)) (λ e. omega (arith, limits.load (address (execution set r).memory) c (load_references set c before base) (rises_loads set c before base rise)))

      back : accesses set c start before r ≡ true → is_before (suc c) (written set r) ≡ true
      back e = grind (arith, and_parts)

  pub times_squash : (c : ℕ) (rows : List Row) → Each (Route set c) rows → Each (Times (suc c)) rows → Each (Times (suc c)) (sweep (squash_row set c) rows)
  times_squash c [] route t = tt
  times_squash c (r ∷ older) route t = (turn, times_squash c older route.1 t.1)
    where
      before : List Row
      before = sweep (squash_row set c) older

      zip : AllZip (Changed c) older before
      zip = zip_of set (squash_row set c) (changed_squash set c) older

      turn : Times (suc c) before (squash_row set c before r)
      turn =
          cond_both (list_any (recovers set c) before && is_none r.squashed) (record r { squashed = Some c }) r (λ s. Changed c r s → Times (suc c) before s)
          (λ e ch. times_stays c older before r (record r { squashed = Some c }) zip ch t.0 (λ f. queued_before c older r t.0 f) (λ f. unread r (record r { squashed = Some c }) (suc c) refl f)
          (λ w. absurd (right_stands set c older r route.1 route.0 w (sym (any_same set c older) ∙ (and_parts (list_any (recovers set c) before) (is_none r.squashed) e).0))))
          (λ e ch. same_turn c older before r r zip ch t.0 refl refl refl)
          (changed_squash set c before r)

  pub gone_all : (c : ℕ) (rows : List Row) → Each (Times (suc c)) rows → Clean rows → Gone c rows
  gone_all c [] t k = tt
  gone_all c (o ∷ rows) t k = ((λ w. it o.squashed (k.0 w) t.0.squashed), gone_all c rows t.1 k.1)
    where
      it : (m : Option ℕ) → is_some m ≡ true → Where m (λ x. x < suc c) → (x : ℕ) × (m ≡ Some x) × (x ≤ c)
      it None h w = absurd cc
      it (Some x) h w = (x, refl, omega arith)

  times_fresh : (c : ℕ) (rows : List Row) (u : NextFetch) (look : Look) (before : List Reference) → Rises c before → Each (Times (suc c)) rows → Ahead set (suc c) rows u
      → Times (suc c) rows (fetched_row set c u look (queue_cycle set c u.pc before))
  times_fresh c rows u look before rise t a =
      record {
        at = omega arith;
        least = bounds.0;
        most = bounds.1;
        dispatched = tt;
        issued = tt;
        access = tt;
        committed = tt;
        squashed = tt;
        kept = λ w. refl;
        gone = λ w. gone_all c rows t (a.clean w);
      }
    where
      bounds : (c ≤ queue_cycle set c u.pc before) × (queue_cycle set c u.pc before ≤ c + I)
      bounds = cond_both (set.is_text u.pc) (c + (set.latency (Fetch u.pc c) before - set.fetch_hit)) c (λ q. (c ≤ q) × (q ≤ c + I))
          (λ e. (omega arith, omega (arith, limits.fetch u.pc c before rise))) (λ e. (omega arith, omega arith))

  times_fetches : (n c : ℕ) (t : Table) → Rises c t.references → Each (Route set (suc c)) t.rows → Ahead set (suc c) t.rows t.next_fetch → Each (Times (suc c)) t.rows
      → Each (Times (suc c)) (fetch_up_to set n c t).rows
  times_fetches zero c t rise route ahead times = times
  times_fetches (suc n) c t rise route ahead times =
      cond_both (may_fetch set c t) (fetch_up_to set n c (fetch_one set c t)) t (λ u. Each (Times (suc c)) u.rows)
      (λ e. let le : t.next_fetch.earliest ≤ c = leb-true _ _ (and_parts _ _ e).0 in
      let row : Route set (suc c) t.rows (fetched_row set c t.next_fetch (set.look t.next_fetch.pc (predictor_events_of set c t.rows t.predictor_events)) (queue_cycle set c t.next_fetch.pc (references_of set c t.rows t.references)))
      = fetched_route set c t.rows t.next_fetch (set.look t.next_fetch.pc (predictor_events_of set c t.rows t.predictor_events)) _ le ahead in
      times_fetches n c (fetch_one set c t) rise (row, route) (fetched_ahead set c t.rows _ refl row ahead.strays)
      (times_fresh c t.rows t.next_fetch (set.look t.next_fetch.pc (predictor_events_of set c t.rows t.predictor_events)) _ (rises_all set c t.rows t.references rise) times ahead, times))
      (λ _. times)

  pub times_later : (c : ℕ) (rows : List Row) → Each (Times c) rows → Each (Times (suc c)) rows
  times_later c [] t = tt
  times_later c (r ∷ rows) t = (one t.0, times_later c rows t.1)
    where
      weak : (m : Option ℕ) → Where m (λ x. x < c) → Where m (λ x. x < suc c)
      weak None w = tt
      weak (Some x) w = omega arith

      weak_d : (m : Option ℕ) → Where m (λ d. (d < c) × (r.fetched.queued < d)) → Where m (λ d. (d < suc c) × (r.fetched.queued < d))
      weak_d None w = tt
      weak_d (Some x) w = let k : x < c = w.0 in (omega arith, w.1)

      weak_a : (m : Option MemoryAccess) → Where m (Reads c (written set r)) → Where m (Reads (suc c) (written set r))
      weak_a None w = tt
      weak_a (Some a) w = let k : a.at < c = w.0 in (omega arith, w.1, w.2)

      one : Times c rows r → Times (suc c) rows r
      one t = record {
        at = let k : r.fetched.at < c = t.at in omega arith;
        least = t.least;
        most = t.most;
        dispatched = weak_d r.dispatched t.dispatched;
        issued = weak r.issued t.issued;
        access = weak_a r.access t.access;
        committed = weak r.committed t.committed;
        squashed = weak r.squashed t.squashed;
        kept = t.kept;
        gone = t.gone;
      }

  times_cycle : (c : ℕ) (t : Table) → Rises c t.references → Each (Route set c) t.rows × Ahead set c t.rows t.next_fetch → Each (Times c) t.rows → Each (Times (suc c)) (cycle set c t).rows
  times_cycle c t rise k times =
      let one = commit set c t in
      let two = recover set c one in
      let three = issue set c two in
      let base = store_references set c two.rows two.references in
      let k1 = stage_keeps set c c (commit_row set c) t.rows t.next_fetch (omega arith) (changed_commit set c) k in
      let k2 = recover_keeps set c one limits.penalty k1 in
      let k3 = stage_keeps set c (suc c) (issue_row set c base two.rows) two.rows two.next_fetch (omega arith) (changed_issue set c base two.rows) k2 in
      let k4 = stage_keeps set c (suc c) (dispatch_row set c) three.rows three.next_fetch (omega arith) (changed_dispatch set c) k3 in
      let t1 : Each (Times (suc c)) one.rows = (sweep_keeps (Times (suc c)) (Changed c) (commit_row set c) (changed_commit set c) (times_commit c) t.rows (times_later c t.rows times)).1 in
      let t2 : Each (Times (suc c)) two.rows = times_squash c one.rows k1.0 t1 in
      let t3 : Each (Times (suc c)) three.rows = (sweep_keeps (Times (suc c)) (Changed c) (issue_row set c base two.rows) (changed_issue set c base two.rows) (times_issue c base (rises_stores set c two.rows two.references rise) two.rows) two.rows t2).1 in
      let t4 : Each (Times (suc c)) (dispatch set c three).rows = (sweep_keeps (Times (suc c)) (Changed c) (dispatch_row set c) (changed_dispatch set c) (times_dispatch c) three.rows t3).1 in
      times_fetches set.config.decode c (dispatch set c three) rise k4.0 k4.1 t4

  pub times_table : (c : ℕ) → Each (Times c) (table set c).rows
  times_table zero = tt
  times_table (suc c) = times_cycle c (table set c) (rises_table set limits.start c) (route_table set c limits.penalty) (times_table c)
