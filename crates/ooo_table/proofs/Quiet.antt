-- A squashed row gets no more marks, and no row waits for a squashed one.
use Rattle.std.proofs.Common.{◌≡◌, ℕ, zero, suc, ◌+◌, ◌-◌, ◌<◌, ◌≤◌, Bool, true, false, cond, List, [], ◌∷◌, Option, Some, None, refl, sym, ap, ◌∙◌, subst, arith, inl, inr}
use Rattle.std.specs.Prelude.{◌&&◌, not, nat_lt, nat_le, is_none, is_some, ◌⊎◌, length}
use Rattle.std.specs.List.{AllZip, list_any}
use Rattle.std.proofs.lemmas.Bool.{cond_both, and_parts, ltb-true, lt-ltb, not-true, or_parts}
use Rattle.mem_hier.specs.Replay.{Reference, Fetch}
use Rattle.bpred_unit.specs.declared.predictor.Look.{Look}
use Rattle.ooo_table.specs.Row.{Row, is_before, sweep, MemoryAccess}
use Rattle.ooo_table.specs.Table.{Setting, Table, NextFetch}
use Rattle.ooo_table.specs.Done.{unsquashed_before, waiting}
use Rattle.ooo_table.specs.Commit.{commit, commit_row, commits}
use Rattle.ooo_table.specs.Recovery.{recover, squash_row, recovers}
use Rattle.ooo_table.specs.References.{predictor_events_of, references_of, store_references}
use Rattle.ooo_table.specs.Issue.{issue, issue_row, issues, accesses, access_of}
use Rattle.ooo_table.specs.Dispatch.{dispatch, dispatch_row, dispatches}
use Rattle.ooo_table.specs.Fetch.{fetch_up_to, fetch_one, may_fetch, fetched_row, queue_cycle}
use Rattle.ooo_table.specs.Cycle.{table}
use Rattle.ooo_table.specs.Ends.{Extent, Whole, AtCommit, AtStop, rows_at, commit_up_to}
use Rattle.ooo_table.specs.Later.{Each, Where, By}
use Rattle.ooo_table.specs.Legal.{Before, Quiet}
use Rattle.ooo_table.specs.CycleLaws.{SquashSpreads}
use Rattle.ooo_table.proofs.Order.{Changed, Now}
use Rattle.ooo_table.proofs.RowFacts.{sweep_keeps, changed_squash}
use Rattle.ooo_table.proofs.Route.{any_same, zip_of}

none_of : {A : Type 0} (m : Option A) → is_none m ≡ true → m ≡ None
none_of None h = refl
none_of (Some x) h = absurd cc

both' : {b : Bool} → b ≡ true → b ≡ false → ⊥
both' e f = cc

pub each_turn : (P Q : Row → Type 0) (f : List Row → Row → Row) → ((before : List Row) (r : Row) → P r → Q (f before r)) → (rows : List Row) → Each (λ _. P) rows → Each (λ _. Q) (sweep f rows)
each_turn P Q f turn [] h = tt
each_turn P Q f turn (r ∷ rows) h = (turn (sweep f rows) r h.0, each_turn P Q f turn rows h.1)

-- its marks are before n, and before its squash
pub record Own (n : ℕ) (r : Row) : Type 0 where
  pub queue : r.fetched.at ≤ r.fetched.queued
  pub at : r.fetched.at < n
  pub dispatched : Where r.dispatched (λ d. (d < n) × (r.fetched.at < d))
  pub issued : Where r.issued (λ i. i < n)
  pub access : Where r.access (λ a. a.at < n)
  pub squashed : Where r.squashed (λ x. (x < n) × Before x r)

own_more : (n : ℕ) (r : Row) → Own n r → Own (suc n) r
own_more n r t =
    let lt : r.fetched.at < n = t.at in
    record { queue = t.queue; at = omega arith; dispatched = d r.dispatched t.dispatched; issued = i r.issued t.issued; access = a r.access t.access; squashed = x r.squashed t.squashed }
  where
    d : (m : Option ℕ) → Where m (λ d. (d < n) × (r.fetched.at < d)) → Where m (λ d. (d < suc n) × (r.fetched.at < d))
    d None w = tt
    d (Some y) w = let k : y < n = w.0 in (omega arith, w.1)

    i : (m : Option ℕ) → Where m (λ i. i < n) → Where m (λ i. i < suc n)
    i None w = tt
    i (Some y) w = omega arith

    a : (m : Option MemoryAccess) → Where m (λ a. a.at < n) → Where m (λ a. a.at < suc n)
    a None w = tt
    a (Some y) w = omega arith

    x : (m : Option ℕ) → Where m (λ x. (x < n) × Before x r) → Where m (λ x. (x < suc n) × Before x r)
    x None w = tt
    x (Some y) w = let k : y < n = w.0 in (omega arith, w.1)

own_before : (n : ℕ) (r : Row) → Own n r → Before n r
own_before n r t = record { dispatched = d r.dispatched t.dispatched; issued = t.issued; access = t.access }
  where
    d : (m : Option ℕ) → Where m (λ d. (d < n) × (r.fetched.at < d)) → Where m (λ d. d < n)
    d None w = tt
    d (Some y) w = w.0

-- what was fetched and its squash are unchanged
abbrev pub Same : Row → Row → Type 0
Same r s = (s.fetched ≡ r.fetched) × (s.squashed ≡ r.squashed)

follows_stay : (older before : List Row) (r s : Row) → AllZip Same older before → Same r s → SquashSpreads older r → SquashSpreads before s
follows_stay [] [] r s zip e h = tt
follows_stay (o ∷ older) (o' ∷ before) r s zip e h =
    let k : Where o.squashed (λ x. (x ≤ s.fetched.at) ⊎ By x r.squashed) = subst (λ w. Where o.squashed (λ x. (x ≤ w.at) ⊎ By x r.squashed)) (sym e.0) h.0 in
    let m : Where o.squashed (λ x. (x ≤ s.fetched.at) ⊎ By x s.squashed) = subst (λ q. Where o.squashed (λ x. (x ≤ s.fetched.at) ⊎ By x q)) (sym e.1) k in
    (subst (λ q. Where q (λ x. (x ≤ s.fetched.at) ⊎ By x s.squashed)) (sym zip.0.1) m, follows_stay older before r s zip.1 e h.1)
follows_stay [] (o' ∷ before) r s zip e h = absurd zip
follows_stay (o ∷ older) [] r s zip e h = absurd zip

pub follows_sweep : (f : List Row → Row → Row) → ((before : List Row) (r : Row) → Same r (f before r)) → (rows : List Row) → Each SquashSpreads rows → Each SquashSpreads (sweep f rows)
follows_sweep f same rows h = (sweep_keeps SquashSpreads Same f same (λ older before r zip below k. follows_stay older before r (f before r) zip (same before r) k) rows h).1

module _ (set : Setting) where
  pub own_commit : (n c : ℕ) (before : List Row) (r : Row) → Own n r → Own n (commit_row set c before r)
  own_commit n c before r t =
      cond_both (commits set c before r) (record r { committed = Some c }) r (Own n)
      (λ _. record { queue = t.queue; at = t.at; dispatched = t.dispatched; issued = t.issued; access = t.access; squashed = moved r.squashed t.squashed }) (λ _. t)
    where
      moved : (m : Option ℕ) → Where m (λ x. (x < n) × Before x r) → Where m (λ x. (x < n) × Before x (record r { committed = Some c }))
      moved None w = tt
      moved (Some x) w = (w.0, record { dispatched = w.1.dispatched; issued = w.1.issued; access = w.1.access })

  own_up_to : (row n c : ℕ) (before : List Row) (r : Row) → Own n r → Own n (commit_up_to set row c before r)
  own_up_to row n c before r t = cond_both (nat_le (length before) row) (commit_row set c before r) r (Own n) (λ _. own_commit n c before r t) (λ _. t)

  pub own_squash : (c : ℕ) (before : List Row) (r : Row) → Own c r → Own (suc c) (squash_row set c before r)
  own_squash c before r t =
      cond_both (list_any (recovers set c) before && is_none r.squashed) (record r { squashed = Some c }) r (Own (suc c))
      (λ _. let k : Own (suc c) r = own_more c r t in
      let b : Before c r = own_before c r t in
      record { queue = t.queue; at = k.at; dispatched = k.dispatched; issued = k.issued; access = k.access; squashed = (omega arith, record { dispatched = b.dispatched; issued = b.issued; access = b.access }) })
      (λ _. own_more c r t)

  pub own_issue : (c : ℕ) (base : List Reference) (start before : List Row) (r : Row) → Own (suc c) r → Own (suc c) (issue_row set c base start before r)
  own_issue c base start before r t =
      cond_both (issues set c start before r) (record r { issued = Some c }) _ (Own (suc c))
      (λ e. record { queue = t.queue; at = t.at; dispatched = t.dispatched; issued = omega arith; access = t.access; squashed = no_squash _ (none_of r.squashed (stands e)) })
      (λ _. cond_both (accesses set c start before r) (record r { access = Some (access_of set c base before r) }) r (Own (suc c))
      (λ e. record { queue = t.queue; at = t.at; dispatched = t.dispatched; issued = t.issued; access = omega arith; squashed = no_squash _ (none_of r.squashed (stands' e)) })
      (λ _. t))
    where
      no_squash : (P : ℕ → Type 0) → r.squashed ≡ None → Where r.squashed P
      no_squash P f = rw f tt

      stands : issues set c start before r ≡ true → is_none r.squashed ≡ true
      stands e = grind (arith, and_parts)

      stands' : accesses set c start before r ≡ true → is_none r.squashed ≡ true
      stands' e = grind (arith, and_parts)

  pub own_dispatch : (c : ℕ) (before : List Row) (r : Row) → Own (suc c) r → Own (suc c) (dispatch_row set c before r)
  own_dispatch c before r t =
      cond_both (dispatches set c before r) (record r { dispatched = Some c }) r (Own (suc c))
      (λ e. record { queue = t.queue; at = t.at; dispatched = (omega arith, omega (arith, t.queue, ltb-true r.fetched.queued c (queued e))); issued = t.issued; access = t.access; squashed = no_squash _ (none_of r.squashed (and_parts (is_none r.dispatched) (is_none r.squashed) (waits e)).1) })
      (λ _. t)
    where
      no_squash : (P : ℕ → Type 0) → r.squashed ≡ None → Where r.squashed P
      no_squash P f = rw f tt

      queued : dispatches set c before r ≡ true → nat_lt r.fetched.queued c ≡ true
      queued e = grind (arith, and_parts)

      waits : dispatches set c before r ≡ true → waiting r ≡ true
      waits e = grind (arith, and_parts)

  own_fresh : (c : ℕ) (u : NextFetch) (look : Look) (before : List Reference) → Own (suc c) (fetched_row set c u look (queue_cycle set c u.pc before))
  own_fresh c u look before = record { queue = least; at = omega arith; dispatched = tt; issued = tt; access = tt; squashed = tt }
    where
      least : c ≤ queue_cycle set c u.pc before
      least = cond_both (set.is_text u.pc) (c + (set.latency (Fetch u.pc c) before - set.fetch_hit)) c (λ q. c ≤ q) (λ e. omega arith) (λ e. omega arith)

  -- a squash of the rows behind a squashed one
  pub same_commit : (c : ℕ) (before : List Row) (r : Row) → Same r (commit_row set c before r)
  same_commit c before r = cond_both (commits set c before r) (record r { committed = Some c }) r (Same r) (λ _. (refl, refl)) (λ _. (refl, refl))

  same_up_to : (row c : ℕ) (before : List Row) (r : Row) → Same r (commit_up_to set row c before r)
  same_up_to row c before r = cond_both (nat_le (length before) row) (commit_row set c before r) r (Same r) (λ _. same_commit c before r) (λ _. (refl, refl))

  pub same_issue : (c : ℕ) (base : List Reference) (start before : List Row) (r : Row) → Same r (issue_row set c base start before r)
  same_issue c base start before r =
      cond_both (issues set c start before r) (record r { issued = Some c }) _ (Same r) (λ _. (refl, refl))
      (λ _. cond_both (accesses set c start before r) (record r { access = Some (access_of set c base before r) }) r (Same r) (λ _. (refl, refl)) (λ _. (refl, refl)))

  pub same_dispatch : (c : ℕ) (before : List Row) (r : Row) → Same r (dispatch_row set c before r)
  same_dispatch c before r = cond_both (dispatches set c before r) (record r { dispatched = Some c }) r (Same r) (λ _. (refl, refl)) (λ _. (refl, refl))

  by_more : (x : ℕ) (m n : Option ℕ) (c : ℕ) → Now (λ d. d ≡ c) m n → By x m → By x n
  by_more x m n c (inl e) h = rw e h
  by_more x None n c (inr e) h = absurd h
  by_more x (Some y) n c (inr (e, i, at)) h = absurd cc

  -- behind a row that recovers everything is squashed
  all_taken : (c : ℕ) (r s : Row) → Changed c r s → By c s.squashed → (older before : List Row) → AllZip (Changed c) older before → SquashSpreads older r → SquashSpreads before s
  all_taken c r s ch by [] [] zip h = tt
  all_taken c r s ch by (o ∷ older) (o' ∷ before) zip h = (now o.squashed o'.squashed zip.0.squashed h.0, all_taken c r s ch by older before zip.1 h.1)
    where
      kept : (m : Option ℕ) → Where m (λ x. (x ≤ r.fetched.at) ⊎ By x r.squashed) → Where m (λ x. (x ≤ s.fetched.at) ⊎ By x s.squashed)
      kept None w = tt
      kept (Some x) (inl w) = inl (subst (λ w. x ≤ w.at) (sym ch.fetched) w)
      kept (Some x) (inr w) = inr (by_more x r.squashed s.squashed c ch.squashed w)

      now : (m n : Option ℕ) → Now (λ d. d ≡ c) m n → Where m (λ x. (x ≤ r.fetched.at) ⊎ By x r.squashed) → Where n (λ x. (x ≤ s.fetched.at) ⊎ By x s.squashed)
      now m n (inl e) w = let k : Where m (λ x. (x ≤ s.fetched.at) ⊎ By x s.squashed) = kept m w in rw e k
      now m None (inr (e, i, at)) w = absurd cc
      now m (Some x) (inr (e, i, at)) w = inr (subst (λ y. By y s.squashed) (sym at) by)
  all_taken c r s ch by [] (o' ∷ before) zip h = absurd zip
  all_taken c r s ch by (o ∷ older) [] zip h = absurd zip

  -- without a recovery nothing is squashed
  pub squash_still : (c : ℕ) (rows : List Row) → list_any (recovers set c) rows ≡ false → sweep (squash_row set c) rows ≡ rows
  squash_still c [] e = refl
  squash_still c (r ∷ rows) e =
      let k : (recovers set c r ≡ false) × (list_any (recovers set c) rows ≡ false) = or_parts (recovers set c r) (list_any (recovers set c) rows) e in
      ap (λ l. squash_row set c l r ∷ l) (squash_still c rows k.1) ∙ ap (λ x. x ∷ rows) (ap (λ b. cond (b && is_none r.squashed) (record r { squashed = Some c }) r) k.1)

  follows_squash : (c : ℕ) (older : List Row) (r : Row) → Own c r → SquashSpreads older r → SquashSpreads (sweep (squash_row set c) older) (squash_row set c (sweep (squash_row set c) older) r)
  follows_squash c older r own h = by_any (list_any (recovers set c) before) refl
    where
      before : List Row
      before = sweep (squash_row set c) older

      zip : AllZip (Changed c) older before
      zip = zip_of set (squash_row set c) (changed_squash set c) older

      taken : (b d : Bool) → b ≡ true → is_none r.squashed ≡ d → By c (cond (b && d) (record r { squashed = Some c }) r).squashed
      taken true true e f = omega arith
      taken true false e f = old r.squashed own.squashed f
        where
          old : (m : Option ℕ) → Where m (λ x. (x < c) × Before x r) → is_none m ≡ false → By c m
          old None w f = absurd cc
          old (Some x) w f = let k : x < c = w.0 in omega arith
      taken false d e f = absurd cc

      still : list_any (recovers set c) before ≡ false → before ≡ older
      still e = squash_still c older (sym (any_same set c older) ∙ e)

      left : list_any (recovers set c) before ≡ false → squash_row set c before r ≡ r
      left e = ap (λ b. cond (b && is_none r.squashed) (record r { squashed = Some c }) r) e

      by_any : (b : Bool) → list_any (recovers set c) before ≡ b → SquashSpreads before (squash_row set c before r)
      by_any true e = all_taken c r (squash_row set c before r) (changed_squash set c before r) (taken (list_any (recovers set c) before) (is_none r.squashed) e refl) older before zip h
      by_any false e = subst (λ s. SquashSpreads before s) (sym (left e)) (subst (λ l. SquashSpreads l r) (sym (still e)) h)

  pub squash_follows : (c : ℕ) (rows : List Row) → Each (λ _. Own c) rows → Each SquashSpreads rows → Each SquashSpreads (sweep (squash_row set c) rows)
  squash_follows c [] own h = tt
  squash_follows c (r ∷ rows) own h = (follows_squash c rows r own.0 h.0, squash_follows c rows own.1 h.1)

  fresh_follows : (c : ℕ) (rows : List Row) (u : NextFetch) (look : Look) (queued : ℕ) → Each (λ _. Own (suc c)) rows → SquashSpreads rows (fetched_row set c u look queued)
  fresh_follows c [] u look queued h = tt
  fresh_follows c (o ∷ rows) u look queued h = (by_squash o.squashed h.0.squashed, fresh_follows c rows u look queued h.1)
    where
      by_squash : (m : Option ℕ) → Where m (λ x. (x < suc c) × Before x o) → Where m (λ x. (x ≤ c) ⊎ By x None)
      by_squash None w = tt
      by_squash (Some x) w = let k : x < suc c = w.0 in inl (omega arith)

  abbrev pub Both : ℕ → List Row → Type 0
  Both n rows = Each (λ _. Own n) rows × Each SquashSpreads rows

  both_fetched : (n c : ℕ) (t : Table) → Both (suc c) t.rows → Both (suc c) (fetch_up_to set n c t).rows
  both_fetched zero c t h = h
  both_fetched (suc n) c t h =
      cond_both (may_fetch set c t) (fetch_up_to set n c (fetch_one set c t)) t (λ u. Both (suc c) u.rows)
      (λ _. both_fetched n c (fetch_one set c t) (
        (own_fresh c t.next_fetch (set.look t.next_fetch.pc (predictor_events_of set c t.rows t.predictor_events)) (references_of set c t.rows t.references), h.0),
        (fresh_follows c t.rows t.next_fetch (set.look t.next_fetch.pc (predictor_events_of set c t.rows t.predictor_events)) (queue_cycle set c t.next_fetch.pc (references_of set c t.rows t.references)) h.0, h.1),
      ))
      (λ _. h)

  both_marks : (c : ℕ) (t : Table) → Both c t.rows → Both (suc c) (dispatch set c (issue set c (recover set c (commit set c t)))).rows
  both_marks c t h =
      let one = commit set c t in
      let two = recover set c one in
      let three = issue set c two in
      let base = store_references set c two.rows two.references in
      let o1 : Each (λ _. Own c) one.rows = each_turn (Own c) (Own c) (commit_row set c) (own_commit c c) t.rows h.0 in
      let f1 : Each SquashSpreads one.rows = follows_sweep (commit_row set c) (same_commit c) t.rows h.1 in
      let o2 : Each (λ _. Own (suc c)) two.rows = each_turn (Own c) (Own (suc c)) (squash_row set c) (own_squash c) one.rows o1 in
      let f2 : Each SquashSpreads two.rows = squash_follows c one.rows o1 f1 in
      let o3 : Each (λ _. Own (suc c)) three.rows = each_turn (Own (suc c)) (Own (suc c)) (issue_row set c base two.rows) (own_issue c base two.rows) two.rows o2 in
      let f3 : Each SquashSpreads three.rows = follows_sweep (issue_row set c base two.rows) (same_issue c base two.rows) two.rows f2 in
      (each_turn (Own (suc c)) (Own (suc c)) (dispatch_row set c) (own_dispatch c) three.rows o3, follows_sweep (dispatch_row set c) (same_dispatch c) three.rows f3)

  pub both_table : (c : ℕ) → Both c (table set c).rows
  both_table zero = (tt, tt)
  both_table (suc c) = both_fetched set.config.decode c (dispatch set c (issue set c (recover set c (commit set c (table set c))))) (both_marks c (table set c) (both_table c))

  abbrev Owns : List Row → Type 0
  Owns rows = (n : ℕ) × Both n rows

  owns_at : (e : Extent) (c : ℕ) → Owns (rows_at set e c)
  owns_at Whole c = (c, both_table c)
  owns_at (AtCommit row) c =
      let h : Both c (table set c).rows = both_table c in
      (c, (each_turn (Own c) (Own c) (commit_up_to set row c) (own_up_to row c c) (table set c).rows h.0, follows_sweep (commit_up_to set row c) (same_up_to row c) (table set c).rows h.1))
  owns_at AtStop c = (suc c, both_marks c (table set c) (both_table c))

  -- both facts together
  before_more : (x y : ℕ) (r : Row) → x ≤ y → Before x r → Before y r
  before_more x y r le b = record { dispatched = m r.dispatched b.dispatched; issued = m r.issued b.issued; access = a r.access b.access }
    where
      m : (m : Option ℕ) → Where m (λ d. d < x) → Where m (λ d. d < y)
      m None w = tt
      m (Some d) w = omega arith

      a : (m : Option MemoryAccess) → Where m (λ a. a.at < x) → Where m (λ a. a.at < y)
      a None w = tt
      a (Some d) w = omega arith

  own_quiet : (n : ℕ) (r : Row) → Own n r → Where r.squashed (λ x. Before x r)
  own_quiet n r t = it r.squashed t.squashed
    where
      it : (m : Option ℕ) → Where m (λ x. (x < n) × Before x r) → Where m (λ x. Before x r)
      it None w = tt
      it (Some x) w = w.1

  stood_quiet : (n : ℕ) (r : Row) → Own n r → is_some r.dispatched ≡ true → (older : List Row) → SquashSpreads older r → Each (λ _ o. unsquashed_before r.dispatched o ≡ true → Where o.squashed (λ x. Before x r)) older
  stood_quiet n r t came [] h = tt
  stood_quiet n r t came (o ∷ older) h = ((λ s. by_dispatch r.dispatched t.dispatched came s h.0), stood_quiet n r t came older h.1)
    where
      taken : (x : ℕ) (m : Option ℕ) → By x m → Where m (λ x. Before x r) → Before x r
      taken x None b w = absurd b
      taken x (Some y) b w = before_more y x r b w

      by_squash : (d : ℕ) → r.fetched.at < d → (m : Option ℕ) → not (is_before d m) ≡ true → Where m (λ x. (x ≤ r.fetched.at) ⊎ By x r.squashed) → Where m (λ x. Before x r)
      by_squash d late None s w = tt
      by_squash d late (Some x) s (inl le) = absurd (both' (lt-ltb x d (omega arith)) (not-true (nat_lt x d) s))
      by_squash d late (Some x) s (inr b) = taken x r.squashed b (own_quiet n r t)

      by_dispatch : (m : Option ℕ) → Where m (λ d. (d < n) × (r.fetched.at < d)) → is_some m ≡ true → unsquashed_before m o ≡ true → Where o.squashed (λ x. (x ≤ r.fetched.at) ⊎ By x r.squashed) → Where o.squashed (λ x. Before x r)
      by_dispatch None w k s f = absurd cc
      by_dispatch (Some d) w k s f = by_squash d w.1 o.squashed s f

  quiet_rows : (n : ℕ) (rows : List Row) → Both n rows → Each Quiet rows
  quiet_rows n [] h = tt
  quiet_rows n (r ∷ rows) h = (record { itself = own_quiet n r h.0.0; stood = λ came. stood_quiet n r h.0.0 came rows h.1.0 }, quiet_rows n rows (h.0.1, h.1.1))

  pub quiet_at : (e : Extent) (c : ℕ) → Each Quiet (rows_at set e c)
  quiet_at e c = let (n, h) = owns_at e c in quiet_rows n (rows_at set e c) h
