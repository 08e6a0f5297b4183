-- Wrong rows go on from the rows before them, and act on a copy of the state that the path has left.
use Rattle.std.proofs.Common.{◌≡◌, ℕ, zero, suc, Bool, true, false, cond, List, [], ◌∷◌, Option, Some, None, refl, sym, ap, ◌∙◌, subst, arith, inl, inr}
use Rattle.std.specs.Prelude.{◌&&◌, ◌||◌, ◌==◌, not, is_none, is_some, ◌⊎◌, find, nat_le, length}
use Rattle.std.specs.List.{list_any, list_all}
use Rattle.std.proofs.lemmas.Bool.{cond_both, cond-true, cond-false, and_parts, and_left, not-true}
use Rattle.mem_hier.specs.Replay.{Reference}
use Rattle.bpred_unit.specs.declared.predictor.Look.{Look}
use Rattle.ooo_table.specs.Row.{Row, Fetched, sweep}
use Rattle.ooo_table.specs.Execution.{wrong_execution}
use Rattle.ooo_table.specs.Table.{Setting, Table, NextFetch}
use Rattle.ooo_table.specs.Path.{execution, execution_of, mispredicted, redirected}
use Rattle.ooo_table.specs.Done.{waiting}
use Rattle.ooo_table.specs.Commit.{commit, commit_row, commits}
use Rattle.ooo_table.specs.Recovery.{recover, squash_row, recovers}
use Rattle.ooo_table.specs.References.{store_references, predictor_events_of}
use Rattle.ooo_table.specs.Issue.{issue, issue_row, issues, accesses, access_of}
use Rattle.ooo_table.specs.Dispatch.{dispatch, dispatch_row, dispatches}
use Rattle.ooo_table.specs.Fetch.{fetch_up_to, fetch_one, may_fetch, fetched_row}
use Rattle.ooo_table.specs.Cycle.{table}
use Rattle.ooo_table.specs.Ends.{Extent, Whole, AtCommit, AtStop, rows_at, commit_up_to}
use Rattle.ooo_table.specs.Later.{Each}
use Rattle.ooo_table.specs.PathLaws.{Continues, GoesOn, copied_state, ActsOnCopy}
use Rattle.ooo_table.proofs.Counts.{both'}

module _ (set : Setting) where
  -- what a wrong row keeps of the row before it: that is squashed and dispatched with it
  pub record Attached (p r : Row) : Type 0 where
    pub continues : Continues set p r.fetched
    pub squashed : p.fetched.right ≡ false → p.squashed ≡ r.squashed
    pub dispatched : p.fetched.right ≡ false → is_some r.dispatched ≡ true → is_some p.dispatched ≡ true

  abbrev pub Held : List Row → Row → Type 0
  Held [] r = r.fetched.right ≡ true
  Held (p ∷ older) r = r.fetched.right ≡ false → Attached p r

  -- and so the next fetch, of the newest row
  abbrev pub HeldNext : List Row → NextFetch → Type 0
  HeldNext [] n = n.right ≡ true
  HeldNext (p ∷ older) n =
      n.right ≡ false → (n.pc ≡ p.fetched.predicted) × (n.state ≡ (execution set p).after)
      × ((p.fetched.right && not (execution set p).stops && (p.fetched.predicted == (execution set p).next)) ≡ false)
      × (p.fetched.right ≡ false → p.squashed ≡ None)

  -- a turn that squashes nothing, and dispatches only behind rows that don't wait
  pub record Mild (f : List Row → Row → Row) : Type 0 where
    pub fetched : (older : List Row) (r : Row) → (f older r).fetched ≡ r.fetched
    pub squashed : (older : List Row) (r : Row) → (f older r).squashed ≡ r.squashed
    pub kept : (older : List Row) (r : Row) → is_some r.dispatched ≡ true → is_some (f older r).dispatched ≡ true
    pub new : (older : List Row) (r : Row) → is_some (f older r).dispatched ≡ true
        → (is_some r.dispatched ≡ true) ⊎ ((waiting r ≡ true) × (list_all (λ o. not (waiting o)) older ≡ true))

  continues_same : (p q : Row) (f g : Fetched) → q.fetched ≡ p.fetched → g ≡ f → Continues set p f → Continues set q g
  continues_same p q f g e d h =
      record {
        pc = ap (λ w. w.pc) d ∙ (h.pc ∙ ap (λ w. w.predicted) (sym e));
        state = ap (λ w. w.state) d ∙ (h.state ∙ ap (λ w. (execution_of set w).after) (sym e));
        left = ap (λ w. w.right && not (execution_of set w).stops && (w.predicted == (execution_of set w).next)) e ∙ h.left;
      }

  came_too : (d : Option ℕ) (x : Option ℕ) → x ≡ None → not (is_none d && is_none x) ≡ true → is_some d ≡ true
  came_too None x e h = absurd (both' (ap is_none e) (not-true (is_none x) h))
  came_too (Some y) x e h = refl

  unset : (x : Option ℕ) → is_none x ≡ true → x ≡ None
  unset None h = refl
  unset (Some y) h = absurd cc

  mild_keeps : (f : List Row → Row → Row) → Mild f → (rows : List Row) → Each Held rows → Each Held (sweep f rows)
  mild_keeps f mild [] h = tt
  mild_keeps f mild (r ∷ older) h = (turn older h.0, mild_keeps f mild older h.1)
    where
      turn : (older : List Row) → Held older r → Held (sweep f older) (f (sweep f older) r)
      turn [] k = ap (λ w. w.right) (mild.fetched [] r) ∙ k
      turn (p ∷ rest) k = λ w. one (k (ap (λ w. w.right) (sym (mild.fetched (sweep f (p ∷ rest)) r)) ∙ w))
        where
          q : Row
          q = f (sweep f rest) p

          s : Row
          s = f (q ∷ sweep f rest) r

          one : Attached p r → Attached q s
          one b =
              record {
                continues = continues_same p q r.fetched s.fetched (mild.fetched (sweep f rest) p) (mild.fetched (q ∷ sweep f rest) r) b.continues;
                squashed = λ v. same (v' v);
                dispatched = λ v d. by_new (v' v) (mild.new (q ∷ sweep f rest) r d);
              }
            where
              v' : q.fetched.right ≡ false → p.fetched.right ≡ false
              v' v = ap (λ w. w.right) (sym (mild.fetched (sweep f rest) p)) ∙ v

              same : p.fetched.right ≡ false → q.squashed ≡ s.squashed
              same v = mild.squashed (sweep f rest) p ∙ (b.squashed v ∙ sym (mild.squashed (q ∷ sweep f rest) r))

              by_new : p.fetched.right ≡ false → (is_some r.dispatched ≡ true) ⊎ ((waiting r ≡ true) × (list_all (λ o. not (waiting o)) (q ∷ sweep f rest) ≡ true)) → is_some q.dispatched ≡ true
              by_new v (inl d) = mild.kept (sweep f rest) p (b.dispatched v d)
              by_new v (inr (w, all)) =
                  let x : r.squashed ≡ None = unset r.squashed (and_parts (is_none r.dispatched) (is_none r.squashed) w).1 in
                  came_too q.dispatched q.squashed (mild.squashed (sweep f rest) p ∙ (b.squashed v ∙ x)) (and_parts (not (waiting q)) (list_all (λ o. not (waiting o)) (sweep f rest)) all).0

  mild_next : (f : List Row → Row → Row) → Mild f → (rows : List Row) (n : NextFetch) → HeldNext rows n → HeldNext (sweep f rows) n
  mild_next f mild [] n h = h
  mild_next f mild (p ∷ rest) n h = λ w.
      let k : (n.pc ≡ p.fetched.predicted) × (n.state ≡ (execution set p).after)
      × ((p.fetched.right && not (execution set p).stops && (p.fetched.predicted == (execution set p).next)) ≡ false)
      × (p.fetched.right ≡ false → p.squashed ≡ None) = h w in
      let e : (f (sweep f rest) p).fetched ≡ p.fetched = mild.fetched (sweep f rest) p in (
        k.0 ∙ ap (λ w. w.predicted) (sym e),
        k.1 ∙ ap (λ w. (execution_of set w).after) (sym e),
        ap (λ w. w.right && not (execution_of set w).stops && (w.predicted == (execution_of set w).next)) e ∙ k.2,
        λ v. mild.squashed (sweep f rest) p ∙ k.3 (ap (λ w. w.right) (sym e) ∙ v),
      )

  -- the stages but recovery
  mild_commit : (c : ℕ) → Mild (commit_row set c)
  mild_commit c =
      record {
        fetched = λ older r. cond_both (commits set c older r) (record r { committed = Some c }) r (λ s. s.fetched ≡ r.fetched) (λ _. refl) (λ _. refl);
        squashed = λ older r. cond_both (commits set c older r) (record r { committed = Some c }) r (λ s. s.squashed ≡ r.squashed) (λ _. refl) (λ _. refl);
        kept = λ older r d. cond_both (commits set c older r) (record r { committed = Some c }) r (λ s. is_some s.dispatched ≡ true) (λ _. d) (λ _. d);
        new = λ older r. cond_both (commits set c older r) (record r { committed = Some c }) r
            (λ s. is_some s.dispatched ≡ true → (is_some r.dispatched ≡ true) ⊎ ((waiting r ≡ true) × (list_all (λ o. not (waiting o)) older ≡ true))) (λ _ d. inl d) (λ _ d. inl d);
      }

  mild_part : (row c : ℕ) → Mild (commit_up_to set row c)
  mild_part row c =
      record {
        fetched = λ older r. cond_both (nat_le (length older) row) (commit_row set c older r) r (λ s. s.fetched ≡ r.fetched) (λ _. (mild_commit c).fetched older r) (λ _. refl);
        squashed = λ older r. cond_both (nat_le (length older) row) (commit_row set c older r) r (λ s. s.squashed ≡ r.squashed) (λ _. (mild_commit c).squashed older r) (λ _. refl);
        kept = λ older r d. cond_both (nat_le (length older) row) (commit_row set c older r) r (λ s. is_some s.dispatched ≡ true) (λ _. (mild_commit c).kept older r d) (λ _. d);
        new = λ older r. cond_both (nat_le (length older) row) (commit_row set c older r) r
            (λ s. is_some s.dispatched ≡ true → (is_some r.dispatched ≡ true) ⊎ ((waiting r ≡ true) × (list_all (λ o. not (waiting o)) older ≡ true))) (λ _ d. (mild_commit c).new older r d) (λ _ d. inl d);
      }

  mild_issue : (c : ℕ) (base : List Reference) (start : List Row) → Mild (issue_row set c base start)
  mild_issue c base start =
      record {
        fetched = λ older r. cases (λ s. s.fetched ≡ r.fetched) older r refl refl refl;
        squashed = λ older r. cases (λ s. s.squashed ≡ r.squashed) older r refl refl refl;
        kept = λ older r d. cases (λ s. is_some s.dispatched ≡ true) older r d d d;
        new = λ older r. cases (λ s. is_some s.dispatched ≡ true → (is_some r.dispatched ≡ true) ⊎ ((waiting r ≡ true) × (list_all (λ o. not (waiting o)) older ≡ true))) older r (λ d. inl d) (λ d. inl d) (λ d. inl d);
      }
    where
      cases : (P : Row → Type 0) (older : List Row) (r : Row) → P (record r { issued = Some c }) → P (record r { access = Some (access_of set c base older r) }) → P r → P (issue_row set c base start older r)
      cases P older r a b d =
          cond_both (issues set c start older r) (record r { issued = Some c }) _ P (λ _. a)
          (λ _. cond_both (accesses set c start older r) (record r { access = Some (access_of set c base older r) }) r P (λ _. b) (λ _. d))

  mild_dispatch : (c : ℕ) → Mild (dispatch_row set c)
  mild_dispatch c =
      record {
        fetched = λ older r. cond_both (dispatches set c older r) (record r { dispatched = Some c }) r (λ s. s.fetched ≡ r.fetched) (λ _. refl) (λ _. refl);
        squashed = λ older r. cond_both (dispatches set c older r) (record r { dispatched = Some c }) r (λ s. s.squashed ≡ r.squashed) (λ _. refl) (λ _. refl);
        kept = λ older r d. cond_both (dispatches set c older r) (record r { dispatched = Some c }) r (λ s. is_some s.dispatched ≡ true) (λ _. refl) (λ _. d);
        new = λ older r. cond_both (dispatches set c older r) (record r { dispatched = Some c }) r
            (λ s. is_some s.dispatched ≡ true → (is_some r.dispatched ≡ true) ⊎ ((waiting r ≡ true) × (list_all (λ o. not (waiting o)) older ≡ true)))
            (λ e d. inr (waits older r e, passed older r e)) (λ _ d. inl d);
      }
    where
      waits : (older : List Row) (r : Row) → dispatches set c older r ≡ true → waiting r ≡ true
      waits older r e = grind (arith, and_parts)

      passed : (older : List Row) (r : Row) → dispatches set c older r ≡ true → list_all (λ o. not (waiting o)) older ≡ true
      passed older r e = grind (arith, and_parts)

  -- a recovery squashes a wrong row and the wrong one before it together
  squash_keeps : (c : ℕ) (rows : List Row) → Each Held rows → Each Held (sweep (squash_row set c) rows)
  squash_keeps c [] h = tt
  squash_keeps c (r ∷ older) h = (turn older h.0, squash_keeps c older h.1)
    where
      same : (before : List Row) (r : Row) → (squash_row set c before r).fetched ≡ r.fetched
      same before r = cond_both (list_any (recovers set c) before && is_none r.squashed) (record r { squashed = Some c }) r (λ s. s.fetched ≡ r.fetched) (λ _. refl) (λ _. refl)

      came : (before : List Row) (r : Row) → (squash_row set c before r).dispatched ≡ r.dispatched
      came before r = cond_both (list_any (recovers set c) before && is_none r.squashed) (record r { squashed = Some c }) r (λ s. s.dispatched ≡ r.dispatched) (λ _. refl) (λ _. refl)

      turn : (older : List Row) → Held older r → Held (sweep (squash_row set c) older) (squash_row set c (sweep (squash_row set c) older) r)
      turn [] k = ap (λ w. w.right) (same [] r) ∙ k
      turn (p ∷ rest) k = λ w. one (k (ap (λ w. w.right) (sym (same (sweep (squash_row set c) (p ∷ rest)) r)) ∙ w))
        where
          before : List Row
          before = sweep (squash_row set c) rest

          q : Row
          q = squash_row set c before p

          s : Row
          s = squash_row set c (q ∷ before) r

          one : Attached p r → Attached q s
          one b =
              record {
                continues = continues_same p q r.fetched s.fetched (same before p) (same (q ∷ before) r) b.continues;
                squashed = λ v. together (right v) (b.squashed (right v));
                dispatched = λ v d. ap is_some (came before p) ∙ b.dispatched (right v) (ap is_some (sym (came (q ∷ before) r)) ∙ d);
              }
            where
              right : q.fetched.right ≡ false → p.fetched.right ≡ false
              right v = ap (λ w. w.right) (sym (same before p)) ∙ v

              no_recovery : p.fetched.right ≡ false → recovers set c q ≡ false
              no_recovery v =
                  and_left (mispredicted set q) _ (and_left (q.fetched.right && not (execution set q).stops) _ (and_left q.fetched.right _ (ap (λ w. w.right) (same before p) ∙ v)))

              by_any : (b : Bool) (m n : Option ℕ) → m ≡ n → (cond (b && is_none m) (Some c) m) ≡ (cond (b && is_none n) (Some c) n)
              by_any b m n e = ap (λ x. cond (b && is_none x) (Some c) x) e

              mark_of : (b : Bool) (x : Row) → (cond b (record x { squashed = Some c }) x).squashed ≡ cond b (Some c) x.squashed
              mark_of true x = refl
              mark_of false x = refl

              together : p.fetched.right ≡ false → p.squashed ≡ r.squashed → q.squashed ≡ s.squashed
              together v e =
                  mark_of (list_any (recovers set c) before && is_none p.squashed) p
                  ∙ (by_any (list_any (recovers set c) before) p.squashed r.squashed e
                  ∙ (ap (λ x. cond ((x || list_any (recovers set c) before) && is_none r.squashed) (Some c) r.squashed) (sym (no_recovery v))
                  ∙ sym (mark_of (list_any (recovers set c) (q ∷ before) && is_none r.squashed) r)))

  recover_next : (c : ℕ) (rows : List Row) (n : NextFetch) → HeldNext rows n → HeldNext (sweep (squash_row set c) rows) (redirected set c (find (recovers set c) rows) n)
  recover_next c rows n h = by_find (find (recovers set c) rows) refl
    where
      by_find : (m : Option Row) → find (recovers set c) rows ≡ m → HeldNext (sweep (squash_row set c) rows) (redirected set c m n)
      by_find None e = subst (λ l. HeldNext l n) (sym (still rows e)) h
        where
          still : (rows : List Row) → find (recovers set c) rows ≡ None → sweep (squash_row set c) rows ≡ rows
          still [] e = refl
          still (r ∷ rows) e =
              ap (λ l. squash_row set c l r ∷ l) (still rows (rest (recovers set c r) e))
              ∙ ap (λ x. x ∷ rows) (cond-false (list_any (recovers set c) rows && is_none r.squashed) (record r { squashed = Some c }) r (and_left (list_any (recovers set c) rows) (is_none r.squashed) (nothing rows (rest (recovers set c r) e))))
            where
              rest : (b : Bool) → cond b (Some r) (find (recovers set c) rows) ≡ None → find (recovers set c) rows ≡ None
              rest true e = absurd cc
              rest false e = e

              nothing : (rows : List Row) → find (recovers set c) rows ≡ None → list_any (recovers set c) rows ≡ false
              nothing [] e = refl
              nothing (x ∷ rows) e = by_self (recovers set c x) e (nothing rows)
                where
                  by_self : (b : Bool) → cond b (Some x) (find (recovers set c) rows) ≡ None → (find (recovers set c) rows ≡ None → list_any (recovers set c) rows ≡ false) → (b || list_any (recovers set c) rows) ≡ false
                  by_self true e ih = absurd cc
                  by_self false e ih = ih e
      by_find (Some m) e = right (sweep (squash_row set c) rows)
        where
          right : (rows : List Row) → HeldNext rows (redirected set c (Some m) n)
          right [] = refl
          right (p ∷ rest) = λ w. absurd cc

  fetch_keeps : (n c : ℕ) (t : Table) → Each Held t.rows × HeldNext t.rows t.next_fetch → Each Held (fetch_up_to set n c t).rows × HeldNext (fetch_up_to set n c t).rows (fetch_up_to set n c t).next_fetch
  fetch_keeps zero c t h = h
  fetch_keeps (suc n) c t h =
      cond_both (may_fetch set c t) (fetch_up_to set n c (fetch_one set c t)) t (λ u. Each Held u.rows × HeldNext u.rows u.next_fetch)
      (λ _. fetch_keeps n c (fetch_one set c t) ((entered t.rows t.next_fetch (set.look t.next_fetch.pc (predictor_events_of set c t.rows t.predictor_events)) _ h.1, h.0), λ w. (refl, refl, w, λ v. refl))) (λ _. h)
    where
      entered : (rows : List Row) (n : NextFetch) (look : Look) (queued : ℕ) → HeldNext rows n → Held rows (fetched_row set c n look queued)
      entered [] n look queued k = k
      entered (p ∷ rest) n look queued k = λ w.
          let f : (n.pc ≡ p.fetched.predicted) × (n.state ≡ (execution set p).after)
          × ((p.fetched.right && not (execution set p).stops && (p.fetched.predicted == (execution set p).next)) ≡ false)
          × (p.fetched.right ≡ false → p.squashed ≡ None) = k w in
          record { continues = record { pc = f.0; state = f.1; left = f.2 }; squashed = f.3; dispatched = λ v d. absurd cc }

  held_marks : (c : ℕ) (t : Table) → Each Held t.rows × HeldNext t.rows t.next_fetch
      → Each Held (dispatch set c (issue set c (recover set c (commit set c t)))).rows × HeldNext (dispatch set c (issue set c (recover set c (commit set c t)))).rows (recover set c (commit set c t)).next_fetch
  held_marks c t h =
      let one = commit set c t in
      let two = recover set c one in
      let three = issue set c two in
      let base = store_references set c two.rows two.references in
      let h1 : Each Held one.rows = mild_keeps (commit_row set c) (mild_commit c) t.rows h.0 in
      let n1 : HeldNext one.rows t.next_fetch = mild_next (commit_row set c) (mild_commit c) t.rows t.next_fetch h.1 in
      let h2 : Each Held two.rows = squash_keeps c one.rows h1 in
      let n2 : HeldNext two.rows two.next_fetch = recover_next c one.rows t.next_fetch n1 in
      let h3 : Each Held three.rows = mild_keeps (issue_row set c base two.rows) (mild_issue c base two.rows) two.rows h2 in
      let n3 : HeldNext three.rows two.next_fetch = mild_next (issue_row set c base two.rows) (mild_issue c base two.rows) two.rows two.next_fetch n2 in
      (mild_keeps (dispatch_row set c) (mild_dispatch c) three.rows h3, mild_next (dispatch_row set c) (mild_dispatch c) three.rows two.next_fetch n3)

  held_table : (c : ℕ) → Each Held (table set c).rows × HeldNext (table set c).rows (table set c).next_fetch
  held_table zero = (tt, refl)
  held_table (suc c) = fetch_keeps set.config.decode c (dispatch set c (issue set c (recover set c (commit set c (table set c))))) (held_marks c (table set c) (held_table c))

  held_at : (e : Extent) (c : ℕ) → Each Held (rows_at set e c)
  held_at Whole c = (held_table c).0
  held_at (AtCommit row) c = mild_keeps (commit_up_to set row c) (mild_part row c) (table set c).rows (held_table c).0
  held_at AtStop c = (held_marks c (table set c) (held_table c)).0

  -- ---- what follows

  goes_on : (rows : List Row) → Each Held rows → Each (GoesOn set) rows
  goes_on [] h = tt
  goes_on (r ∷ older) h = (one older h.0, goes_on older h.1)
    where
      one : (older : List Row) → Held older r → GoesOn set older r
      one [] k = k
      one (p ∷ rest) k = λ w. (k w).continues

  pub goes_on_at : (e : Extent) (c : ℕ) → Each (GoesOn set) (rows_at set e c)
  goes_on_at e c = goes_on (rows_at set e c) (held_at e c)

  copies : (rows : List Row) → Each Held rows → Each (ActsOnCopy set) rows
  unfolding execution_of
  copies [] h = tt
  copies (r ∷ older) h = (one older h.0 (copies older h.1), copies older h.1)
    where
      one : (older : List Row) → Held older r → Each (ActsOnCopy set) older → ActsOnCopy set older r
      one [] k ih = λ w d. absurd (both' k w)
      one (p ∷ rest) k ih = λ w d. by_right p.fetched.right refl w d
        where
          by_right : (b : Bool) → p.fetched.right ≡ b → r.fetched.right ≡ false → is_some r.dispatched ≡ true
              → r.fetched.state ≡ cond b (execution set p).after (cond (is_some p.dispatched) (wrong_execution (copied_state set rest) (set.execute (copied_state set rest) p.fetched.pc)).after (copied_state set rest))
          by_right true e w d = (k w).continues.state
          by_right false e w d =
              let came : is_some p.dispatched ≡ true = (k w).dispatched e d in
              let on : p.fetched.state ≡ copied_state set rest = ih.0 e came in
              (k w).continues.state
              ∙ (ap (λ x. x.after) (cond-false p.fetched.right (set.execute p.fetched.state p.fetched.pc) (wrong_execution p.fetched.state (set.execute p.fetched.state p.fetched.pc)) e)
              ∙ (ap (λ s. (wrong_execution s (set.execute s p.fetched.pc)).after) on
              ∙ sym (cond-true (is_some p.dispatched) (wrong_execution (copied_state set rest) (set.execute (copied_state set rest) p.fetched.pc)).after (copied_state set rest) came)))

  pub copies_at : (e : Extent) (c : ℕ) → Each (ActsOnCopy set) (rows_at set e c)
  copies_at e c = copies (rows_at set e c) (held_at e c)
