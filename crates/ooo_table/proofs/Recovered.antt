-- A recovery squashes every later row that is there.
use Rattle.std.proofs.Common.{◌≡◌, ℕ, zero, suc, ◌+◌, ◌<◌, ◌≤◌, Bool, true, false, cond, List, [], ◌∷◌, Option, Some, None, refl, sym, ap, ◌∙◌, subst, arith, inl, inr}
use Rattle.std.specs.Prelude.{◌==◌, ◌&&◌, ◌||◌, not, is_none, is_some, ◌⊎◌}
use Rattle.std.specs.List.{AllZip, list_any}
use Rattle.std.proofs.lemmas.Bool.{cond_both, and_parts, and_left, ltb-true, eqb-true, le-ltb, lt-ltb}
use Rattle.std.proofs.lemmas.Bool.Decides.{nat_tests}
use Rattle.mem_hier.specs.Replay.{Reference}
use Rattle.bpred_unit.specs.declared.predictor.Look.{Look}
use Rattle.ooo_table.specs.Row.{Row, is_at, is_before, sweep}
use Rattle.ooo_table.specs.Execution.{unit_latency}
use Rattle.ooo_table.specs.Table.{Setting, Table, NextFetch}
use Rattle.ooo_table.specs.Path.{execution, execution_of, mispredicted}
use Rattle.ooo_table.specs.Done.{written}
use Rattle.ooo_table.specs.Commit.{commit, commit_row, commits}
use Rattle.ooo_table.specs.Recovery.{recover, squash_row, recovers}
use Rattle.ooo_table.specs.References.{store_references, predictor_events_of}
use Rattle.ooo_table.specs.Issue.{issue, issue_row, issues, accesses, access_of}
use Rattle.ooo_table.specs.Dispatch.{dispatch, dispatch_row, dispatches}
use Rattle.ooo_table.specs.Fetch.{fetch_up_to, fetch_one, may_fetch, fetched_row}
use Rattle.ooo_table.specs.Cycle.{table}
use Rattle.ooo_table.specs.Ends.{Extent, Whole, AtCommit, AtStop, rows_at, recovered_cycles, commit_up_to}
use Rattle.ooo_table.specs.Later.{Each, Where}
use Rattle.ooo_table.specs.Legal.{CommitAllowed, WrongRowsSquashed, Squashes}
use Rattle.ooo_table.specs.PathLaws.{newest, Starts}
use Rattle.ooo_table.proofs.Order.{Changed, below_written}
use Rattle.ooo_table.proofs.RowFacts.{sweep_keeps, changed_commit, changed_squash, changed_dispatch, changed_issue}
use Rattle.ooo_table.proofs.Route.{Route, Ahead, zip_of, stage_keeps, any_same, right_stands, route_table, latency_some, written_now}
use Rattle.ooo_table.proofs.Kept.{Kept, kept_table, changed_up_to}
use Rattle.ooo_table.proofs.Sound.{Sound, sound_at}

both' : {b : Bool} → b ≡ true → b ≡ false → ⊥
both' e f = cc

below_more : (n k : ℕ) (m : Option ℕ) → n ≤ k → is_before n m ≡ true → is_before k m ≡ true
below_more n k None le h = absurd cc
below_more n k (Some t) le h = let lt : t < n = ltb-true _ _ h in lt-ltb t k (omega arith)

at_some : (c : ℕ) (m : Option ℕ) → is_at c m ≡ true → m ≡ Some c
at_some c None h = absurd cc
at_some c (Some t) h = ap (λ x. Some x) (eqb-true t c h)

not_yet : (c : ℕ) (w : Option ℕ) → is_before c w ≡ false → is_at c w ≡ false → is_before (suc c) w ≡ false
not_yet c None h k = refl
not_yet c (Some t) h k = grind (arith, nat_tests)

-- fetches are in row order
pub record Ordered (c : ℕ) (older : List Row) (r : Row) : Type 0 where
  pub at : r.fetched.at ≤ c
  pub after : Each (λ _ o. o.fetched.at ≤ r.fetched.at) older

ordered_stays : (c : ℕ) (older before : List Row) (r s : Row) → AllZip (Changed c) older before → s.fetched ≡ r.fetched → Ordered c older r → Ordered c before s
ordered_stays c older before r s zip w t =
    record {
      at = subst (λ w. w.at ≤ c) (sym w) t.at;
      after = subst (λ w. Each (λ _ o. o.fetched.at ≤ w.at) before) (sym w) (each older before zip t.after);
    }
  where
    each : (older before : List Row) → AllZip (Changed c) older before → Each (λ _ o. o.fetched.at ≤ r.fetched.at) older → Each (λ _ o. o.fetched.at ≤ r.fetched.at) before
    each [] [] zip h = tt
    each (o ∷ older) (o' ∷ before) zip h = (subst (λ w. w.at ≤ r.fetched.at) (sym zip.0.fetched) h.0, each older before zip.1 h.1)
    each [] (o' ∷ before) zip h = absurd zip
    each (o ∷ older) [] zip h = absurd zip

module _ (set : Setting) where
  ordered_kept : (c : ℕ) → Kept set c (Ordered c)
  ordered_kept c =
      record {
        at_commit = λ older before r zip below t. ordered_stays c older before r (commit_row set c before r) zip (changed_commit set c before r).fetched t;
        at_squash = λ older before r zip below t. ordered_stays c older before r (squash_row set c before r) zip (changed_squash set c before r).fetched t;
        at_issue = λ base start older before r zip below t. ordered_stays c older before r (issue_row set c base start before r) zip (changed_issue set c base start before r).fetched t;
        at_dispatch = λ older before r zip below t. ordered_stays c older before r (dispatch_row set c before r) zip (changed_dispatch set c before r).fetched t;
        at_fetch = λ older u look queued below. record { at = omega arith; after = earlier older below };
        still = λ older before r zip below t. ordered_stays c older before r r zip refl t;
      }
    where
      earlier : (rows : List Row) → Each (Ordered c) rows → Each (λ _ o. o.fetched.at ≤ c) rows
      earlier [] h = tt
      earlier (o ∷ rows) h = (h.0.at, earlier rows h.1)

  ordered_later : (c : ℕ) (older : List Row) (r : Row) → Ordered c older r → Ordered (suc c) older r
  ordered_later c older r t = let le : r.fetched.at ≤ c = t.at in record { at = omega arith; after = t.after }

  pub ordered_table : (c : ℕ) → Each (Ordered c) (table set c).rows
  ordered_table c = kept_table set Ordered ordered_kept ordered_later c

  -- before a right row was fetched, each mispredicted row before it was written back
  abbrev Back : ℕ → Option Row → Type 0
  Back n None = Unit {0}
  Back n (Some m) = mispredicted set m ≡ true → is_before n (written set m) ≡ true

  right_of : (o : Row) → mispredicted set o ≡ true → o.fetched.right ≡ true
  right_of o h = (and_parts _ _ (and_parts _ _ h).0).0

  all_back : (n c : ℕ) (rows : List Row) → Each (Route set c) rows → Each (λ _ o. o.fetched.at ≤ n) rows → Back n (newest rows)
      → Each (λ _ o. mispredicted set o ≡ true → is_before n (written set o) ≡ true) rows
  all_back n c [] route at b = tt
  all_back n c (r ∷ older) route at b = by_right (all_back n c older route.1 at.1) r.fetched.right refl b
    where
      lift : (o : Option Row) → Starts set o r.fetched → Back n o
      lift None h = tt
      lift (Some m) h = λ k. below_more r.fetched.at n (written set m) at.0 (h.3 k)

      by_right : (Back n (newest older) → Each (λ _ o. mispredicted set o ≡ true → is_before n (written set o) ≡ true) older)
          → (d : Bool) → r.fetched.right ≡ d → Back n (cond d (Some r) (newest older)) → Each (λ _ o. mispredicted set o ≡ true → is_before n (written set o) ≡ true) (r ∷ older)
      by_right ih true e b = (b, ih (lift (newest older) (route.0.follows e)))
      by_right ih false e b = ((λ m. absurd (both' (right_of r m) e)), ih b)

  back_before : (c : ℕ) (older : List Row) (r : Row) → Each (Route set c) older → Route set c older r → Ordered c older r → r.fetched.right ≡ true
      → Each (λ _ o. mispredicted set o ≡ true → is_before r.fetched.at (written set o) ≡ true) older
  back_before c older r below t ord w = all_back r.fetched.at c older below ord.after (lift (newest older) (t.follows w))
    where
      lift : (o : Option Row) → Starts set o r.fetched → Back r.fetched.at o
      lift None h = tt
      lift (Some m) h = h.3

  -- hence at most one mispredicted row isn't written back, and no other can recover
  one_open : (c : ℕ) (rows : List Row) (b : Bool) → Each (Route set c) rows → Each (Ordered c) rows → list_any (recovers set c) rows ≡ b
      → Each (λ _ o. mispredicted set o ≡ true → is_before c (written set o) ≡ false → is_at c (written set o) ≡ b) rows
  one_open c [] b route ord e = tt
  one_open c (r ∷ older) b route ord e = by_right (one_open c older b route.1 ord.1) r.fetched.right refl
    where
      closed : (rows : List Row) → Each (λ _ o. mispredicted set o ≡ true → is_before r.fetched.at (written set o) ≡ true) rows
          → Each (λ _ o. mispredicted set o ≡ true → is_before c (written set o) ≡ false → is_at c (written set o) ≡ b) rows
      closed [] h = tt
      closed (o ∷ rows) h = ((λ m k. absurd (both' (below_more r.fetched.at c (written set o) (omega (arith, route.0.early)) (h.0 m)) k)), closed rows h.1)

      alone : r.fetched.right ≡ true → list_any (recovers set c) older ≡ false
      alone w = by_any (list_any (recovers set c) older) refl
        where
          by_any : (d : Bool) → list_any (recovers set c) older ≡ d → d ≡ false
          by_any true f = absurd (right_stands set c older r route.1 route.0 w f)
          by_any false f = refl

      itself : r.fetched.right ≡ true → mispredicted set r ≡ true → is_at c (written set r) ≡ b
      itself w m =
          let k : ((mispredicted set r && is_at c (written set r)) || false) ≡ b = subst (λ d. (recovers set c r || d) ≡ b) (alone w) e in
          by_at (is_at c (written set r)) (subst (λ d. ((d && is_at c (written set r)) || false) ≡ b) m k)
        where
          by_at : (d : Bool) → ((true && d) || false) ≡ b → d ≡ b
          by_at true k = k
          by_at false k = k

      others : r.fetched.right ≡ false → list_any (recovers set c) older ≡ b
      others w =
          let k : recovers set c r ≡ false = and_left (mispredicted set r) (is_at c (written set r)) (and_left (r.fetched.right && not (execution set r).stops) (not (r.fetched.predicted == (execution set r).next)) (and_left r.fetched.right (not (execution set r).stops) w)) in
          subst (λ d. (d || list_any (recovers set c) older) ≡ b) k e

      by_right : (list_any (recovers set c) older ≡ b → Each (λ _ o. mispredicted set o ≡ true → is_before c (written set o) ≡ false → is_at c (written set o) ≡ b) older)
          → (d : Bool) → r.fetched.right ≡ d → Each (λ _ o. mispredicted set o ≡ true → is_before c (written set o) ≡ false → is_at c (written set o) ≡ b) (r ∷ older)
      by_right ih true w = ((λ m k. itself w m), closed older (back_before c older r route.1 route.0 ord.0 w))
      by_right ih false w = ((λ m k. absurd (both' (right_of r m) w)), ih (others w))

  -- a mispredicted row o and a later row r: o is written back by the fetch of r, or isn't yet while r is unsquashed, or has squashed r
  pub data Mended (n : ℕ) (o r : Row) : Type 0 where
    back : is_before (suc r.fetched.at) (written set o) ≡ true → Mended n o r
    ahead : is_before n (written set o) ≡ false → r.squashed ≡ None → Mended n o r
    gone : (w : ℕ) → written set o ≡ Some w → r.squashed ≡ Some w → Mended n o r

  abbrev pub AllMended : ℕ → List Row → Row → Type 0
  AllMended n older r = Each (λ _ o. mispredicted set o ≡ true → Mended n o r) older

  same_misprediction : (c : ℕ) (o o' : Row) → Changed c o o' → mispredicted set o' ≡ true → mispredicted set o ≡ true
  same_misprediction c o o' ch e = ap (λ w. w.right && not (execution_of set w).stops && not (w.predicted == (execution_of set w).next)) (sym ch.fetched) ∙ e

  mended_stays : (c n : ℕ) (o o' r s : Row) → n ≤ suc c → Changed c o o' → s.fetched ≡ r.fetched → s.squashed ≡ r.squashed → Mended n o r → Mended n o' s
  mended_stays c n o o' r s le ch w q (back h) = back (subst (λ w. is_before (suc w.at) (written set o') ≡ true) (sym w) (below_written set c (suc r.fetched.at) o o' ch h))
  mended_stays c n o o' r s le ch w q (ahead h u) = ahead (still (written_now set c o o' ch)) (q ∙ u)
    where
      still : (written set o' ≡ written set o) ⊎ ((written set o ≡ None) × (written set o' ≡ Some (c + unit_latency (execution set o).unit))) → is_before n (written set o') ≡ false
      still (inl e) = ap (is_before n) e ∙ h
      still (inr (e, g)) = ap (is_before n) g ∙ le-ltb (c + unit_latency (execution set o).unit) n (omega (arith, latency_some (execution set o).unit))
  mended_stays c n o o' r s le ch w q (gone x h u) = gone x (still (written_now set c o o' ch)) (q ∙ u)
    where
      still : (written set o' ≡ written set o) ⊎ ((written set o ≡ None) × (written set o' ≡ Some (c + unit_latency (execution set o).unit))) → written set o' ≡ Some x
      still (inl e) = e ∙ h
      still (inr (e, g)) = let k : None ≡ Some x = sym e ∙ h in absurd cc

  all_stay : (c n : ℕ) (older before : List Row) (r s : Row) → n ≤ suc c → AllZip (Changed c) older before → s.fetched ≡ r.fetched → s.squashed ≡ r.squashed → AllMended n older r → AllMended n before s
  all_stay c n [] [] r s le zip w q h = tt
  all_stay c n (o ∷ older) (o' ∷ before) r s le zip w q h =
      ((λ m. mended_stays c n o o' r s le zip.0 w q (h.0 (same_misprediction c o o' zip.0 m))), all_stay c n older before r s le zip.1 w q h.1)
  all_stay c n [] (o' ∷ before) r s le zip w q h = absurd zip
  all_stay c n (o ∷ older) [] r s le zip w q h = absurd zip

  -- in the recovery stage
  squash_mended : (c : ℕ) (older : List Row) (r : Row) → Each (Route set c) older → Each (Ordered c) older → AllMended c older r
      → AllMended (suc c) (sweep (squash_row set c) older) (squash_row set c (sweep (squash_row set c) older) r)
  squash_mended c older r route ord h =
      all_stay c (suc c) older before (squash_row set c before r) (squash_row set c before r) (omega arith) (zip_of set (squash_row set c) (changed_squash set c) older) refl refl
      (each older (one_open c older (list_any (recovers set c) before) route ord (sym (any_same set c older))) h)
    where
      before : List Row
      before = sweep (squash_row set c) older

      open_turn : (o : Row) (b d : Bool) → is_none r.squashed ≡ d → is_before c (written set o) ≡ false → r.squashed ≡ None → is_at c (written set o) ≡ b
          → Mended (suc c) o (cond (b && d) (record r { squashed = Some c }) r)
      open_turn o true true e k u at = gone c (at_some c (written set o) at) refl
      open_turn o true false e k u at = absurd (both' (ap is_none u) e)
      open_turn o false d e k u at = ahead (not_yet c (written set o) k at) u

      turn : (o : Row) → (is_before c (written set o) ≡ false → is_at c (written set o) ≡ list_any (recovers set c) before) → Mended c o r → Mended (suc c) o (squash_row set c before r)
      turn o only (back k) = cond_both (list_any (recovers set c) before && is_none r.squashed) (record r { squashed = Some c }) r (Mended (suc c) o) (λ _. back k) (λ _. back k)
      turn o only (ahead k u) = open_turn o (list_any (recovers set c) before) (is_none r.squashed) refl k u (only k)
      turn o only (gone w k u) =
          cond_both (list_any (recovers set c) before && is_none r.squashed) (record r { squashed = Some c }) r (Mended (suc c) o)
          (λ e. absurd (both' (and_parts (list_any (recovers set c) before) (is_none r.squashed) e).1 (ap is_none u))) (λ _. gone w k u)

      each : (rows : List Row) → Each (λ _ o. mispredicted set o ≡ true → is_before c (written set o) ≡ false → is_at c (written set o) ≡ list_any (recovers set c) before) rows
          → AllMended c rows r → AllMended (suc c) rows (squash_row set c before r)
      each [] f h = tt
      each (o ∷ rows) f h = ((λ m. turn o (f.0 m) (h.0 m)), each rows f.1 h.1)

  squashed_all : (c : ℕ) (rows : List Row) → Each (Route set c) rows → Each (Ordered c) rows → Each (AllMended c) rows → Each (AllMended (suc c)) (sweep (squash_row set c) rows)
  squashed_all c [] route ord h = tt
  squashed_all c (r ∷ older) route ord h = (squash_mended c older r route.1 ord.1 h.0, squashed_all c older route.1 ord.1 h.1)

  stage_mended : (c n : ℕ) (f : List Row → Row → Row) → n ≤ suc c → ((older : List Row) (r : Row) → Changed c r (f older r)) → ((older : List Row) (r : Row) → (f older r).squashed ≡ r.squashed)
      → (rows : List Row) → Each (AllMended n) rows → Each (AllMended n) (sweep f rows)
  stage_mended c n f le changed same rows h =
      (sweep_keeps (AllMended n) (Changed c) f changed (λ older before r zip below k. all_stay c n older before r (f before r) le zip (changed before r).fetched (same before r) k) rows h).1

  commit_squash : (c : ℕ) (older : List Row) (r : Row) → (commit_row set c older r).squashed ≡ r.squashed
  commit_squash c older r = cond_both (commits set c older r) (record r { committed = Some c }) r (λ s. s.squashed ≡ r.squashed) (λ _. refl) (λ _. refl)

  up_to_squash : (row c : ℕ) (older : List Row) (r : Row) → (commit_up_to set row c older r).squashed ≡ r.squashed
  up_to_squash row c older r = cond_both _ (commit_row set c older r) r (λ s. s.squashed ≡ r.squashed) (λ _. commit_squash c older r) (λ _. refl)

  issue_squash : (c : ℕ) (base : List Reference) (start older : List Row) (r : Row) → (issue_row set c base start older r).squashed ≡ r.squashed
  issue_squash c base start older r =
      cond_both (issues set c start older r) (record r { issued = Some c }) _ (λ s. s.squashed ≡ r.squashed) (λ _. refl)
      (λ _. cond_both (accesses set c start older r) (record r { access = Some (access_of set c base older r) }) r (λ s. s.squashed ≡ r.squashed) (λ _. refl) (λ _. refl))

  dispatch_squash : (c : ℕ) (older : List Row) (r : Row) → (dispatch_row set c older r).squashed ≡ r.squashed
  dispatch_squash c older r = cond_both (dispatches set c older r) (record r { dispatched = Some c }) r (λ s. s.squashed ≡ r.squashed) (λ _. refl) (λ _. refl)

  fresh_mended : (c : ℕ) (rows : List Row) (u : NextFetch) (look : Look) (queued : ℕ) → AllMended (suc c) rows (fetched_row set c u look queued)
  fresh_mended c [] u look queued = tt
  fresh_mended c (o ∷ rows) u look queued = ((λ m. by_below (is_before (suc c) (written set o)) refl), fresh_mended c rows u look queued)
    where
      by_below : (b : Bool) → is_before (suc c) (written set o) ≡ b → Mended (suc c) o (fetched_row set c u look queued)
      by_below true e = back e
      by_below false e = ahead e refl

  fetched_mended : (n c : ℕ) (t : Table) → Each (AllMended (suc c)) t.rows → Each (AllMended (suc c)) (fetch_up_to set n c t).rows
  fetched_mended zero c t h = h
  fetched_mended (suc n) c t h =
      cond_both (may_fetch set c t) (fetch_up_to set n c (fetch_one set c t)) t (λ u. Each (AllMended (suc c)) u.rows)
      (λ _. fetched_mended n c (fetch_one set c t) (fresh_mended c t.rows t.next_fetch (set.look t.next_fetch.pc (predictor_events_of set c t.rows t.predictor_events)) _, h)) (λ _. h)

  marks_mended : (c : ℕ) (t : Table) → 1 ≤ set.config.penalty → Each (Route set c) t.rows × Ahead set c t.rows t.next_fetch → Each (Ordered c) t.rows → Each (AllMended c) t.rows
      → Each (AllMended (suc c)) (dispatch set c (issue set c (recover set c (commit set c t)))).rows
  marks_mended c t pen k ord h =
      let one = commit set c t in
      let two = recover set c one in
      let three = issue set c two in
      let base = store_references set c two.rows two.references in
      let k1 = stage_keeps set c c (commit_row set c) t.rows t.next_fetch (omega arith) (changed_commit set c) k in
      let ord1 : Each (Ordered c) one.rows = (sweep_keeps (Ordered c) (Changed c) (commit_row set c) (changed_commit set c) (ordered_kept c).at_commit t.rows ord).1 in
      let h1 : Each (AllMended c) one.rows = stage_mended c c (commit_row set c) (omega arith) (changed_commit set c) (commit_squash c) t.rows h in
      let h2 : Each (AllMended (suc c)) two.rows = squashed_all c one.rows k1.0 ord1 h1 in
      let h3 : Each (AllMended (suc c)) three.rows = stage_mended c (suc c) (issue_row set c base two.rows) (omega arith) (changed_issue set c base two.rows) (issue_squash c base two.rows) two.rows h2 in
      stage_mended c (suc c) (dispatch_row set c) (omega arith) (changed_dispatch set c) (dispatch_squash c) three.rows h3

  mended_table : (c : ℕ) → 1 ≤ set.config.penalty → Each (AllMended c) (table set c).rows
  mended_table zero pen = tt
  mended_table (suc c) pen =
      fetched_mended set.config.decode c (dispatch set c (issue set c (recover set c (commit set c (table set c)))))
      (marks_mended c (table set c) pen (route_table set c pen) (ordered_table c) (mended_table c pen))

  mended_at : (e : Extent) (c : ℕ) → 1 ≤ set.config.penalty → Each (AllMended (recovered_cycles e c)) (rows_at set e c)
  mended_at Whole c pen = mended_table c pen
  mended_at (AtCommit row) c pen = stage_mended c c (commit_up_to set row c) (omega arith) (changed_up_to set row c) (up_to_squash row c) (table set c).rows (mended_table c pen)
  mended_at AtStop c pen = marks_mended c (table set c) pen (route_table set c pen) (ordered_table c) (mended_table c pen)

  -- right rows are never squashed
  abbrev pub Untouched : Row → Type 0
  Untouched r = r.fetched.right ≡ true → r.squashed ≡ None

  untouched_sweep : (f : List Row → Row → Row) → ((before : List Row) (r : Row) → (f before r).fetched ≡ r.fetched) → ((before : List Row) (r : Row) → (f before r).squashed ≡ r.squashed)
      → (rows : List Row) → Each (λ _. Untouched) rows → Each (λ _. Untouched) (sweep f rows)
  untouched_sweep f w q [] h = tt
  untouched_sweep f w q (r ∷ rows) h = ((λ k. q (sweep f rows) r ∙ h.0 (ap (λ w. w.right) (sym (w (sweep f rows) r)) ∙ k)), untouched_sweep f w q rows h.1)

  untouched_squash : (c : ℕ) (rows : List Row) → Each (Route set c) rows → Each (λ _. Untouched) rows → Each (λ _. Untouched) (sweep (squash_row set c) rows)
  untouched_squash c [] route h = tt
  untouched_squash c (r ∷ rows) route h = (turn, untouched_squash c rows route.1 h.1)
    where
      turn : Untouched (squash_row set c (sweep (squash_row set c) rows) r)
      turn =
          cond_both (list_any (recovers set c) (sweep (squash_row set c) rows) && is_none r.squashed) (record r { squashed = Some c }) r Untouched
          (λ e w. absurd (right_stands set c rows r route.1 route.0 w (sym (any_same set c rows) ∙ (and_parts (list_any (recovers set c) (sweep (squash_row set c) rows)) (is_none r.squashed) e).0)))
          (λ _. h.0)

  untouched_marks : (c : ℕ) (t : Table) → Each (Route set c) t.rows × Ahead set c t.rows t.next_fetch → Each (λ _. Untouched) t.rows
      → Each (λ _. Untouched) (dispatch set c (issue set c (recover set c (commit set c t)))).rows
  untouched_marks c t k h =
      let one = commit set c t in
      let two = recover set c one in
      let three = issue set c two in
      let base = store_references set c two.rows two.references in
      let k1 = stage_keeps set c c (commit_row set c) t.rows t.next_fetch (omega arith) (changed_commit set c) k in
      let h1 : Each (λ _. Untouched) one.rows = untouched_sweep (commit_row set c) (λ b r. (changed_commit set c b r).fetched) (commit_squash c) t.rows h in
      let h2 : Each (λ _. Untouched) two.rows = untouched_squash c one.rows k1.0 h1 in
      let h3 : Each (λ _. Untouched) three.rows = untouched_sweep (issue_row set c base two.rows) (λ b r. (changed_issue set c base two.rows b r).fetched) (issue_squash c base two.rows) two.rows h2 in
      untouched_sweep (dispatch_row set c) (λ b r. (changed_dispatch set c b r).fetched) (dispatch_squash c) three.rows h3

  untouched_fetched : (n c : ℕ) (t : Table) → Each (λ _. Untouched) t.rows → Each (λ _. Untouched) (fetch_up_to set n c t).rows
  untouched_fetched zero c t h = h
  untouched_fetched (suc n) c t h =
      cond_both (may_fetch set c t) (fetch_up_to set n c (fetch_one set c t)) t (λ u. Each (λ _. Untouched) u.rows)
      (λ _. untouched_fetched n c (fetch_one set c t) ((λ w. refl), h)) (λ _. h)

  untouched_table : (c : ℕ) → 1 ≤ set.config.penalty → Each (λ _. Untouched) (table set c).rows
  untouched_table zero pen = tt
  untouched_table (suc c) pen =
      untouched_fetched set.config.decode c (dispatch set c (issue set c (recover set c (commit set c (table set c)))))
      (untouched_marks c (table set c) (route_table set c pen) (untouched_table c pen))

  pub untouched_at : (e : Extent) (c : ℕ) → 1 ≤ set.config.penalty → Each (λ _. Untouched) (rows_at set e c)
  untouched_at Whole c pen = untouched_table c pen
  untouched_at (AtCommit row) c pen = untouched_sweep (commit_up_to set row c) (λ b r. (changed_up_to set row c b r).fetched) (up_to_squash row c) (table set c).rows (untouched_table c pen)
  untouched_at AtStop c pen = untouched_marks c (table set c) (route_table set c pen) (untouched_table c pen)

  -- at every cycle, wherever a run ends
  squashes_of : (n : ℕ) (o r : Row) → (mispredicted set o ≡ true → Mended n o r) → Squashes set n r o
  squashes_of n o r h m = by_written (written set o) refl (h m)
    where
      by_written : (x : Option ℕ) → written set o ≡ x → Mended n o r → Where x (λ w. w < n → r.fetched.at < w → r.squashed ≡ Some w)
      by_written None e k = tt
      by_written (Some w) e (back k) = λ lt late. let early : w < suc r.fetched.at = ltb-true w (suc r.fetched.at) (sym (ap (is_before (suc r.fetched.at)) e) ∙ k) in absurd (omega arith)
      by_written (Some w) e (ahead k u) = λ lt late. absurd (both' (lt-ltb w n lt) (sym (ap (is_before n) e) ∙ k))
      by_written (Some w) e (gone x k u) = λ lt late. u ∙ (sym k ∙ e)

  squashes_of' : (n c : ℕ) (rows : List Row) → Each (Sound set c) rows → Each (AllMended n) rows → Each (WrongRowsSquashed set n) rows
  squashes_of' n c [] s h = tt
  squashes_of' n c (r ∷ rows) s h = (record { commits = is_right; squashed = each rows h.0 }, squashes_of' n c rows s.1 h.1)
    where
      by_commit : (m : Option ℕ) → Where m (CommitAllowed set rows r) → is_some m ≡ true → r.fetched.right ≡ true
      by_commit None w k = absurd cc
      by_commit (Some x) w k = w.right

      is_right : is_some r.committed ≡ true → r.fetched.right ≡ true
      is_right k = by_commit r.committed s.0.facts.order k

      each : (rows : List Row) → AllMended n rows r → Each (λ _ o. Squashes set n r o) rows
      each [] h = tt
      each (o ∷ rows) h = (squashes_of n o r h.0, each rows h.1)

  pub squashes_at : (e : Extent) (c : ℕ) → 1 ≤ set.config.penalty → Each (WrongRowsSquashed set (recovered_cycles e c)) (rows_at set e c)
  squashes_at e c pen = squashes_of' (recovered_cycles e c) c (rows_at set e c) (sound_at set e c) (mended_at e c pen)
