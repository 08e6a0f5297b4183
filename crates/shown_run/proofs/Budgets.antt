-- The commits of a run that has not ended are fewer than its budget, and none of them is an exit; the last one of a run that
-- ends at a commit is its last within the budget.
use Rattle.std.proofs.Common.{◌≡◌, ℕ, zero, suc, ◌+◌, ◌<◌, ◌≤◌, Bool, true, false, cond, List, [], ◌∷◌, ◌++◌, length, Option, Some, None, refl, sym, ap, ◌∙◌, subst, arith}
use Rattle.std.specs.Prelude.{◌&&◌, ◌||◌, ◌==◌, is_some, is_none}
use Rattle.std.specs.List.{list_any}
use Rattle.std.proofs.lemmas.Bool.{and_parts, or_parts, or_from, cond-false, cond-true, false_from_ne_true}
use Rattle.std.proofs.lemmas.Bool.Decides.{nat_tests}
use Rattle.bpred_unit.specs.declared.predictor.Look.{Look}
use Rattle.ooo_table.specs.Row.{Row, MemoryAccess, is_at, sweep}
use Rattle.ooo_table.specs.Table.{Setting, NextFetch}
use Rattle.ooo_table.specs.Path.{is_exit}
use Rattle.ooo_table.specs.Commit.{commits, commit_row}
use Rattle.ooo_table.specs.References.{store_references}
use Rattle.ooo_table.specs.Issue.{issue_row}
use Rattle.ooo_table.specs.Dispatch.{dispatch_row}
use Rattle.ooo_table.specs.Fetch.{fetched_row}
use Rattle.ooo_table.specs.Recovery.{squash_row}
use Rattle.ooo_table.specs.Cycle.{table, after_commit, after_recover, after_issue, after_dispatch}
use Rattle.ooo_table.specs.Ends.{is_last, last_commit, or_else, or_stop, stops_in, end_in, exited}
use Rattle.ooo_table.specs.Later.{Each, Where, By}
use Rattle.ooo_table.specs.Legal.{InOrder, CommitAllowed}
use Rattle.ooo_table.specs.CycleLaws.{RowFacts}
use Rattle.ooo_table.specs.RunLaws.{commits_among}
use Rattle.ooo_table.specs.TurnLaws.{MeetsEnd}
use Rattle.ooo_table.proofs.Counts.{count_true, count_false, fetched_same}
use Rattle.ooo_table.proofs.Ends.{swept_length}
use Rattle.ooo_table.proofs.RowFacts.{facts_table}
use Rattle.ooo_table.proofs.Widths.{kept_less, squash_same, issue_same', dispatch_same'}
use Rattle.shown_run.proofs.Gathered.{gathered, behind_commits, over_fetches}

abbrev pub is_committed : Row → Bool
is_committed r = is_some r.committed

pub not_both : {b : Bool} → b ≡ true → b ≡ false → ⊥
not_both e f = cc

same_cycle : (c : ℕ) → (c == c) ≡ true
same_cycle c = grind (arith, nat_tests)

else_parts : (a b : Option ℕ) → or_else a b ≡ None → (a ≡ None) × (b ≡ None)
else_parts None b h = (refl, h)
else_parts (Some x) b h = absurd cc

pub stop_parts : (b : Bool) (m : Option ℕ) → or_stop b m ≡ None → (b ≡ false) × (m ≡ None)
stop_parts true None h = absurd cc
stop_parts false None h = (refl, refl)
stop_parts b (Some x) h = absurd cc

unset : (b : Bool) (n : ℕ) → cond b (Some n) None ≡ None → b ≡ false
unset true n h = absurd cc
unset false n h = refl

-- no younger commit came where an older row has none
pub not_by : (x : ℕ) (m : Option ℕ) → m ≡ None → By x m → ⊥
not_by x None e k = k
not_by x (Some t) e k = cc

pub none_is : {A : Type 0} (m : Option A) → is_none m ≡ true → m ≡ None
none_is None h = refl
none_is (Some x) h = absurd cc

module _ (set : Setting) (most c : ℕ) where
  abbrev turned : List Row → List Row
  turned rows = sweep (commit_row set c) rows

  pub commits_right : (before : List Row) (r : Row) → commits set c before r ≡ true → r.fetched.right ≡ true
  commits_right before r e = grind (arith, and_parts)

  pub commits_unset : (before : List Row) (r : Row) → commits set c before r ≡ true → is_none r.committed ≡ true
  commits_unset before r e = grind (arith, and_parts)

  turn_commits : (before : List Row) (r : Row) → commits set c before r ≡ true → commit_row set c before r ≡ record r { committed = Some c }
  turn_commits before r e = cond-true (commits set c before r) (record r { committed = Some c }) r e

  pub turn_stays : (before : List Row) (r : Row) → commits set c before r ≡ false → commit_row set c before r ≡ r
  turn_stays before r e = cond-false (commits set c before r) (record r { committed = Some c }) r e

  -- where all right rows have committed none does
  settled : (t : ℕ) (rows : List Row) → Each (λ _. InOrder t) rows → turned rows ≡ rows
  settled t [] h = refl
  settled t (o ∷ rows) h =
      ap (λ l. commit_row set c l o ∷ l) (settled t rows h.1)
      ∙ ap (λ x. x ∷ rows) (turn_stays rows o (false_from_ne_true _ (λ e. not_by t o.committed (none_is o.committed (commits_unset rows o e)) (h.0.before (commits_right rows o e)))))

  -- ---- fewer commits than the budget

  -- a row that commits in the cycle and doesn't end the run
  no_end : (before : List Row) (s : Row) → is_at c s.committed ≡ true → is_last set most c before s ≡ false → (is_exit set s ≡ false) × ((commits_among (s ∷ before) == most) ≡ false)
  no_end before s at e = or_parts (is_exit set s) (commits_among (s ∷ before) == most) (sym (ap (λ b. b && (is_exit set s || (commits_among (s ∷ before) == most))) at) ∙ e)

  pub fewer : (rows : List Row) → Each (RowFacts set c) rows → last_commit set most c (turned rows) ≡ None → commits_among rows < most → commits_among (turned rows) < most
  fewer [] f h lt = lt
  fewer (r ∷ rows) f h lt = by_turn (commits set c before r) refl (fewer rows f.1 parts.0 (omega (arith, lt, more)))
    where
      before : List Row
      before = turned rows

      s : Row
      s = commit_row set c before r

      parts : (last_commit set most c before ≡ None) × (cond (is_last set most c before s) (Some (length before)) None ≡ None)
      parts = else_parts (last_commit set most c before) (cond (is_last set most c before s) (Some (length before)) None) h

      more : commits_among rows ≤ commits_among (r ∷ rows)
      more = by_mark (is_committed r) refl
        where
          by_mark : (b : Bool) → is_committed r ≡ b → commits_among rows ≤ commits_among (r ∷ rows)
          by_mark true e = omega (arith, count_true is_committed r rows e)
          by_mark false e = omega (arith, count_false is_committed r rows e)

      not_most : (n : ℕ) → (n == most) ≡ false → n ≤ most → n < most
      not_most n e le = grind (arith, nat_tests)

      earlier : (m : Option ℕ) → r.committed ≡ m → Where m (CommitAllowed set rows r) → commits_among before < most → commits_among (r ∷ before) < most
      earlier None e w ih = omega (arith, ih, count_false is_committed r before (ap is_some e))
      earlier (Some t) e w ih =
          let same : before ≡ rows = settled t rows w.order in
          subst (λ l. commits_among (r ∷ l) < most) (sym same) lt

      by_turn : (b : Bool) → commits set c before r ≡ b → commits_among before < most → commits_among (s ∷ before) < most
      by_turn true e ih =
          let now : s ≡ record r { committed = Some c } = turn_commits before r e in
          let at : is_at c s.committed ≡ true = ap (λ (x : Row). is_at c x.committed) now ∙ same_cycle c in
          let count : commits_among (s ∷ before) ≡ 1 + commits_among before = count_true is_committed s before (ap (λ (x : Row). is_some x.committed) now) in
          not_most (commits_among (s ∷ before)) (no_end before s at (unset (is_last set most c before s) (length before) parts.1)).1 (omega (arith, count, ih))
      by_turn false e ih = subst (λ x. commits_among (x ∷ before) < most) (sym (turn_stays before r e)) (earlier r.committed refl f.0.order ih)

  -- ---- no exit

  abbrev has_exited : Row → Bool
  has_exited o = is_some o.committed && is_exit set o

  unexited : (rows : List Row) → last_commit set most c (turned rows) ≡ None → list_any has_exited rows ≡ false → list_any has_exited (turned rows) ≡ false
  unexited [] h x = refl
  unexited (r ∷ rows) h x = by_turn (commits set c before r) refl (unexited rows parts.0 old.1)
    where
      before : List Row
      before = turned rows

      s : Row
      s = commit_row set c before r

      parts : (last_commit set most c before ≡ None) × (cond (is_last set most c before s) (Some (length before)) None ≡ None)
      parts = else_parts (last_commit set most c before) (cond (is_last set most c before s) (Some (length before)) None) h

      old : (has_exited r ≡ false) × (list_any has_exited rows ≡ false)
      old = or_parts (has_exited r) (list_any has_exited rows) x

      by_turn : (b : Bool) → commits set c before r ≡ b → list_any has_exited before ≡ false → list_any has_exited (s ∷ before) ≡ false
      by_turn true e ih =
          let now : s ≡ record r { committed = Some c } = turn_commits before r e in
          let at : is_at c s.committed ≡ true = ap (λ (x : Row). is_at c x.committed) now ∙ same_cycle c in
          let none : is_exit set s ≡ false = (no_end before s at (unset (is_last set most c before s) (length before) parts.1)).0 in
          or_from (has_exited s) (list_any has_exited before) (ap (λ (x : Row). is_some x.committed && is_exit set s) now ∙ none) ih
      by_turn false e ih = or_from (has_exited s) (list_any has_exited before) (ap has_exited (turn_stays before r e) ∙ old.0) ih

  -- ---- the last commit

  -- the row with this number ends the run with its commit
  pub record LastOf (rows : List Row) (row : ℕ) : Type 0 where
    pub younger : List Row
    pub r : Row
    pub older : List Row
    pub rows_are : rows ≡ younger ++ (r ∷ older)
    pub number : row ≡ length older
    pub meets : MeetsEnd set most c older r
    pub fewer : commits_among (turned older) < most

  pub last_of : (rows : List Row) (row : ℕ) → Each (RowFacts set c) rows → commits_among rows < most → last_commit set most c (turned rows) ≡ Some row → LastOf rows row
  last_of [] row f lt h = absurd cc
  last_of (r ∷ rows) row f lt h = by_older (last_commit set most c before) refl (last_of rows row f.1 (omega (arith, lt, more)))
    where
      before : List Row
      before = turned rows

      s : Row
      s = commit_row set c before r

      more : commits_among rows ≤ commits_among (r ∷ rows)
      more = by_mark (is_committed r) refl
        where
          by_mark : (b : Bool) → is_committed r ≡ b → commits_among rows ≤ commits_among (r ∷ rows)
          by_mark true e = omega (arith, count_true is_committed r rows e)
          by_mark false e = omega (arith, count_false is_committed r rows e)

      by_test : (b : Bool) → last_commit set most c before ≡ None → is_last set most c before s ≡ b → cond b (Some (length before)) None ≡ Some row → LastOf (r ∷ rows) row
      by_test true e k n =
          let number : length before ≡ row = cc in
          record {
            younger = [];
            r = r;
            older = rows;
            rows_are = refl;
            number = sym number ∙ swept_length set (commit_row set c) rows;
            meets = record { before = e; last = k };
            fewer = fewer rows f.1 e (omega (arith, lt, more));
          }
      by_test false e k n = absurd cc

      by_older : (m : Option ℕ) → last_commit set most c before ≡ m → (last_commit set most c before ≡ Some row → LastOf rows row) → LastOf (r ∷ rows) row
      by_older (Some n) e ih =
          let k : LastOf rows row = ih (found (last_commit set most c before) n e h) in
          record {
            younger = r ∷ k.younger;
            r = k.r;
            older = k.older;
            rows_are = ap (λ l. r ∷ l) k.rows_are;
            number = k.number;
            meets = k.meets;
            fewer = k.fewer;
          }
        where
          found : (m : Option ℕ) (n : ℕ) → m ≡ Some n → or_else m (cond (is_last set most c before s) (Some (length before)) None) ≡ Some row → m ≡ Some row
          found (Some y) n e h = h
          found None n e h = absurd cc
      by_older None e ih =
          by_test (is_last set most c before s) e refl
          (sym (ap (λ m. or_else m (cond (is_last set most c before s) (Some (length before)) None)) e) ∙ h)

-- ---- over whole cycles

module _ (set : Setting) (most : ℕ) where
  -- no stage behind the commits commits
  pub no_more : (c : ℕ) → commits_among (after_dispatch set c).rows ≤ commits_among (after_commit set c).rows
  no_more c =
      let two = after_recover set c in
      let base = store_references set c two.rows two.references in
      omega (
        arith,
        kept_less is_committed (dispatch_row set c) (dispatch_same' set is_committed c (λ r. refl)) (after_issue set c).rows,
        kept_less is_committed (issue_row set c base two.rows) (issue_same' set is_committed c base two.rows (λ r. refl) (λ r a. refl)) two.rows,
        kept_less is_committed (squash_row set c) (squash_same set is_committed c (λ r. refl)) (after_commit set c).rows,
      )

  no_more_next : (c : ℕ) → commits_among (table set (suc c)).rows ≤ commits_among (after_commit set c).rows
  no_more_next c = omega (arith, fetched_same set is_committed c (λ u look queued. refl) set.config.decode (after_dispatch set c), no_more c)

  abbrev pub Unended : ℕ → Type 0
  Unended c = (x : ℕ) → x < c → end_in set most x ≡ None

  pub below_budget : (c : ℕ) → 1 ≤ most → Unended c → commits_among (table set c).rows < most
  below_budget zero some h = some
  below_budget (suc c) some h =
      let ends : or_stop (stops_in set c (table set c)) (last_commit set most c (after_commit set c).rows) ≡ None = h c (omega arith) in
      let none : last_commit set most c (after_commit set c).rows ≡ None = (stop_parts (stops_in set c (table set c)) (last_commit set most c (after_commit set c).rows) ends).1 in
      omega (arith, no_more_next c, fewer set most c (table set c).rows (facts_table set c) none (below_budget c some (λ x lt. h x (omega (arith, lt)))))

  -- ---- exits

  pub any_gathered : (p : Row → Bool) (rows : List Row) → list_any p rows ≡ gathered (λ n r b. p r || b) false rows
  any_gathered p [] = refl
  any_gathered p (r ∷ rows) = ap (λ b. p r || b) (any_gathered p rows)

  module _ (c : ℕ) (p : Row → Bool) (squashed : (before : List Row) (r : Row) → p (squash_row set c before r) ≡ p r)
      (issued : (r : Row) → p (record r { issued = Some c }) ≡ p r) (accessed : (r : Row) (a : MemoryAccess) → p (record r { access = Some a }) ≡ p r)
      (dispatched : (r : Row) → p (record r { dispatched = Some c }) ≡ p r)
      (fresh : (u : NextFetch) (look : Look) (queued : ℕ) → p (fetched_row set c u look queued) ≡ false) where
    pub any_behind : list_any p (after_dispatch set c).rows ≡ list_any p (after_commit set c).rows
    any_behind =
        any_gathered p (after_dispatch set c).rows
        ∙ (behind_commits set c (λ n r b. p r || b) false (λ n before r b. ap (λ t. t || b) (squashed before r))
        (λ base start n before r b. ap (λ t. t || b) (issue_same' set p c base start issued accessed before r))
        (λ n before r b. ap (λ t. t || b) (dispatch_same' set p c dispatched before r))
        ∙ sym (any_gathered p (after_commit set c).rows))

    pub any_next : list_any p (table set (suc c)).rows ≡ list_any p (after_commit set c).rows
    any_next =
        any_gathered p (table set (suc c)).rows
        ∙ (over_fetches set c (λ n r b. p r || b) false (λ n u look queued b. ap (λ t. t || b) (fresh u look queued))
        ∙ (sym (any_gathered p (after_dispatch set c).rows) ∙ any_behind))

  pub running : (c : ℕ) → Unended c → exited set (table set c) ≡ false
  running zero h = refl
  running (suc c) h =
      let ends : or_stop (stops_in set c (table set c)) (last_commit set most c (after_commit set c).rows) ≡ None = h c (omega arith) in
      let none : last_commit set most c (after_commit set c).rows ≡ None = (stop_parts (stops_in set c (table set c)) (last_commit set most c (after_commit set c).rows) ends).1 in
      any_next c (λ r. is_some r.committed && is_exit set r)
      (squash_same set (λ r. is_some r.committed && is_exit set r) c (λ r. refl)) (λ r. refl) (λ r a. refl) (λ r. refl) (λ u look queued. refl)
      ∙ unexited set most c (table set c).rows none (running c (λ x lt. h x (omega (arith, lt))))
