-- Within a stage, row by row.
use Rattle.std.proofs.Common.{◌≡◌, ℕ, suc, ◌+◌, ◌<◌, ◌≤◌, Bool, true, false, List, [], ◌∷◌, ◌++◌, length, Option, Some, None, refl, sym, ap, ◌∙◌, subst, arith}
use Rattle.std.specs.Prelude.{nat_le, if◌then◌else◌}
use Rattle.std.proofs.lemmas.Bool.{cond_both, cond-false, leb-true, false_from_ne_true}
use Rattle.ooo_table.specs.Row.{Row, sweep}
use Rattle.ooo_table.specs.Table.{Setting, NextFetch}
use Rattle.ooo_table.specs.Done.{waiting}
use Rattle.ooo_table.specs.Commit.{commit_row}
use Rattle.ooo_table.specs.Dispatch.{dispatch_row, dispatches}
use Rattle.ooo_table.specs.Cycle.{table, after_issue}
use Rattle.ooo_table.specs.Ends.{commit_up_to, is_last, last_commit, or_else}
use Rattle.ooo_table.specs.Later.{Each}
use Rattle.ooo_table.specs.CycleLaws.{Newest, Linked, Passed, as_next}
use Rattle.ooo_table.specs.TurnLaws.{WithinDispatch, MeetsEnd, EndsThere, committed_part}
use Rattle.ooo_table.proofs.CycleFacts.{newest_three, newest_table, newest_dispatch, linked_three, linked_table, linked_dispatch}
use Rattle.ooo_table.proofs.Ends.{swept_length, same_commits}

module _ (set : Setting) where
  -- ---- dispatch

  passed_turn : (c : ℕ) (before : List Row) (r : Row) → waiting r ≡ false → waiting (dispatch_row set c before r) ≡ false
  passed_turn c before r =
      cond_both (dispatches set c before r) (record r { dispatched = Some c }) r (λ s. waiting r ≡ false → waiting s ≡ false) (λ _ w. refl) (λ _ w. w)

  passed_sweep : (c : ℕ) (rows : List Row) → Passed rows → Passed (sweep (dispatch_row set c) rows)
  passed_sweep c [] p = tt
  passed_sweep c (r ∷ rows) p = (passed_turn c (sweep (dispatch_row set c) rows) r p.0, passed_sweep c rows p.1)

  passed_part : (c : ℕ) (younger older : List Row) → Passed (younger ++ older) → Passed (younger ++ sweep (dispatch_row set c) older)
  passed_part c [] older p = passed_sweep c older p
  passed_part c (y ∷ younger) older p = (p.0, passed_part c younger older p.1)

  newest_part : (c : ℕ) (younger older : List Row) → Each Newest (younger ++ older) → Each Newest (younger ++ sweep (dispatch_row set c) older)
  newest_part c [] older n = newest_dispatch set c older n
  newest_part c (y ∷ younger) older n = (record { passed = λ w. passed_part c younger older (n.0.passed w) }, newest_part c younger older n.1)

  linked_part : (c : ℕ) (younger older : List Row) (u : NextFetch) → Linked set (younger ++ older) u → Linked set (younger ++ sweep (dispatch_row set c) older) u
  linked_part c [] older u h = linked_dispatch set c older u h
  linked_part c (y ∷ younger) older u h = λ w. ((h w).0, linked_part c younger older (as_next y) (h w).1)

  pub within_dispatch : (c : ℕ) (younger older : List Row) → (after_issue set c).rows ≡ younger ++ older → WithinDispatch set c younger older
  within_dispatch c younger older e =
      record {
        newest = newest_part c younger older (subst (λ l. Each Newest l) e (newest_three set c (newest_table set c)));
        linked = linked_part c younger older (after_issue set c).next_fetch (subst (λ l. Linked set l (after_issue set c).next_fetch) e (linked_three set c (linked_table set c)));
      }

  -- ---- the last commit

  here : (a : Option ℕ) (b : Bool) (m n : ℕ) → a ≡ None → b ≡ true → m ≡ n → or_else a (if b then Some m else None) ≡ Some n
  here None true m n ea eb en = ap Some en
  here None false m n ea eb en = absurd cc
  here (Some x) b m n ea eb en = absurd cc

  stands : (most c n : ℕ) (younger rest : List Row) → last_commit set most c (sweep (commit_row set c) rest) ≡ Some n → last_commit set most c (sweep (commit_row set c) (younger ++ rest)) ≡ Some n
  stands most c n [] rest e = e
  stands most c n (y ∷ younger) rest e = kept _ _ (stands most c n younger rest e)
    where
      kept : (a b : Option ℕ) → a ≡ Some n → or_else a b ≡ Some n
      kept (Some x) b e = e
      kept None b e = absurd cc

  -- the rows behind the last one don't commit
  left : (row c : ℕ) (younger rest : List Row) → row < length rest → sweep (commit_up_to set row c) (younger ++ rest) ≡ younger ++ sweep (commit_up_to set row c) rest
  left row c [] rest lt = refl
  left row c (y ∷ younger) rest lt =
      ap (λ s. s ∷ sweep (commit_up_to set row c) (younger ++ rest)) (cond-false (nat_le (length before) row) (commit_row set c before y) y (false_from_ne_true _ (λ h. absurd (late (leb-true (length before) row h)))))
      ∙ ap (λ l. y ∷ l) (left row c younger rest lt)
    where
      before : List Row
      before = sweep (commit_up_to set row c) (younger ++ rest)

      longer : (ys : List Row) → length rest ≤ length (ys ++ rest)
      longer [] = omega arith
      longer (x ∷ ys) = let h : length rest ≤ length (ys ++ rest) = longer ys in omega (arith, h)

      late : length before ≤ row → ⊥
      late h = omega (arith, h, lt, longer younger, swept_length set (commit_up_to set row c) (younger ++ rest))

  pub ends_there : (most c : ℕ) (younger older : List Row) (r : Row) → (table set c).rows ≡ younger ++ (r ∷ older) → MeetsEnd set most c older r → EndsThere set most c younger older r
  ends_there most c younger older r e m =
      record {
        number = ap (λ l. last_commit set most c (sweep (commit_row set c) l)) e
            ∙ stands most c (length older) younger (r ∷ older)
            (here (last_commit set most c (sweep (commit_row set c) older)) (is_last set most c (sweep (commit_row set c) older) (commit_row set c (sweep (commit_row set c) older) r))
            (length (sweep (commit_row set c) older)) (length older) m.before m.last (swept_length set (commit_row set c) older));
        rows = ap (λ l. sweep (commit_up_to set (length older) c) l) e
            ∙ (left (length older) c younger (r ∷ older) (omega arith) ∙ ap (λ l. younger ++ l) (same_commits set (length older) c (r ∷ older) (omega arith)));
      }
