-- The turns of the commit stage, one commit after another, and what they show.
use Rattle.std.proofs.Common.{◌≡◌, ℕ, suc, ◌+◌, ◌≤◌, Bool, true, false, cond, List, [], ◌∷◌, ◌++◌, Option, Some, None, refl, sym, ap, ◌∙◌, subst, arith, length, append-nil}
use Rattle.std.specs.Prelude.{◌&&◌, ◌||◌, ◌==◌, map, is_some, is_none, count_by}
use Rattle.std.proofs.lemmas.Bool.{and_parts, cond-true, cond-false}
use Rattle.std.proofs.lemmas.Bool.Decides.{nat_tests}
use Rattle.sim_safe.specs.Step.{step_of}
use Rattle.ooo_table.specs.declared.event.Mark.TheVariants as mark
use Rattle.ooo_table.specs.Row.{Row, is_at}
use Rattle.ooo_table.specs.Table.{Setting}
use Rattle.ooo_table.specs.Path.{is_exit}
use Rattle.ooo_table.specs.Commit.{commits, commit_row}
use Rattle.ooo_table.specs.Cycle.{table}
use Rattle.ooo_table.specs.Ends.{is_last, last_commit, or_else, or_stop, stops_in}
use Rattle.ooo_table.specs.Later.{Each, Where, By, Past}
use Rattle.ooo_table.specs.Legal.{CommitAllowed, InOrder}
use Rattle.ooo_table.specs.CycleLaws.{RowFacts}
use Rattle.ooo_table.specs.Machine.{Given, setting_of}
use Rattle.ooo_table.specs.RunLaws.{recorded_by, commits_among}
use Rattle.ooo_table.specs.TurnLaws.{MeetsEnd, EndsThere}
use Rattle.ooo_table.proofs.Counts.{one, count_cons, count_false, past_table}
use Rattle.ooo_table.proofs.Over.{not_at}
use Rattle.ooo_table.proofs.RowFacts.{facts_table}
use Rattle.ooo_table.proofs.Turns.{ends_there}
use Rattle.core_watch.specs.Shown.{Happened, Committed}
use Rattle.core_watch.specs.StageItems.{commit_items}
use Rattle.core_watch.specs.StageItemsLaws.{turned, commits_now, shown_commit, CommitsNext, ends_run, CommitIsShown, CommitsAreOver}
use Rattle.core_watch.proofs.Stages.{swept_length}
use Rattle.core_watch.proofs.Ends.{shown_at_commit}

-- no commit of the cycle is among these rows
abbrev pub Uncommitted : ℕ → List Row → Type 0
Uncommitted c rows = Each (λ _ o. is_at c o.committed ≡ false) rows

-- the two parts of rows that each have a fact of their own
front_of : (P : Row → Type 0) (younger older : List Row) → Each (λ _. P) (younger ++ older) → Each (λ _. P) younger
front_of P [] older h = tt
front_of P (y ∷ younger) older h = (h.0, front_of P younger older h.1)

back_of : (P : List Row → Row → Type 0) (younger older : List Row) → Each P (younger ++ older) → Each P older
back_of P [] older h = h
back_of P (y ∷ younger) older h = back_of P younger older h.1

same_number : (n : ℕ) → (n == n) ≡ true
same_number n = grind (arith, nat_tests)

count_append : (p : Row → Bool) (xs ys : List Row) → count_by p (xs ++ ys) ≡ count_by p xs + count_by p ys
count_append p [] ys = omega arith
count_append p (x ∷ xs) ys = omega (arith, count_cons p x (xs ++ ys), count_cons p x xs, count_append p xs ys)

count_none : (p : Row → Bool) (rows : List Row) → Each (λ _ o. p o ≡ false) rows → count_by p rows ≡ 0
count_none p [] h = refl
count_none p (o ∷ rows) h = count_false p o rows h.0 ∙ count_none p rows h.1

module _ (g : Given) (c : ℕ) where
  abbrev set : Setting
  set = setting_of g

  -- the rows of the table have no commit of the cycle
  pub uncommitted : Uncommitted c (table set c).rows
  uncommitted = all (table set c).rows (past_table set c)
    where
      all : (rows : List Row) → Each (λ _. Past c) rows → Uncommitted c rows
      all [] h = tt
      all (r ∷ rows) h = (not_at c r.committed h.0.committed, all rows h.1)

  -- ---- rows without a commit

  none_shown : (younger rest : List Row) → Uncommitted c younger → commit_items g c (younger ++ rest) ≡ commit_items g c rest
  none_shown [] rest h = refl
  none_shown (y ∷ younger) rest h =
      ap
      (λ b. commit_items g c (younger ++ rest)
      ++ cond b (Happened (record { cycle = c; row = length (younger ++ rest); mark = mark.Committed }) ∷ map Committed (recorded_by g (step_of g.trace y.fetched.state))) [])
      h.0
      ∙ (append-nil (commit_items g c (younger ++ rest)) ∙ none_shown younger rest h.1)

  none_last : (most : ℕ) (younger rest : List Row) → Uncommitted c younger → last_commit set most c (younger ++ rest) ≡ last_commit set most c rest
  none_last most [] rest h = refl
  none_last most (y ∷ younger) rest h =
      ap
      (λ b. or_else (last_commit set most c (younger ++ rest))
      (cond (b && (is_exit set y || (count_by (λ o. is_some o.committed) (y ∷ (younger ++ rest)) == most))) (Some (length (younger ++ rest))) None))
      h.0
      ∙ (or_none (last_commit set most c (younger ++ rest)) ∙ none_last most younger rest h.1)
    where
      or_none : (m : Option ℕ) → or_else m None ≡ m
      or_none None = refl
      or_none (Some x) = refl

  -- ---- turns

  pub turn_commits : (before : List Row) (r : Row) → commits set c before r ≡ true → commit_row set c before r ≡ record r { committed = Some c }
  turn_commits before r e = cond-true (commits set c before r) (record r { committed = Some c }) r e

  pub turn_stays : (before : List Row) (r : Row) → commits set c before r ≡ false → commit_row set c before r ≡ r
  turn_stays before r e = cond-false (commits set c before r) (record r { committed = Some c }) r e

  pub now_counted : (r : Row) (rows : List Row) → commits_now g c (r ∷ rows) ≡ one (is_at c (commit_row set c (turned g c rows) r).committed) + commits_now g c rows
  now_counted r rows = count_cons (λ o. is_at c o.committed) (commit_row set c (turned g c rows) r) (turned g c rows)

  more_commits : (ys older : List Row) → commits_now g c older ≤ commits_now g c (ys ++ older)
  more_commits [] older = omega arith
  more_commits (y ∷ ys) older = omega (arith, more_commits ys older, now_counted y (ys ++ older))

  -- rows none of which is counted have no turn
  still : (ys older : List Row) → commits_now g c (ys ++ older) ≡ commits_now g c older → turned g c (ys ++ older) ≡ ys ++ turned g c older
  still [] older e = refl
  still (y ∷ ys) older e =
      ap (λ x. x ∷ turned g c (ys ++ older)) (by_test (commits set c (turned g c (ys ++ older)) y) refl) ∙ ap (λ l. y ∷ l) (still ys older rest)
    where
      rest : commits_now g c (ys ++ older) ≡ commits_now g c older
      rest = omega (arith, e, more_commits ys older, now_counted y (ys ++ older))

      none : is_at c (commit_row set c (turned g c (ys ++ older)) y).committed ≡ true → ⊥
      none h =
          let k : one (is_at c (commit_row set c (turned g c (ys ++ older)) y).committed) ≡ 1 = ap one h in
          omega (arith, e, more_commits ys older, now_counted y (ys ++ older), k)

      by_test : (b : Bool) → commits set c (turned g c (ys ++ older)) y ≡ b → commit_row set c (turned g c (ys ++ older)) y ≡ y
      by_test true h = absurd (none (ap (λ (x : Row). is_at c x.committed) (turn_commits (turned g c (ys ++ older)) y h) ∙ same_number c))
      by_test false h = turn_stays (turned g c (ys ++ older)) y h

  -- the commits of earlier cycles and of this one
  all_counted : (rows : List Row) → Uncommitted c rows → commits_among (turned g c rows) ≡ commits_among rows + commits_now g c rows
  all_counted [] h = refl
  all_counted (r ∷ rows) h =
      omega (
        arith,
        all_counted rows h.1,
        now_counted r rows,
        count_cons (λ o. is_some o.committed) r rows,
        count_cons (λ o. is_some o.committed) (commit_row set c (turned g c rows) r) (turned g c rows),
        by_test (commits set c (turned g c rows) r) refl,
      )
    where
      unset : commits set c (turned g c rows) r ≡ true → is_none r.committed ≡ true
      unset e = grind (arith, and_parts)

      not_some : (m : Option ℕ) → is_none m ≡ true → one (is_some m) ≡ 0
      not_some None e = refl
      not_some (Some x) e = absurd cc

      Counted : Row → Type 0
      Counted x = one (is_some x.committed) ≡ one (is_some r.committed) + one (is_at c x.committed)

      by_test : (b : Bool) → commits set c (turned g c rows) r ≡ b → Counted (commit_row set c (turned g c rows) r)
      by_test true e =
          subst Counted (sym (turn_commits (turned g c rows) r e))
          (let k : one (c == c) ≡ 1 = ap one (same_number c) in omega (arith, k, not_some r.committed (unset e)))
      by_test false e =
          subst Counted (sym (turn_stays (turned g c rows) r e))
          (let k : one (is_at c r.committed) ≡ 0 = ap one h.0 in omega (arith, k))

  -- ---- the next commit

  module _ (most n : ℕ) (left passed older : List Row) (r : Row) (next : CommitsNext g c n left passed older r) where
    abbrev behind : List Row
    behind = passed ++ older

    now : commit_row set c (turned g c behind) r ≡ record r { committed = Some c }
    now = turn_commits (turned g c behind) r next.commits

    counted_now : one (is_at c (commit_row set c (turned g c behind) r).committed) ≡ 1
    counted_now = ap (λ (x : Row). one (is_at c x.committed)) now ∙ ap one (same_number c)

    before_it : commits_now g c behind ≡ commits_now g c older
    before_it = omega (arith, next.before, next.after, now_counted r behind, counted_now)

    passed_still : turned g c behind ≡ passed ++ turned g c older
    passed_still = still passed older before_it

    all_young : Uncommitted c (left ++ (r ∷ behind))
    all_young = subst (Uncommitted c) next.rows uncommitted

    behind_young : Uncommitted c (r ∷ behind)
    behind_young = back_of (λ _ o. is_at c o.committed ≡ false) left (r ∷ behind) all_young

    left_young : Uncommitted c left
    left_young = front_of (λ o. is_at c o.committed ≡ false) left (r ∷ behind) all_young

    passed_young : Uncommitted c passed
    passed_young = front_of (λ o. is_at c o.committed ≡ false) passed older behind_young.1

    items : commit_items g c (turned g c (r ∷ behind)) ≡ commit_items g c (turned g c older) ++ shown_commit g c (length behind) r
    items =
        ap
        (λ (x : Row). commit_items g c (turned g c behind)
        ++ cond (is_at c x.committed) (Happened (record { cycle = c; row = length (turned g c behind); mark = mark.Committed }) ∷ map Committed (recorded_by g (step_of g.trace x.fetched.state))) [])
        now
        ∙ (ap
        (λ b. commit_items g c (turned g c behind)
        ++ cond b (Happened (record { cycle = c; row = length (turned g c behind); mark = mark.Committed }) ∷ map Committed (recorded_by g (step_of g.trace r.fetched.state))) [])
        (same_number c)
        ∙ (ap (λ k. commit_items g c (turned g c behind) ++ shown_commit g c k r) (swept_length (commit_row set c) behind)
        ∙ (ap (λ l. commit_items g c l ++ shown_commit g c (length behind) r) passed_still
        ∙ ap (λ l. l ++ shown_commit g c (length behind) r) (none_shown passed (turned g c older) passed_young))))

    open_before : last_commit set most c (turned g c behind) ≡ last_commit set most c (turned g c older)
    open_before = ap (last_commit set most c) passed_still ∙ none_last most passed (turned g c older) passed_young

    -- no younger row has committed
    unset : is_none r.committed ≡ true
    unset = the next.commits
      where
        the : commits set c (turned g c behind) r ≡ true → is_none r.committed ≡ true
        the e = grind (arith, and_parts)

    right : r.fetched.right ≡ true
    right = the next.commits
      where
        the : commits set c (turned g c behind) r ≡ true → r.fetched.right ≡ true
        the e = grind (arith, and_parts)

    younger_none : (ys : List Row) → Each (RowFacts set c) (ys ++ (r ∷ behind)) → Each (λ _ o. is_some o.committed ≡ false) ys
    younger_none [] h = tt
    younger_none (y ∷ ys) h = (by_mark y.committed h.0.order, younger_none ys h.1)
      where
        in_middle : (x : ℕ) (zs : List Row) → Each (λ _. InOrder x) (zs ++ (r ∷ behind)) → By x r.committed
        in_middle x [] k = k.0.before right
        in_middle x (z ∷ zs) k = in_middle x zs k.1

        not_by : (x : ℕ) (m : Option ℕ) → is_none m ≡ true → By x m → ⊥
        not_by x None e k = k
        not_by x (Some t) e k = cc

        by_mark : (m : Option ℕ) → Where m (CommitAllowed set (ys ++ (r ∷ behind)) y) → is_some m ≡ false
        by_mark None w = refl
        by_mark (Some x) w = absurd (not_by x r.committed unset (in_middle x ys w.order))

    none_left : commits_among left ≡ 0
    none_left = count_none (λ o. is_some o.committed) left (younger_none left (subst (Each (RowFacts set c)) next.rows (facts_table set c)))

    among : commits_among (table set c).rows ≡ commits_among (r ∷ behind)
    among =
        let all : commits_among (table set c).rows ≡ commits_among (left ++ (r ∷ behind)) = ap commits_among next.rows in
        omega (arith, all, count_append (λ o. is_some o.committed) left (r ∷ behind), none_left)

    among_then : commits_among (turned g c (r ∷ behind)) ≡ commits_among (table set c).rows + suc n
    among_then = omega (arith, all_counted (r ∷ behind) behind_young, among, next.after)

    is_last_now : is_last set most c (turned g c behind) (commit_row set c (turned g c behind) r) ≡ ends_run g c most n r
    is_last_now =
        ap (λ k. is_at c (commit_row set c (turned g c behind) r).committed && (is_exit set (commit_row set c (turned g c behind) r) || (k == most))) among_then
        ∙ (ap (λ (x : Row). is_at c x.committed && (is_exit set x || ((commits_among (table set c).rows + suc n) == most))) now
        ∙ ap (λ b. b && ends_run g c most n r) (same_number c))

    goes_on : last_commit set most c (turned g c older) ≡ None → ends_run g c most n r ≡ false → last_commit set most c (turned g c (r ∷ behind)) ≡ None
    goes_on e f =
        ap (λ m. or_else m (cond (is_last set most c (turned g c behind) (commit_row set c (turned g c behind) r)) (Some (length (turned g c behind))) None)) (open_before ∙ e)
        ∙ ap (λ b. cond b (Some (length (turned g c behind))) None) (is_last_now ∙ f)

    meets : last_commit set most c (turned g c older) ≡ None → ends_run g c most n r ≡ true → MeetsEnd set most c behind r
    meets e f = record { before = open_before ∙ e; last = is_last_now ∙ f }

    there : last_commit set most c (turned g c older) ≡ None → ends_run g c most n r ≡ true → EndsThere set most c left behind r
    there e f = ends_there set most c left behind r next.rows (meets e f)

    pub commit_is_shown : CommitIsShown g c most n passed older r
    commit_is_shown =
        record {
          items = items;
          goes_on = goes_on;
          last = λ e f. (there e f).number;
          ends = λ e f. ap (or_stop (stops_in set c (table set c))) (there e f).number;
          whole = λ e f. shown_at_commit g c (length behind) ∙ (ap (commit_items g c) (there e f).rows ∙ none_shown left (turned g c (r ∷ behind)) left_young);
        }

  -- ---- no more commits

  pub commits_are_over : (most n : ℕ) (younger older : List Row) → (table set c).rows ≡ younger ++ older → commits_now g c older ≡ n → commits_now g c (table set c).rows ≡ n
      → CommitsAreOver g c most n older
  commits_are_over most n younger older e before after =
      record {
        items = ap (commit_items g c) rows_then ∙ none_shown younger (turned g c older) young;
        last = last;
        goes_on = λ f. ap (or_stop (stops_in set c (table set c))) (last ∙ f);
        count = all_counted (table set c).rows uncommitted ∙ ap (λ k. commits_among (table set c).rows + k) after;
      }
    where
      young : Uncommitted c younger
      young = front_of (λ o. is_at c o.committed ≡ false) younger older (subst (Uncommitted c) e uncommitted)

      rows_then : turned g c (table set c).rows ≡ younger ++ turned g c older
      rows_then = ap (turned g c) e ∙ still younger older (sym (ap (commits_now g c) e) ∙ (after ∙ sym before))

      last : last_commit set most c (turned g c (table set c).rows) ≡ last_commit set most c (turned g c older)
      last = ap (last_commit set most c) rows_then ∙ none_last most younger (turned g c older) young
