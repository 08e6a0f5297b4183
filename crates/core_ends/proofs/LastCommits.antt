-- How many rows have committed with the commit that ends a run.
use Rattle.std.proofs.Common.{◌≡◌, ℕ, suc, ◌+◌, ◌<◌, ◌≤◌, Bool, true, false, cond, List, [], ◌∷◌, length, Option, Some, None, refl, sym, ap, ◌∙◌, subst, arith, inl, inr}
use Rattle.std.specs.Prelude.{◌⊎◌, ◌&&◌, ◌||◌, ◌==◌, nat_le, is_none, is_some, find, count_by}
use Rattle.std.proofs.lemmas.Bool.{and_parts, cond-true, cond-false, leb-true, eq-eqb, eqb-true, cases_lt, false_from_ne_true}
use Rattle.ooo_table.specs.Row.{Row, is_at, sweep}
use Rattle.ooo_table.specs.Table.{Setting}
use Rattle.ooo_table.specs.Path.{is_exit}
use Rattle.ooo_table.specs.Commit.{commits, commit_row}
use Rattle.ooo_table.specs.Ends.{commit_up_to, is_last, last_commit, or_else}
use Rattle.ooo_table.specs.Later.{Each, Where}
use Rattle.ooo_table.specs.Legal.{InOrder, CommitAllowed}
use Rattle.ooo_table.specs.CycleLaws.{RowFacts}
use Rattle.ooo_table.specs.RunLaws.{commits_among}
use Rattle.ooo_table.proofs.Counts.{both', count_cons, count_true, count_false}
use Rattle.ooo_table.proofs.Ends.{swept_length, same_commits}

abbrev has_committed : Row → Bool
has_committed r = is_some r.committed

-- no commit of the cycle is among these rows
abbrev pub Uncommitted : ℕ → List Row → Type 0
Uncommitted c rows = Each (λ _ o. is_at c o.committed ≡ false) rows

none_first : (a b : Option ℕ) → or_else a b ≡ None → a ≡ None
none_first None b e = refl
none_first (Some x) b e = absurd cc

none_second : (a b : Option ℕ) → or_else a b ≡ None → b ≡ None
none_second None b e = e
none_second (Some x) b e = absurd cc

none_chosen : (b : Bool) (n : ℕ) → cond b (Some n) None ≡ None → b ≡ false
none_chosen true n e = absurd cc
none_chosen false n e = refl

module _ (set : Setting) (c : ℕ) where
  abbrev turned : List Row → List Row
  turned rows = sweep (commit_row set c) rows

  turn_commits : (before : List Row) (o : Row) → commits set c before o ≡ true → commit_row set c before o ≡ record o { committed = Some c }
  turn_commits before o e = cond-true (commits set c before o) (record o { committed = Some c }) o e

  turn_stays : (before : List Row) (o : Row) → commits set c before o ≡ false → commit_row set c before o ≡ o
  turn_stays before o e = cond-false (commits set c before o) (record o { committed = Some c }) o e

  is_right : (before : List Row) (o : Row) → commits set c before o ≡ true → o.fetched.right ≡ true
  is_right before o e = grind (arith, and_parts)

  was_unset : (before : List Row) (o : Row) → commits set c before o ≡ true → is_none o.committed ≡ true
  was_unset before o e = grind (arith, and_parts)

  -- before a row that committed earlier no row commits any more
  none_turns : (x : ℕ) → x < c → (rows : List Row) → Each (λ _. InOrder x) (turned rows) → turned rows ≡ rows
  none_turns x lt [] h = refl
  none_turns x lt (o ∷ rows) h = by_commit (commits set c (turned rows) o) refl (none_turns x lt rows h.1)
    where
      by_commit : (b : Bool) → commits set c (turned rows) o ≡ b → turned rows ≡ rows → turned (o ∷ rows) ≡ o ∷ rows
      by_commit true e ih =
          let s : InOrder x (record o { committed = Some c }) = subst (InOrder x) (turn_commits (turned rows) o e) h.0 in
          let le : c ≤ x = s.before (is_right (turned rows) o e) in
          absurd (omega (arith, lt, le))
      by_commit false e ih = ap (λ s. s ∷ turned rows) (turn_stays (turned rows) o e) ∙ ap (λ l. o ∷ l) ih

  -- a turn of a row that had committed before leaves it
  turn_old : (before : List Row) (o : Row) (x : ℕ) → x < c → (commit_row set c before o).committed ≡ Some x → commit_row set c before o ≡ o
  turn_old before o x lt e = by_commit (commits set c before o) refl
    where
      same : (y z : ℕ) → Some y ≡ Some z → y ≡ z
      same y z f = cc

      by_commit : (b : Bool) → commits set c before o ≡ b → commit_row set c before o ≡ o
      by_commit true f = let k : c ≡ x = same c x (ap (λ s. s.committed) (sym (turn_commits before o f)) ∙ e) in absurd (omega (arith, lt, k))
      by_commit false f = turn_stays before o f

  module _ (most : ℕ) where
    none_last : (rows : List Row) → Uncommitted c rows → last_commit set most c rows ≡ None
    none_last [] u = refl
    none_last (o ∷ rows) u =
        ap (λ m. or_else m (cond (is_last set most c rows o) (Some (length rows)) None)) (none_last rows u.1)
        ∙ ap (λ b. cond (b && (is_exit set o || (count_by (λ o. is_some o.committed) (o ∷ rows) == most))) (Some (length rows)) None) u.0

    -- while no commit ends the run fewer rows than the budget have committed
    pub below : (rows : List Row) → Each (RowFacts set c) (turned rows) → commits_among rows < most → last_commit set most c (turned rows) ≡ None → commits_among (turned rows) < most
    below [] f lt e = lt
    below (r ∷ rows) f lt e =
        by_mark (below rows f.1 (omega (arith, lt, count_cons has_committed r rows)) none_behind) s.committed refl f.0.order f.0.committed_by
      where
        s : Row
        s = commit_row set c (turned rows) r

        none_behind : last_commit set most c (turned rows) ≡ None
        none_behind = none_first (last_commit set most c (turned rows)) (cond (is_last set most c (turned rows) s) (Some (length (turned rows))) None) e

        not_last : is_last set most c (turned rows) s ≡ false
        not_last =
            none_chosen (is_last set most c (turned rows) s) (length (turned rows))
            (none_second (last_commit set most c (turned rows)) (cond (is_last set most c (turned rows) s) (Some (length (turned rows))) None) e)

        unmet : (a b d : Bool) → a ≡ true → (a && (b || d)) ≡ false → d ≡ false
        unmet true true d e h = absurd cc
        unmet true false d e h = h
        unmet false b d e h = absurd cc

        number : (x y : ℕ) → x ≡ y → (x == y) ≡ true
        number x y e = eq-eqb x y e

        at_once : commits_among (turned rows) < most → s.committed ≡ Some c → commits_among (s ∷ turned rows) < most
        at_once ih k =
            let more : commits_among (s ∷ turned rows) ≡ 1 + commits_among (turned rows) = count_true has_committed s (turned rows) (ap is_some k) in
            let here : is_at c s.committed ≡ true = ap (is_at c) k ∙ number c c refl in
            let other : (commits_among (s ∷ turned rows) == most) ≡ false = unmet (is_at c s.committed) (is_exit set s) (commits_among (s ∷ turned rows) == most) here not_last in
            by_order (cases_lt (commits_among (s ∷ turned rows)) most) more other
          where
            by_order : (commits_among (s ∷ turned rows) < most) ⊎ (most ≤ commits_among (s ∷ turned rows)) → commits_among (s ∷ turned rows) ≡ 1 + commits_among (turned rows)
                → (commits_among (s ∷ turned rows) == most) ≡ false → commits_among (s ∷ turned rows) < most
            by_order (inl h) more other = h
            by_order (inr h) more other = absurd (both' (number (commits_among (s ∷ turned rows)) most (omega (arith, h, more, ih))) other)

        earlier : (x : ℕ) → x < c → s.committed ≡ Some x → CommitAllowed set (turned rows) s x → commits_among (s ∷ turned rows) < most
        earlier x before k w =
            let same : turned (r ∷ rows) ≡ r ∷ rows = ap (λ y. y ∷ turned rows) (turn_old (turned rows) r x before k) ∙ ap (λ l. r ∷ l) (none_turns x before rows w.order) in
            subst (λ l. commits_among l < most) (sym same) lt

        by_mark : commits_among (turned rows) < most → (m : Option ℕ) → s.committed ≡ m → Where m (CommitAllowed set (turned rows) s) → Where m (λ x. x ≤ c)
            → commits_among (s ∷ turned rows) < most
        by_mark ih None k w le = let less : commits_among (s ∷ turned rows) ≡ commits_among (turned rows) = count_false has_committed s (turned rows) (ap is_some k) in omega (arith, less, ih)
        by_mark ih (Some x) k w le = by_time (cases_lt x c)
          where
            by_time : (x < c) ⊎ (c ≤ x) → commits_among (s ∷ turned rows) < most
            by_time (inl before) = earlier x before k w
            by_time (inr ge) = let same : x ≡ c = omega (arith, ge, le) in at_once ih (k ∙ ap (λ y. Some y) same)

    -- with the commit that ends the run no more than the budget have, and as many where the newest one is no exit
    pub record Meets (all : List Row) : Type 0 where
      pub most_of : commits_among all ≤ most
      pub last : (commits_among all ≡ most) ⊎ ((m : Row) × (find (λ r. is_some r.committed) all ≡ Some m) × (is_exit set m ≡ true))

    within : (rows : List Row) (row : ℕ) → last_commit set most c rows ≡ Some row → row < length rows
    within [] row e = absurd cc
    within (o ∷ rows) row e = by_older (last_commit set most c rows) refl e (within rows row)
      where
        by_older : (m : Option ℕ) → last_commit set most c rows ≡ m → or_else m (cond (is_last set most c rows o) (Some (length rows)) None) ≡ Some row
            → (last_commit set most c rows ≡ Some row → row < length rows) → row < suc (length rows)
        by_older (Some x) f h ih = let k : row < length rows = ih (f ∙ h) in omega (arith, k)
        by_older None f h ih = by_self (is_last set most c rows o) h
          where
            by_self : (b : Bool) → cond b (Some (length rows)) None ≡ Some row → row < suc (length rows)
            by_self true k = let same : length rows ≡ row = cc in omega (arith, same)
            by_self false k = absurd cc

    pub meets : (rows : List Row) → Each (RowFacts set c) (turned rows) → Uncommitted c rows → commits_among rows < most
        → (row : ℕ) → last_commit set most c (turned rows) ≡ Some row → Meets (sweep (commit_up_to set row c) rows)
    meets [] f u lt row e = absurd cc
    meets (r ∷ rows) f u lt row e = by_older (last_commit set most c (turned rows)) refl e (meets rows f.1 u.1 less row)
      where
        s : Row
        s = commit_row set c (turned rows) r

        rest : List Row
        rest = sweep (commit_up_to set row c) rows

        less : commits_among rows < most
        less = omega (arith, lt, count_cons has_committed r rows)

        -- an older row ends it: this one has not committed
        unset : last_commit set most c (turned rows) ≡ Some row → (m : Option ℕ) → r.committed ≡ m → r.committed ≡ None
        unset k None h = h
        unset k (Some x) h = absurd (by_turn (cases_lt x c))
          where
            stays : s ≡ r
            stays = turn_stays (turned rows) r (false_from_ne_true _ (λ d. both' (was_unset (turned rows) r d) (ap is_none h)))

            mark : s.committed ≡ Some x
            mark = ap (λ y. y.committed) stays ∙ h

            where_some : (m : Option ℕ) (P : ℕ → Type 0) → m ≡ Some x → Where m P → P x
            where_some None P e w = absurd cc
            where_some (Some y) P e w = let same : y ≡ x = cc in subst P same w

            differ : None ≡ Some row → ⊥
            differ e = cc

            by_turn : (x < c) ⊎ (c ≤ x) → ⊥
            by_turn (inl before) =
                let w : CommitAllowed set (turned rows) s x = where_some s.committed (CommitAllowed set (turned rows) s) mark f.0.order in
                let none : last_commit set most c (turned rows) ≡ None = ap (last_commit set most c) (none_turns x before rows w.order) ∙ none_last rows u.1 in
                differ (sym none ∙ k)
            by_turn (inr ge) =
                let le : x ≤ c = where_some s.committed (λ y. y ≤ c) mark f.0.committed_by in
                let same : x ≡ c = omega (arith, ge, le) in
                both' (eq-eqb x c same) (sym (ap (is_at c) h) ∙ u.0)

        left : last_commit set most c (turned rows) ≡ Some row → sweep (commit_up_to set row c) (r ∷ rows) ≡ r ∷ rest
        left k =
            ap (λ y. y ∷ rest) (cond-false (nat_le (length rest) row) (commit_row set c rest r) r (false_from_ne_true _ (λ h. absurd (late (leb-true (length rest) row h)))))
          where
            late : length rest ≤ row → ⊥
            late h =
                let lt : row < length (turned rows) = within (turned rows) row k in
                omega (arith, h, lt, swept_length set (commit_up_to set row c) rows, swept_length set (commit_row set c) rows)

        older_ends : last_commit set most c (turned rows) ≡ Some row → Meets rest → Meets (sweep (commit_up_to set row c) (r ∷ rows))
        older_ends k ih =
            let none : is_some r.committed ≡ false = ap is_some (unset k r.committed refl) in
            let same : commits_among (r ∷ rest) ≡ commits_among rest = count_false has_committed r rest none in
            let found : find (λ r. is_some r.committed) (r ∷ rest) ≡ find (λ r. is_some r.committed) rest = ap (λ b. cond b (Some r) (find (λ r. is_some r.committed) rest)) none in
            subst Meets (sym (left k)) (record { most_of = omega (arith, same, ih.most_of); last = by_last same found ih.last })
          where
            by_last : commits_among (r ∷ rest) ≡ commits_among rest → find (λ r. is_some r.committed) (r ∷ rest) ≡ find (λ r. is_some r.committed) rest
                → (commits_among rest ≡ most) ⊎ ((m : Row) × (find (λ r. is_some r.committed) rest ≡ Some m) × (is_exit set m ≡ true))
                → (commits_among (r ∷ rest) ≡ most) ⊎ ((m : Row) × (find (λ r. is_some r.committed) (r ∷ rest) ≡ Some m) × (is_exit set m ≡ true))
            by_last same found (inl h) = inl (same ∙ h)
            by_last same found (inr (m, h, x)) = inr (m, found ∙ h, x)

        -- this one does
        whole_turn : length (turned rows) ≡ row → sweep (commit_up_to set row c) (r ∷ rows) ≡ s ∷ turned rows
        whole_turn n = same_commits set row c (r ∷ rows) (omega (arith, n, swept_length set (commit_row set c) rows))

        this_ends : last_commit set most c (turned rows) ≡ None → is_last set most c (turned rows) s ≡ true → length (turned rows) ≡ row → Meets (sweep (commit_up_to set row c) (r ∷ rows))
        this_ends k l n =
            let both : (is_at c s.committed ≡ true) × ((is_exit set s || (commits_among (s ∷ turned rows) == most)) ≡ true) = and_parts (is_at c s.committed) (is_exit set s || (commits_among (s ∷ turned rows) == most)) l in
            let mark : is_some s.committed ≡ true = some_at s.committed both.0 in
            let more : commits_among (s ∷ turned rows) ≡ 1 + commits_among (turned rows) = count_true has_committed s (turned rows) mark in
            let few : commits_among (turned rows) < most = below rows f.1 less k in
            let found : find (λ r. is_some r.committed) (s ∷ turned rows) ≡ Some s = ap (λ b. cond b (Some s) (find (λ r. is_some r.committed) (turned rows))) mark in
            subst Meets (sym (whole_turn n)) (record { most_of = omega (arith, more, few); last = by_either (is_exit set s) (commits_among (s ∷ turned rows) == most) refl refl both.1 found })
          where
            some_at : (m : Option ℕ) → is_at c m ≡ true → is_some m ≡ true
            some_at None h = absurd cc
            some_at (Some x) h = refl

            by_either : (a b : Bool) → is_exit set s ≡ a → (commits_among (s ∷ turned rows) == most) ≡ b → (a || b) ≡ true → find (λ r. is_some r.committed) (s ∷ turned rows) ≡ Some s
                → (commits_among (s ∷ turned rows) ≡ most) ⊎ ((m : Row) × (find (λ r. is_some r.committed) (s ∷ turned rows) ≡ Some m) × (is_exit set m ≡ true))
            by_either true b ea eb h found = inr (s, found, ea)
            by_either false true ea eb h found = inl (eqb-true (commits_among (s ∷ turned rows)) most eb)
            by_either false false ea eb h found = absurd cc

        by_older : (m : Option ℕ) → last_commit set most c (turned rows) ≡ m → or_else m (cond (is_last set most c (turned rows) s) (Some (length (turned rows))) None) ≡ Some row
            → (last_commit set most c (turned rows) ≡ Some row → Meets rest) → Meets (sweep (commit_up_to set row c) (r ∷ rows))
        by_older (Some x) k h ih = older_ends (k ∙ h) (ih (k ∙ h))
        by_older None k h ih = by_self (is_last set most c (turned rows) s) refl h
          where
            by_self : (b : Bool) → is_last set most c (turned rows) s ≡ b → cond b (Some (length (turned rows))) None ≡ Some row → Meets (sweep (commit_up_to set row c) (r ∷ rows))
            by_self true l h = let n : length (turned rows) ≡ row = cc in this_ends k l n
            by_self false l h = absurd cc
