-- The commits of a cycle among rows: how many, which is the last, and what is shown of them.
use Rattle.std.proofs.Common.{◌≡◌, ℕ, ◌+◌, ◌≤◌, Bool, true, false, cond, List, [], ◌∷◌, ◌++◌, length, Option, Some, None, refl, sym, ap, ◌∙◌, subst, arith, append-nil}
use Rattle.std.specs.Prelude.{◌&&◌, ◌||◌, ◌==◌, is_some, find, count_by}
use Rattle.std.proofs.lemmas.Bool.{and_parts, eqb-true, eq-eqb, false_from_ne_true}
use Rattle.ooo_table.specs.Row.{Row, is_at, sweep}
use Rattle.ooo_table.specs.Table.{Setting}
use Rattle.ooo_table.specs.Path.{is_exit}
use Rattle.ooo_table.specs.Commit.{commits, commit_row}
use Rattle.ooo_table.specs.Cycle.{table}
use Rattle.ooo_table.specs.Ends.{or_else, is_last, last_commit}
use Rattle.ooo_table.specs.Later.{Each, Where, By, Past}
use Rattle.ooo_table.specs.Legal.{CommitAllowed, InOrder}
use Rattle.ooo_table.specs.CycleLaws.{RowFacts}
use Rattle.ooo_table.specs.Machine.{Given}
use Rattle.ooo_table.proofs.Marks.{none_of}
use Rattle.ooo_table.proofs.Deadlines.{each_split}
use Rattle.ooo_table.proofs.Counts.{past_table}
use Rattle.ooo_table.proofs.Over.{each_map, not_at}
use Rattle.core_parts.proofs.Lists.{count_cons, count_skip, count_take, same_number}
use Rattle.core_watch.specs.Shown.{Shown}
use Rattle.core_watch.specs.StageItems.{commit_items}
use Rattle.core_watch.specs.StageItemsLaws.{shown_commit}

abbrev pub has_committed : Row → Bool
has_committed r = is_some r.committed

-- the row with its commit at c
abbrev pub marked : ℕ → Row → Row
marked c r = record r { committed = Some c }

-- no row of these commits at c
abbrev pub NoneAt : ℕ → List Row → Type 0
NoneAt c rows = Each (λ _ o. is_at c o.committed ≡ false) rows

-- ---- lists

pub joint : {X : Type 0} (xs ys zs : List X) → (xs ++ ys) ++ zs ≡ xs ++ (ys ++ zs)
joint [] ys zs = refl
joint (x ∷ xs) ys zs = ap (λ l. x ∷ l) (joint xs ys zs)

pub count_join : (p : Row → Bool) (xs ys : List Row) → count_by p (xs ++ ys) ≡ count_by p xs + count_by p ys
count_join p [] ys = omega arith
count_join p (x ∷ xs) ys = omega (arith, count_cons p x (xs ++ ys), count_cons p x xs, count_join p xs ys)

pub count_none : (p : Row → Bool) (rows : List Row) → Each (λ _ o. p o ≡ false) rows → count_by p rows ≡ 0
count_none p [] h = refl
count_none p (r ∷ rows) h = count_skip p r rows h.0 ∙ count_none p rows h.1

pub none_counted : (p : Row → Bool) (rows : List Row) → count_by p rows ≡ 0 → Each (λ _ o. p o ≡ false) rows
none_counted p [] e = tt
none_counted p (r ∷ rows) e = by_test (p r) refl (λ k. none_counted p rows k)
  where
    by_test : (b : Bool) → p r ≡ b → (count_by p rows ≡ 0 → Each (λ _ o. p o ≡ false) rows) → (p r ≡ false) × Each (λ _ o. p o ≡ false) rows
    by_test true h ih = absurd (omega (arith, e, count_take p r rows h))
    by_test false h ih = (h, ih (omega (arith, e, count_skip p r rows h)))

pub find_over : (p : Row → Bool) (young rest : List Row) → Each (λ _ o. p o ≡ false) young → find p (young ++ rest) ≡ find p rest
find_over p [] rest h = refl
find_over p (y ∷ young) rest h = ap (λ b. cond b (Some y) (find p (young ++ rest))) h.0 ∙ find_over p young rest h.1

-- ---- the last commit

or_none : (a : Option ℕ) → or_else a None ≡ a
or_none None = refl
or_none (Some x) = refl

pub last_over : (set : Setting) (most c : ℕ) (young rest : List Row) → NoneAt c young → last_commit set most c (young ++ rest) ≡ last_commit set most c rest
last_over set most c [] rest h = refl
last_over set most c (y ∷ young) rest h =
    ap
    (λ b.
    or_else (last_commit set most c (young ++ rest))
    (cond (b && (is_exit set y || (count_by (λ o. is_some o.committed) (y ∷ (young ++ rest)) == most))) (Some (length (young ++ rest))) None))
    h.0
    ∙ (or_none (last_commit set most c (young ++ rest)) ∙ last_over set most c young rest h.1)

-- the last one is no older than rows of which none was
pub last_within : (set : Setting) (most c row : ℕ) (young rest : List Row) → last_commit set most c rest ≡ None → last_commit set most c (young ++ rest) ≡ Some row → length rest ≤ row
last_within set most c row [] rest n e = absurd (neither n e)
  where
    neither : {o : Option ℕ} → o ≡ None → o ≡ Some row → ⊥
    neither n e = cc
last_within set most c row (y ∷ young) rest n e = by_older (last_commit set most c (young ++ rest)) (is_last set most c (young ++ rest) y) e (λ k. last_within set most c row young rest n k)
  where
    longer : (ys : List Row) → length rest ≤ length (ys ++ rest)
    longer [] = omega arith
    longer (x ∷ ys) = let h : length rest ≤ length (ys ++ rest) = longer ys in omega (arith, h)

    by_here : (b : Bool) → cond b (Some (length (young ++ rest))) None ≡ Some row → length rest ≤ row
    by_here true e = let k : length (young ++ rest) ≡ row = cc in omega (arith, k, longer young)
    by_here false e = absurd cc

    by_older : (o : Option ℕ) (b : Bool) → or_else o (cond b (Some (length (young ++ rest))) None) ≡ Some row → (o ≡ Some row → length rest ≤ row) → length rest ≤ row
    by_older None b e ih = by_here b e
    by_older (Some x) b e ih = ih e

-- ---- what is shown

pub items_over : (g : Given) (c : ℕ) (young rest : List Row) → NoneAt c young → commit_items g c (young ++ rest) ≡ commit_items g c rest
items_over g c [] rest h = refl
items_over g c (y ∷ young) rest h =
    ap (λ b. commit_items g c (young ++ rest) ++ cond b (shown_commit g c (length (young ++ rest)) y) []) h.0
    ∙ (append-nil (commit_items g c (young ++ rest)) ∙ items_over g c young rest h.1)

-- behind what is shown of the older rows stands what is shown of the younger ones
pub items_more : (g : Given) (c : ℕ) (young rest : List Row) → (more : List Shown) × (commit_items g c (young ++ rest) ≡ commit_items g c rest ++ more)
items_more g c [] rest = ([], sym (append-nil (commit_items g c rest)))
items_more g c (y ∷ young) rest =
    let ih : (more : List Shown) × (commit_items g c (young ++ rest) ≡ commit_items g c rest ++ more) = items_more g c young rest in
    let here : List Shown = cond (is_at c y.committed) (shown_commit g c (length (young ++ rest)) y) [] in
    (ih.0 ++ here, ap (λ l. l ++ here) ih.1 ∙ joint (commit_items g c rest) ih.0 here)

-- ---- marks

-- a row that commits is right and hasn't committed before
pub right_fresh : (set : Setting) (c : ℕ) (older : List Row) (r : Row) → commits set c older r ≡ true → (r.fetched.right ≡ true) × (r.committed ≡ None)
right_fresh set c older r e = (right e, fresh e)
  where
    right : commits set c older r ≡ true → r.fetched.right ≡ true
    right e = grind (arith, and_parts)

    fresh : commits set c older r ≡ true → r.committed ≡ None
    fresh e = grind (arith, none_of, and_parts)

-- the turns add the commits of the cycle to those before
pub count_swept : (set : Setting) (c : ℕ) (rows : List Row) → NoneAt c rows
    → count_by has_committed (sweep (commit_row set c) rows) ≡ count_by has_committed rows + count_by (λ o. is_at c o.committed) (sweep (commit_row set c) rows)
count_swept set c [] h = omega arith
count_swept set c (r ∷ rows) h = by_test (commits set c (sweep (commit_row set c) rows) r) refl (count_swept set c rows h.1)
  where
    by_test : (b : Bool) → commits set c (sweep (commit_row set c) rows) r ≡ b
        → count_by has_committed (sweep (commit_row set c) rows) ≡ count_by has_committed rows + count_by (λ o. is_at c o.committed) (sweep (commit_row set c) rows)
        → count_by has_committed (cond b (marked c r) r ∷ sweep (commit_row set c) rows)
        ≡ count_by has_committed (r ∷ rows) + count_by (λ o. is_at c o.committed) (cond b (marked c r) r ∷ sweep (commit_row set c) rows)
    by_test true e ih =
        omega (
          arith,
          ih,
          count_take has_committed (marked c r) (sweep (commit_row set c) rows) refl,
          count_skip has_committed r rows (ap is_some (right_fresh set c (sweep (commit_row set c) rows) r e).1),
          count_take (λ o. is_at c o.committed) (marked c r) (sweep (commit_row set c) rows) (same_number c),
        )
    by_test false e ih =
        omega (
          arith,
          ih,
          count_cons has_committed r (sweep (commit_row set c) rows),
          count_cons has_committed r rows,
          count_skip (λ o. is_at c o.committed) r (sweep (commit_row set c) rows) h.0,
        )

-- no row behind a right one that hasn't committed has
pub none_behind : (set : Setting) (c : ℕ) (left rest : List Row) (r : Row) → r.fetched.right ≡ true → r.committed ≡ None → Each (RowFacts set c) (left ++ (r ∷ rest))
    → Each (λ _ o. is_some o.committed ≡ false) left
none_behind set c [] rest r w e f = tt
none_behind set c (y ∷ left) rest r w e f = (unset y.committed f.0.order, none_behind set c left rest r w e f.1)
  where
    by_none : (x : ℕ) (m : Option ℕ) → m ≡ None → By x m → ⊥
    by_none x None f h = h
    by_none x (Some z) f h = cc

    unset : (m : Option ℕ) → Where m (CommitAllowed set (left ++ (r ∷ rest)) y) → is_some m ≡ false
    unset None h = refl
    unset (Some x) h = absurd (by_none x r.committed e ((each_split (λ _. InOrder x) left rest r h.order).0.before w))

-- two numbers above another are the same exactly where they are as far above it
pub shifted : (k n m : ℕ) → ((k + n) == (k + m)) ≡ (n == m)
shifted k n m = by_test (n == m) refl
  where
    same : k + n ≡ k + m → n ≡ m
    same h = omega (arith, h)

    unequal : (n == m) ≡ false → (n == m) ≡ true → ⊥
    unequal e f = cc

    by_test : (b : Bool) → (n == m) ≡ b → ((k + n) == (k + m)) ≡ b
    by_test true e = let h : n ≡ m = eqb-true n m e in eq-eqb (k + n) (k + m) (ap (λ x. k + x) h)
    by_test false e = false_from_ne_true ((k + n) == (k + m)) (λ h. unequal e (eq-eqb n m (same (eqb-true (k + n) (k + m) h))))

-- no row of the table has a commit of this cycle before the stage
pub not_yet : (set : Setting) (c : ℕ) (rows : List Row) → (table set c).rows ≡ rows → NoneAt c rows
not_yet set c rows e =
    subst (NoneAt c) e
    (each_map (Past c) (λ o. is_at c o.committed ≡ false) (λ o h. not_at c o.committed h.committed) (table set c).rows (past_table set c))

pub front_none : (c : ℕ) (young rest : List Row) → NoneAt c (young ++ rest) → NoneAt c young
front_none c [] rest h = tt
front_none c (y ∷ young) rest h = (h.0, front_none c young rest h.1)
