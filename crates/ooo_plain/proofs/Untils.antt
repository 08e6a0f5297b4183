-- A commit stage that ends with the run, and where the machine stops.
use Rattle.std.proofs.Common.{◌≡◌, ℕ, zero, suc, ◌+◌, ◌-◌, ◌<◌, ◌≤◌, Bool, true, false, cond, List, [], ◌∷◌, length, Option, Some, None, take, drop, get_or, refl, sym, ap, ◌∙◌, subst, arith, length-drop}
use Rattle.std.specs.Prelude.{map, not, nat_le, nat_eq, ◌==◌, ◌&&◌, ◌||◌, count_by, is_some, if◌then◌else◌}
use Rattle.std.proofs.lemmas.Bool.{cond-false, leb-true, false_from_ne_true}
use Rattle.std.proofs.lemmas.List.{take_all}
use Rattle.ooo_table.specs.Row as table
use Rattle.ooo_table.specs.Row.{is_at, every, sweep}
use Rattle.ooo_table.specs.Table.{Setting}
use Rattle.ooo_table.specs.Path.{execution, is_exit}
use Rattle.ooo_table.specs.Done as done
use Rattle.ooo_table.specs.Commit.{commit_row}
use Rattle.ooo_table.specs.Dispatch.{is_first, stops_machine}
use Rattle.ooo_table.specs.Ends.{commit_up_to, or_else, is_last, last_commit}
use Rattle.ooo_table.proofs.Ends.{swept_length, same_commits}
use Rattle.ooo_plain.specs.declared.row.Row.{Row}
use Rattle.ooo_plain.specs.Kept.{kept, AreKept, Turned}
use Rattle.ooo_plain.specs.Until.{LeftUntil, SweptUntil}
use Rattle.ooo_plain.proofs.Sweeps.{cons_parts, drop_at, drop_past, same_item, take_shorter}

-- ---- the last commit

pub last_by : (set : Setting) (c most : ℕ) (d : Row) (olds : List table.Row) (r : table.Row) → d ≡ kept set r
    → (at ends answer : Bool) (n : ℕ) → at ≡ is_at c d.committed → n ≡ count_by (λ o. is_some o.committed) (r ∷ olds) → ends ≡ (d.exit || nat_eq n most) → answer ≡ (at && ends)
    → answer ≡ is_last set most c olds r
last_by set c most d olds r i at ends answer n e1 e2 e3 e4 =
    let end : ends ≡ (is_exit set r || nat_eq (count_by (λ o. is_some o.committed) (r ∷ olds)) most) =
    e3 ∙ (ap (λ x. x.exit || nat_eq n most) i ∙ ap (λ m. is_exit set r || nat_eq m most) e2) in
    e4 ∙ (ap (λ b. b && ends) (e1 ∙ ap (λ x. is_at c x.committed) i) ∙ ap (λ b. is_at c r.committed && b) end)

-- the first of the rows from a place on, those rows as a slice, and the number of the first
pub record At (set : Setting) (at : ℕ) (rows : List Row) (olds : List table.Row) (r : table.Row) (d : Row) : Type 0 where
  pub first : d ≡ kept set r
  pub rest : AreKept set (take (length rows - at) (drop at rows)) (r ∷ olds)
  pub number : length rows - at - 1 ≡ length olds

pub at_place : (set : Setting) (at : ℕ) (rows : List Row) (olds : List table.Row) (r : table.Row) (d : Row) → at < length rows → d ≡ get_or rows at d → AreKept set (drop at rows) (r ∷ olds) → At set at rows olds r d
at_place set at rows olds r d h is k =
    let parts : record { first : get_or rows at d ≡ kept set r; rest : drop (at + 1) rows ≡ map (kept set) olds } = cons_parts _ _ _ _ (sym (drop_at at rows d h) ∙ k) in
    let many : length (drop at rows) ≡ suc (length olds) = ap length k ∙ map_length (r ∷ olds) in
    record {
      first = is ∙ parts.first;
      rest = take_all (length rows - at) (drop at rows) (omega (arith, length-drop at rows)) ∙ k;
      number = omega (arith, many, length-drop at rows);
    }
  where
    map_length : (xs : List table.Row) → length (map (kept set) xs) ≡ length xs
    map_length [] = refl
    map_length (x ∷ xs) = ap suc (map_length xs)

-- no row behind the list is its last commit
within : (set : Setting) (most c n : ℕ) (rows : List table.Row) → last_commit set most c rows ≡ Some n → n < length rows
within set most c n [] e = absurd cc
within set most c n (r ∷ rows) e = by_case (last_commit set most c rows) refl (is_last set most c rows r) e (λ m. within set most c m rows)
  where
    by_case : (a : Option ℕ) → last_commit set most c rows ≡ a → (b : Bool) → or_else a (cond b (Some (length rows)) None) ≡ Some n
        → ((m : ℕ) → last_commit set most c rows ≡ Some m → m < length rows) → n < suc (length rows)
    by_case (Some m) f b e ih =
        let k : m ≡ n = cc in
        let lt : m < length rows = ih m f in
        omega (arith, k, lt)
    by_case None f true e ih = let k : length rows ≡ n = cc in omega (arith, k)
    by_case None f false e ih = absurd cc

-- ---- from a place on

pub until_end : (set : Setting) (c most at : ℕ) (old : List Row) → length old ≤ at → SweptUntil set c most at old old None
until_end set c most at old h =
    record {
      sweep = λ olds k. none olds k (sym (drop_past at old h) ∙ k);
      younger = refl;
      many = refl;
    }
  where
    none : (olds : List table.Row) → AreKept set (drop at old) olds → [] ≡ map (kept set) olds → LeftUntil set c most (drop at old) None olds
    none [] k e = record { last = refl; rows = k }
    none (o ∷ olds) k e = absurd cc

no_rows : (set : Setting) (at : ℕ) (old : List Row) → at < length old → AreKept set (drop at old) [] → ⊥
no_rows set at old h k = let e : length (drop at old) ≡ 0 = ap length k in omega (arith, h, e, length-drop at old)

pub until_here : (set : Setting) (c most at : ℕ) (old mid new : List Row) (ended answer : Option ℕ) → at < length old → ended ≡ None
    → SweptUntil set c most (at + 1) old mid ended → Turned set (commit_row set c) at mid new
    → ((olds : List table.Row) (r : table.Row) → AreKept set (drop at new) (r ∷ olds) → answer ≡ (if is_last set most c olds r then Some (length olds) else None))
    → SweptUntil set c most at old new answer
until_here set c most at old mid new ended answer h is before' turn said =
    let before : SweptUntil set c most (at + 1) old mid None = subst (λ o. SweptUntil set c most (at + 1) old mid o) is before' in
    record {
      sweep = λ olds k. from before olds k;
      younger = turn.younger ∙ take_shorter at mid old before.younger;
      many = turn.many ∙ before.many;
    }
  where
    none_before : (o a : Option ℕ) → None ≡ o → or_else o a ≡ a
    none_before None a e = refl
    none_before (Some x) a e = absurd cc

    left : (o : Option ℕ) (b : Bool) (rest : List table.Row) (r : table.Row) → o ≡ cond b (Some (length (sweep (commit_row set c) rest))) None
        → AreKept set (drop at new) (sweep (commit_row set c) (r ∷ rest)) → o ≡ last_commit set most c (sweep (commit_row set c) (r ∷ rest)) → LeftUntil set c most (drop at new) o (r ∷ rest)
    left None b rest r e k l = record { last = l; rows = k }
    left (Some n) false rest r e k l = absurd cc
    left (Some n) true rest r e k l =
        let is : n ≡ length (sweep (commit_row set c) rest) = cc in
        record {
          last = l;
          rows = k ∙ sym (ap (map (kept set)) (same_commits set n c (r ∷ rest) (omega (arith, is, swept_length set (commit_row set c) rest))));
        }

    from : SweptUntil set c most (at + 1) old mid None → (olds : List table.Row) → AreKept set (drop at old) olds → LeftUntil set c most (drop at new) answer olds
    from before [] k = absurd (no_rows set at old h k)
    from before (r ∷ rest) k =
        let d : Row = kept set r in
        let parts : record { first : get_or old at d ≡ kept set r; rest : drop (at + 1) old ≡ map (kept set) rest } = cons_parts _ _ _ _ (sym (drop_at at old d h) ∙ k) in
        let inside : at < length mid = omega (arith, before.many) in
        let was : get_or mid at d ≡ kept set r = same_item at mid old d before.younger ∙ parts.first in
        let b : LeftUntil set c most (drop (at + 1) mid) None rest = before.sweep rest parts.rest in
        let have : AreKept set (drop at mid) (r ∷ sweep (commit_row set c) rest) = drop_at at mid d inside ∙ (ap (λ x. x ∷ drop (at + 1) mid) was ∙ ap (λ l. kept set r ∷ l) b.rows) in
        let now : AreKept set (drop at new) (sweep (commit_row set c) (r ∷ rest)) = turn.turn (sweep (commit_row set c) rest) r have in
        let e : answer ≡ (if is_last set most c (sweep (commit_row set c) rest) (commit_row set c (sweep (commit_row set c) rest) r) then Some (length (sweep (commit_row set c) rest)) else None) =
        said (sweep (commit_row set c) rest) (commit_row set c (sweep (commit_row set c) rest) r) now in
        left answer (is_last set most c (sweep (commit_row set c) rest) (commit_row set c (sweep (commit_row set c) rest) r)) rest r e now (e ∙ sym (none_before _ _ b.last))

pub until_passed : (set : Setting) (c most at row : ℕ) (old new : List Row) (ended : Option ℕ) → at < length old → ended ≡ Some row
    → SweptUntil set c most (at + 1) old new ended → SweptUntil set c most at old new (Some row)
until_passed set c most at row old new ended h is before' =
    let before : SweptUntil set c most (at + 1) old new (Some row) = subst (λ o. SweptUntil set c most (at + 1) old new o) is before' in
    record {
      sweep = λ olds k. from before olds k;
      younger = take_shorter at new old before.younger;
      many = before.many;
    }
  where
    first : (o a : Option ℕ) → Some row ≡ o → Some row ≡ or_else o a
    first None a e = absurd cc
    first (Some x) a e = e

    from : SweptUntil set c most (at + 1) old new (Some row) → (olds : List table.Row) → AreKept set (drop at old) olds → LeftUntil set c most (drop at new) (Some row) olds
    from before [] k = absurd (no_rows set at old h k)
    from before (r ∷ rest) k =
        let d : Row = kept set r in
        let parts : record { first : get_or old at d ≡ kept set r; rest : drop (at + 1) old ≡ map (kept set) rest } = cons_parts _ _ _ _ (sym (drop_at at old d h) ∙ k) in
        let inside : at < length new = omega (arith, before.many) in
        let was : get_or new at d ≡ kept set r = same_item at new old d before.younger ∙ parts.first in
        let b : LeftUntil set c most (drop (at + 1) new) (Some row) rest = before.sweep rest parts.rest in
        let lt : row < length (sweep (commit_row set c) rest) = within set most c row (sweep (commit_row set c) rest) (sym b.last) in
        let a : List table.Row = sweep (commit_up_to set row c) rest in
        let late : nat_le (length a) row ≡ false = false_from_ne_true _ (λ f. over rest lt (leb-true (length (sweep (commit_up_to set row c) rest)) row f)) in
        let stays : commit_up_to set row c a r ≡ r = cond-false (nat_le (length a) row) (commit_row set c a r) r late in
        record {
          last = first _ _ b.last;
          rows = drop_at at new d inside ∙ (ap (λ x. x ∷ drop (at + 1) new) was ∙ (ap (λ l. kept set r ∷ l) b.rows ∙ ap (λ x. kept set x ∷ map (kept set) a) (sym stays)));
        }
      where
        over : (rest : List table.Row) → row < length (sweep (commit_row set c) rest) → length (sweep (commit_up_to set row c) rest) ≤ row → ⊥
        over rest lt le = omega (arith, lt, le, swept_length set (commit_row set c) rest, swept_length set (commit_up_to set row c) rest)

-- ---- the stop

pub stops_by : (set : Setting) (c : ℕ) (d : Row) (olds : List table.Row) (r : table.Row) → d ≡ kept set r
    → (first ready answer : Bool) (n : ℕ) → first ≡ is_first set c olds r → n ≡ count_by done.live olds → ready ≡ (first && d.stops) → answer ≡ (ready && nat_eq n 0)
    → answer ≡ stops_machine set c olds r
stops_by set c d olds r i first ready answer n e1 e2 e3 e4 =
    let one : ready ≡ (is_first set c olds r && r.fetched.right && (execution set r).stops) =
    e3 ∙ (ap (λ b. b && d.stops) e1 ∙ (ap (λ x. is_first set c olds r && x.stops) i ∙ grouped (is_first set c olds r) r.fetched.right (execution set r).stops)) in
    e4 ∙ (ap (λ b. b && nat_eq n 0) one ∙ ap (λ m. (is_first set c olds r && r.fetched.right && (execution set r).stops) && nat_eq m 0) e2)
  where
    grouped : (a b s : Bool) → (a && (b && s)) ≡ (a && b && s)
    grouped true b s = refl
    grouped false b s = refl

pub stop_next : (set : Setting) (c : ℕ) (olds : List table.Row) (r : table.Row) (others : List table.Row) → olds ≡ r ∷ others
    → (here later answer : Bool) → here ≡ stops_machine set c others r → later ≡ not (every (λ older o. not (stops_machine set c older o)) others) → answer ≡ (here || later)
    → answer ≡ not (every (λ older o. not (stops_machine set c older o)) olds)
stop_next set c olds r others is here later answer e1 e2 e3 =
    e3 ∙ (ap (λ b. b || later) e1 ∙ (ap (λ b. stops_machine set c others r || b) e2
    ∙ (joined (stops_machine set c others r) (every (λ older o. not (stops_machine set c older o)) others)
    ∙ sym (ap (λ l. not (every (λ older o. not (stops_machine set c older o)) l)) is))))
  where
    joined : (a b : Bool) → (a || not b) ≡ not (not a && b)
    joined true b = refl
    joined false b = refl

pub stop_none : (set : Setting) (c : ℕ) (rows : List Row) (olds : List table.Row) → length rows ≡ 0 → AreKept set rows olds → false ≡ not (every (λ older o. not (stops_machine set c older o)) olds)
stop_none set c rows [] h k = refl
stop_none set c [] (o ∷ olds) h k = absurd cc
stop_none set c (x ∷ rows) (o ∷ olds) h k = absurd cc
