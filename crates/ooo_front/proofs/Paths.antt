-- The rows of a ring, and that they are one predicted path.
use Rattle.std.proofs.Common.{◌≡◌, ℕ, ◌+◌, ◌-◌, ◌<◌, ◌≤◌, Some, cond, Bool, true, false, List, [], ◌∷◌, ◌++◌, All, length, refl, sym, ap, subst, ◌∙◌, arith, length-append}
use Rattle.std.specs.Prelude.{reverse, slice_get, max, ◌&&◌}
use Rattle.std.proofs.lemmas.List.{reverse-append}
use Rattle.std.proofs.lemmas.List.Elements.{All-nil, All-cons, All-weaker}
use Rattle.std.proofs.lemmas.List.Kept.{AllPairs-cons}
use Rattle.std.proofs.lemmas.Bool.{eqb-true}
use Rattle.ooo_front.specs.declared.row.FetchRow.{FetchRow}
use Rattle.ooo_front.specs.Fetching.{FrontEnd, goes_on, earliest_after}
use Rattle.ooo_front.specs.Path.{IsPath, IsBefore, AreInOrder}
use Rattle.ooo_front.specs.Stands.{IsNext, oldest}

-- ---- the rows of a ring

pub pushed : (xs : List FetchRow) (r : FetchRow) → reverse (xs ++ r ∷ []) ≡ r ∷ reverse xs
pushed xs r = reverse-append xs (r ∷ [])

pub first_last : (r : FetchRow) (xs : List FetchRow) → reverse (r ∷ xs) ≡ reverse xs ++ r ∷ []
first_last r xs = reverse-append (r ∷ []) xs

length_all_but : (xs : List FetchRow) (r : FetchRow) → length (xs ++ r ∷ []) - 1 ≡ length xs
length_all_but xs r = omega (arith, length-append xs (r ∷ []))

pub last_of : (xs : List FetchRow) (r : FetchRow) → oldest (xs ++ r ∷ []) ≡ Some r
last_of xs r = ap (λ n. slice_get (xs ++ r ∷ []) n) (length_all_but xs r) ∙ at_end xs
  where
    at_end : (xs : List FetchRow) → slice_get (xs ++ r ∷ []) (length xs) ≡ Some r
    at_end [] = refl
    at_end (x ∷ xs) = at_end xs

pub first_row : (xs : List FetchRow) → oldest (reverse xs) ≡ slice_get xs 0
first_row [] = refl
first_row (r ∷ xs) = ap oldest (first_last r xs) ∙ last_of (reverse xs) r

-- ---- the earliest cycle behind a row

pub earliest_bounds : (r : FetchRow) → r.fetched ≤ r.queued → r.queued ≤ earliest_after r
earliest_bounds r le = by_test (goes_on r) refl
  where
    both_left : (a b : Bool) → (a && b) ≡ true → a ≡ true
    both_left true b e = refl
    both_left false b e = e

    by_test : (b : Bool) → goes_on r ≡ b → r.queued ≤ cond b r.fetched (max (r.fetched + 1) r.queued)
    by_test true e =
        let same : r.queued ≡ r.fetched = eqb-true r.queued r.fetched (both_left _ _ e) in
        omega (arith, same)
    by_test false e = omega arith

-- ---- paths

pub path_later : (rows : List FetchRow) (row pc m n : ℕ) → m ≤ n → IsPath rows row pc m → IsPath rows row pc n
path_later [] row pc m n le h = tt
path_later (r ∷ older) row pc m n le h =
    (record { row = h.0.row; pc = h.0.pc; cycle = omega (arith, h.0.cycle); queued = h.0.queued }, h.1)

pub path_put : (f : FrontEnd) (r : FetchRow) (cycle : ℕ) → IsPath f.rows f.row f.pc f.earliest → IsNext f r cycle → f.earliest ≤ r.fetched → r.fetched ≤ r.queued
    → IsPath (r ∷ f.rows) (r.row + 1) r.next (earliest_after r)
path_put f r cycle h next le later = (
  record { row = refl; pc = refl; cycle = omega arith; queued = later },
  subst (λ n. IsPath f.rows n r.pc r.fetched) (sym next.row)
      (subst (λ a. IsPath f.rows f.row a r.fetched) (sym next.pc) (path_later f.rows f.row f.pc f.earliest r.fetched le h)),
)

pub path_front : (rows : List FetchRow) (r : FetchRow) (row pc cycle : ℕ) → IsPath (rows ++ r ∷ []) row pc cycle → IsPath rows row pc cycle
path_front [] r row pc cycle h = tt
path_front (x ∷ rows) r row pc cycle h = (h.0, path_front rows r x.row x.pc x.fetched h.1)

-- every row of a path is below its next row, and is queued by its next cycle
pub record IsBelow (number at : ℕ) (r : FetchRow) : Type 0 where
  pub row : r.row < number
  pub queued : r.queued ≤ at

pub path_below : (rows : List FetchRow) (row pc cycle : ℕ) → IsPath rows row pc cycle → All (IsBelow row cycle) rows
path_below [] row pc cycle h = All-nil (IsBelow row cycle)
path_below (r ∷ older) row pc cycle h =
    All-cons (IsBelow row cycle) r older (record { row = omega (arith, h.0.row); queued = omega (arith, early, h.0.cycle) })
    (All-weaker (IsBelow r.row r.fetched) (IsBelow row cycle) (λ x b. record { row = omega (arith, b.row, h.0.row); queued = omega (arith, b.queued, early, h.0.cycle, h.0.queued) }) older (path_below older r.row r.pc r.fetched h.1))
  where
    early : r.queued ≤ earliest_after r
    early = earliest_bounds r h.0.queued

pub path_in_order : (rows : List FetchRow) (row pc cycle : ℕ) → IsPath rows row pc cycle → AreInOrder rows
path_in_order [] row pc cycle h = λ i j d lt within. absurd (omega arith)
path_in_order (r ∷ older) row pc cycle h =
    AllPairs-cons IsBefore r older
    (All-weaker (IsBelow r.row r.fetched) (IsBefore r) (λ x b. record { row = b.row; queued = omega (arith, b.queued, h.0.queued) }) older (path_below older r.row r.pc r.fetched h.1))
    (path_in_order older r.row r.pc r.fetched h.1)

-- no row of a path is queued before its oldest one
pub path_above : (rows : List FetchRow) (r : FetchRow) (row pc cycle : ℕ) → IsPath (rows ++ r ∷ []) row pc cycle → All (λ (x : FetchRow). r.queued ≤ x.queued) (rows ++ r ∷ []) × (r.queued ≤ cycle)
path_above [] r row pc cycle h =
    (All-cons (λ (x : FetchRow). r.queued ≤ x.queued) r [] (omega arith) (All-nil (λ (x : FetchRow). r.queued ≤ x.queued)), omega (arith, earliest_bounds r h.0.queued, h.0.cycle))
path_above (x ∷ rows) r row pc cycle h =
    let rest = path_above rows r x.row x.pc x.fetched h.1 in (
      All-cons (λ (y : FetchRow). r.queued ≤ y.queued) x (rows ++ r ∷ []) (omega (arith, rest.1, h.0.queued)) rest.0,
      omega (arith, rest.1, h.0.queued, earliest_bounds x h.0.queued, h.0.cycle),
    )
