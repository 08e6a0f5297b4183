-- How many rows pass a test before and after a sweep.
use Rattle.std.proofs.Common.{◌≡◌, ℕ, ◌+◌, Bool, true, false, cond, List, [], ◌∷◌, ◌++◌, refl, ap, ◌∙◌, arith, length}
use Rattle.std.specs.Prelude.{count_by}
use Rattle.std.proofs.lemmas.List.Sums.{sum_by-append}
use Rattle.ooo_table.specs.Row.{Row, sweep}
use Rattle.ooo_table.specs.Later.{Each}
use Rattle.ooo_table.proofs.Counts.{one, count_cons}

pub count_append : (p : Row → Bool) (xs ys : List Row) → count_by p (xs ++ ys) ≡ count_by p xs + count_by p ys
count_append p xs ys = sum_by-append (λ x. cond {A = ℕ} (p x) 1 0) xs ys

-- each row passes after its turn where it passed before or passes the test of the stage
pub swept_sum : (p p' q : Row → Bool) (f : List Row → Row → Row) (P : Row → Type 0)
    → ((before : List Row) (r : Row) → P r → one (p' (f before r)) ≡ one (p r) + one (q (f before r)))
    → (rows : List Row) → Each (λ _. P) rows → count_by p' (sweep f rows) ≡ count_by p rows + count_by q (sweep f rows)
swept_sum p p' q f P step [] h = refl
swept_sum p p' q f P step (r ∷ rows) h =
    omega (arith, swept_sum p p' q f P step rows h.1, step (sweep f rows) r h.0, count_cons p' (f (sweep f rows) r) (sweep f rows), count_cons q (f (sweep f rows) r) (sweep f rows), count_cons p r rows)

-- where a turn leaves the test as it is
pub swept_same : (p p' : Row → Bool) (f : List Row → Row → Row) (P : Row → Type 0)
    → ((before : List Row) (r : Row) → P r → p' (f before r) ≡ p r)
    → (rows : List Row) → Each (λ _. P) rows → count_by p' (sweep f rows) ≡ count_by p rows
swept_same p p' f P step [] h = refl
swept_same p p' f P step (r ∷ rows) h =
    omega (arith, swept_same p p' f P step rows h.1, ap one (step (sweep f rows) r h.0), count_cons p' (f (sweep f rows) r) (sweep f rows), count_cons p r rows)

pub swept_length : (f : List Row → Row → Row) (rows : List Row) → length (sweep f rows) ≡ length rows
swept_length f [] = refl
swept_length f (r ∷ rows) = omega (arith, swept_length f rows)

-- no row at all
pub any_row : (rows : List Row) → Each (λ _ _. Unit {0}) rows
any_row [] = tt
any_row (r ∷ rows) = (tt, any_row rows)

-- a fact of rows that each turn keeps
pub swept_each : (P : Row → Type 0) (f : List Row → Row → Row) → ((before : List Row) (r : Row) → P r → P (f before r))
    → (rows : List Row) → Each (λ _. P) rows → Each (λ _. P) (sweep f rows)
swept_each P f step [] h = tt
swept_each P f step (r ∷ rows) h = (step (sweep f rows) r h.0, swept_each P f step rows h.1)
