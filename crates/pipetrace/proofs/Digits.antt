-- Loops over decimal digits.
use Rattle.std.proofs.Common.{◌≡◌, ◌+◌, ◌-◌, ◌*◌, ◌^◌, ◌<◌, ◌≤◌, ◌∙◌, ℕ, suc, Bool, true, false, cond, List, [], ◌∷◌, min, length, get_or, drop, refl, sym, ap, arith, add-one, drop-cons}
use Rattle.std.specs.Char.{is_ascii_digit}
use Rattle.std.proofs.lemmas.List.{drop_all}
use Rattle.pipetrace.specs.Reading.{decimal_on, digit_count}

cell : (bs : List ℕ) (i : ℕ) → i < length bs → drop i bs ≡ get_or bs i 0 ∷ drop (i + 1) bs
cell bs i h = rw (add-one, drop-cons bs i 0) refl

-- ---- how many digits stand in front

count_cell : (b : ℕ) (bs : List ℕ) (p : Bool) → is_ascii_digit b ≡ p → digit_count (b ∷ bs) ≡ cond p (suc (digit_count bs)) 0
count_cell b bs p e = ap (λ x. cond x (suc (digit_count bs)) 0) e

pub count_next : (bs : List ℕ) (i total : ℕ) → i < length bs → is_ascii_digit (get_or bs i 0) ≡ true → i + digit_count (drop i bs) ≡ total → i + 1 + digit_count (drop (i + 1) bs) ≡ total
count_next bs i total h e so_far =
    let here : digit_count (drop i bs) ≡ suc (digit_count (drop (i + 1) bs)) = ap digit_count (cell bs i h) ∙ count_cell (get_or bs i 0) (drop (i + 1) bs) true e in
    omega arith

pub count_stops : (bs : List ℕ) (i total : ℕ) → i < length bs → is_ascii_digit (get_or bs i 0) ≡ false → i + digit_count (drop i bs) ≡ total → i ≡ total
count_stops bs i total h e so_far =
    let here : digit_count (drop i bs) ≡ 0 = ap digit_count (cell bs i h) ∙ count_cell (get_or bs i 0) (drop (i + 1) bs) false e in
    omega arith

pub count_ends : (bs : List ℕ) (i total : ℕ) → length bs ≡ i → i + digit_count (drop i bs) ≡ total → length bs ≡ total
count_ends bs i total h so_far =
    let here : digit_count (drop i bs) ≡ 0 = ap digit_count (drop_all i bs (omega arith)) in
    omega arith

-- ---- their number, cut at the greatest of a counter

abbrev pub most : ℕ
most = 2 ^ 64 - 1

decimal_cut : (n : ℕ) (ds : List ℕ) → min (decimal_on (min n most) ds) most ≡ min (decimal_on n ds) most
decimal_cut n [] = omega arith
decimal_cut n (d ∷ ds) =
    sym (decimal_cut (10 * min n most + (d - 48)) ds)
    ∙ ap (λ m. min (decimal_on m ds) most) (omega arith)
    ∙ decimal_cut (10 * n + (d - 48)) ds

pub decimal_next : (ds : List ℕ) (i value next : ℕ) (total : ℕ) → i < length ds → next ≡ min (10 * value + (get_or ds i 0 - 48)) most
    → min (decimal_on value (drop i ds)) most ≡ total → min (decimal_on next (drop (i + 1) ds)) most ≡ total
decimal_next ds i value next total h e so_far =
    ap (λ n. min (decimal_on n (drop (i + 1) ds)) most) e
    ∙ decimal_cut (10 * value + (get_or ds i 0 - 48)) (drop (i + 1) ds)
    ∙ sym (ap (λ (xs : List ℕ). min (decimal_on value xs) most) (cell ds i h)) ∙ so_far

pub decimal_end : (ds : List ℕ) (i value total : ℕ) → length ds ≤ i → value ≤ most → min (decimal_on value (drop i ds)) most ≡ total → value ≡ total
decimal_end ds i value total h small so_far =
    let q = sym (ap (λ (xs : List ℕ). min (decimal_on value xs) most) (drop_all i ds h)) ∙ so_far in
    omega (arith, q)
