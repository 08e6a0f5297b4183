-- Numbers whose magnitudes are cut at the greatest of a counter.
use Rattle.std.proofs.Common.{◌≡◌, ◌+◌, ◌-◌, ◌*◌, ◌^◌, ◌<◌, ◌≤◌, ◌∙◌, ℕ, List, [], ◌∷◌, min, length, get_or, drop, refl, sym, ap, arith, add-one, drop-cons}
use Rattle.std.proofs.lemmas.List.{drop_all}
use Rattle.pisa_asm.specs.Tokens.{decimal_on, hex_digit_value, hex_on}

abbrev pub most : ℕ
most = 2 ^ 64 - 1

pub decimal_cut : (n : ℕ) (ds : List ℕ) → min (decimal_on (min n most) ds) most ≡ min (decimal_on n ds) most
decimal_cut n [] = omega arith
decimal_cut n (d ∷ ds) =
    sym (decimal_cut (10 * min n most + (d - 48)) ds)
    ∙ ap (λ m. min (decimal_on m ds) most) (omega arith)
    ∙ decimal_cut (10 * n + (d - 48)) ds

pub hex_cut : (n : ℕ) (ds : List ℕ) → min (hex_on (min n most) ds) most ≡ min (hex_on n ds) most
hex_cut n [] = omega arith
hex_cut n (d ∷ ds) =
    sym (hex_cut (16 * min n most + hex_digit_value d) ds)
    ∙ ap (λ m. min (hex_on m ds) most) (omega arith)
    ∙ hex_cut (16 * n + hex_digit_value d) ds

-- a turn of a loop over digits, and its end
pub decimal_step : (ds : List ℕ) (i value next : ℕ) (total : ℕ) → i < length ds → next ≡ min (10 * value + (get_or ds i 0 - 48)) most
    → min (decimal_on value (drop i ds)) most ≡ total → min (decimal_on next (drop (i + 1) ds)) most ≡ total
decimal_step ds i value next total h e so_far =
    let p : drop i ds ≡ get_or ds i 0 ∷ drop (i + 1) ds = rw (add-one, drop-cons ds i 0) refl in
    ap (λ n. min (decimal_on n (drop (i + 1) ds)) most) e
    ∙ decimal_cut (10 * value + (get_or ds i 0 - 48)) (drop (i + 1) ds)
    ∙ sym (ap (λ (xs : List ℕ). min (decimal_on value xs) most) p) ∙ so_far

pub decimal_end : (ds : List ℕ) (i value total : ℕ) → length ds ≤ i → value ≤ most → min (decimal_on value (drop i ds)) most ≡ total → value ≡ total
decimal_end ds i value total h small so_far =
    let p : drop i ds ≡ [] = drop_all i ds h in
    let q = sym (ap (λ (xs : List ℕ). min (decimal_on value xs) most) p) ∙ so_far in
    omega (arith, q)

pub hex_step : (ds : List ℕ) (i value next : ℕ) (total : ℕ) → i < length ds → next ≡ min (16 * value + hex_digit_value (get_or ds i 0)) most
    → min (hex_on value (drop i ds)) most ≡ total → min (hex_on next (drop (i + 1) ds)) most ≡ total
hex_step ds i value next total h e so_far =
    let p : drop i ds ≡ get_or ds i 0 ∷ drop (i + 1) ds = rw (add-one, drop-cons ds i 0) refl in
    ap (λ n. min (hex_on n (drop (i + 1) ds)) most) e
    ∙ hex_cut (16 * value + hex_digit_value (get_or ds i 0)) (drop (i + 1) ds)
    ∙ sym (ap (λ (xs : List ℕ). min (hex_on value xs) most) p) ∙ so_far

pub hex_end : (ds : List ℕ) (i value total : ℕ) → length ds ≤ i → value ≤ most → min (hex_on value (drop i ds)) most ≡ total → value ≡ total
hex_end ds i value total h small so_far =
    let p : drop i ds ≡ [] = drop_all i ds h in
    let q = sym (ap (λ (xs : List ℕ). min (hex_on value xs) most) p) ∙ so_far in
    omega (arith, q)
