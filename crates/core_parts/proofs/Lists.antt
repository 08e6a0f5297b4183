-- Facts on lists of rows, for the stages.
use Rattle.std.proofs.Common.{◌≡◌, ℕ, ◌+◌, Bool, true, false, cond, List, [], ◌∷◌, ◌++◌, Option, Some, None, refl, ap, ◌∙◌, arith, length, length-append}
use Rattle.std.specs.Prelude.{◌&&◌, ◌||◌, ◌==◌, filter_map, count_by}
use Rattle.std.specs.List.{AllZip, list_any, list_all, cons_option}
use Rattle.std.proofs.lemmas.Bool.Decides.{nat_tests}
use Rattle.std.proofs.lemmas.List.Sums.{sum_by-cons}
use Rattle.ooo_table.specs.Row.{Row, sweep}
use Rattle.core_parts.specs.Rows.{pick, newest_number}

-- ---- tests

pub and_false : (b : Bool) → (b && false) ≡ false
and_false true = refl
and_false false = refl

pub or_false : (b : Bool) → (b || false) ≡ b
or_false true = refl
or_false false = refl

pub same_number : (c : ℕ) → (c == c) ≡ true
same_number c = grind (arith, nat_tests)

-- ---- lists

pub map_some : {X Y : Type 0} (f : X → Option Y) (x : X) (xs : List X) (y : Y) → f x ≡ Some y → filter_map f (x ∷ xs) ≡ y ∷ filter_map f xs
map_some f x xs y e = rw e refl

pub map_none : {X Y : Type 0} (f : X → Option Y) (x : X) (xs : List X) → f x ≡ None → filter_map f (x ∷ xs) ≡ filter_map f xs
map_none f x xs e = rw e refl

pub count_cons : {X : Type 0} (p : X → Bool) (x : X) (xs : List X) → count_by p (x ∷ xs) ≡ cond (p x) 1 0 + count_by p xs
count_cons p x xs = sum_by-cons (λ y. cond {A = ℕ} (p y) 1 0) x xs

pub count_skip : {X : Type 0} (p : X → Bool) (x : X) (xs : List X) → p x ≡ false → count_by p (x ∷ xs) ≡ count_by p xs
count_skip p x xs e = let k : cond {A = ℕ} (p x) 1 0 ≡ 0 = ap (λ b. cond {A = ℕ} b 1 0) e in omega (arith, count_cons p x xs, k)

pub count_take : {X : Type 0} (p : X → Bool) (x : X) (xs : List X) → p x ≡ true → count_by p (x ∷ xs) ≡ 1 + count_by p xs
count_take p x xs e = let k : cond {A = ℕ} (p x) 1 0 ≡ 1 = ap (λ b. cond {A = ℕ} b 1 0) e in omega (arith, count_cons p x xs, k)

pub zip_length : {A B : Type 0} (R : A → B → Type 0) (xs : List A) (ys : List B) → AllZip R xs ys → length xs ≡ length ys
zip_length R [] [] z = refl
zip_length R (x ∷ xs) (y ∷ ys) z = omega (arith, zip_length R xs ys z.1)
zip_length R [] (y ∷ ys) z = absurd z
zip_length R (x ∷ xs) [] z = absurd z

-- a test that two related lists agree on
pub zip_any : {A B : Type 0} (R : A → B → Type 0) (p : A → Bool) (q : B → Bool) (xs : List A) (ys : List B) → ((x : A) (y : B) → R x y → p x ≡ q y) → AllZip R xs ys → list_any p xs ≡ list_any q ys
zip_any R p q [] [] h z = refl
zip_any R p q (x ∷ xs) (y ∷ ys) h z = ap (λ b. b || list_any p xs) (h x y z.0) ∙ ap (λ b. q y || b) (zip_any R p q xs ys h z.1)
zip_any R p q [] (y ∷ ys) h z = absurd z
zip_any R p q (x ∷ xs) [] h z = absurd z

pub zip_all : {A B : Type 0} (R : A → B → Type 0) (p : A → Bool) (q : B → Bool) (xs : List A) (ys : List B) → ((x : A) (y : B) → R x y → p x ≡ q y) → AllZip R xs ys → list_all p xs ≡ list_all q ys
zip_all R p q [] [] h z = refl
zip_all R p q (x ∷ xs) (y ∷ ys) h z = ap (λ b. b && list_all p xs) (h x y z.0) ∙ ap (λ b. q y && b) (zip_all R p q xs ys h z.1)
zip_all R p q [] (y ∷ ys) h z = absurd z
zip_all R p q (x ∷ xs) [] h z = absurd z

-- lists that are put together alike, and end in as many
pub same_end : {X : Type 0} (xs ys zs ws : List X) → xs ++ ys ≡ zs ++ ws → length ys ≡ length ws → ys ≡ ws
same_end [] ys [] ws e n = e
same_end (x ∷ xs) ys (z ∷ zs) ws e n = same_end xs ys zs ws (tail e) n
  where
    tail : x ∷ (xs ++ ys) ≡ z ∷ (zs ++ ws) → xs ++ ys ≡ zs ++ ws
    tail e = cc
same_end [] ys (z ∷ zs) ws e n = absurd (omega (arith, ap length e, length-append (z ∷ zs) ws, n))
same_end (x ∷ xs) ys [] ws e n = absurd (omega (arith, ap length e, length-append (x ∷ xs) ys, n))

-- and begin alike
pub same_front : {X : Type 0} (xs ys zs : List X) → xs ++ zs ≡ ys ++ zs → xs ≡ ys
same_front [] [] zs e = refl
same_front (x ∷ xs) (y ∷ ys) zs e = let h : x ≡ y = head e in rw h (ap (λ l. y ∷ l) (same_front xs ys zs (tail e)))
  where
    head : x ∷ (xs ++ zs) ≡ y ∷ (ys ++ zs) → x ≡ y
    head e = cc

    tail : x ∷ (xs ++ zs) ≡ y ∷ (ys ++ zs) → xs ++ zs ≡ ys ++ zs
    tail e = cc
same_front [] (y ∷ ys) zs e = absurd (omega (arith, ap length e, length-append (y ∷ ys) zs))
same_front (x ∷ xs) [] zs e = absurd (omega (arith, ap length e, length-append (x ∷ xs) zs))

-- ---- sweeps

pub count_sweep : (p : Row → Bool) (f : List Row → Row → Row) → ((before : List Row) (r : Row) → p (f before r) ≡ p r) → (rows : List Row) → count_by p (sweep f rows) ≡ count_by p rows
count_sweep p f same [] = refl
count_sweep p f same (r ∷ rows) =
    let e : cond {A = ℕ} (p (f (sweep f rows) r)) 1 0 ≡ cond {A = ℕ} (p r) 1 0 = ap (λ b. cond {A = ℕ} b 1 0) (same (sweep f rows) r) in
    omega (arith, count_cons p (f (sweep f rows) r) (sweep f rows), count_cons p r rows, e, count_sweep p f same rows)

pub map_sweep : {Y : Type 0} (g : Row → Option Y) (f : List Row → Row → Row) → ((before : List Row) (r : Row) → g (f before r) ≡ g r) → (rows : List Row) → filter_map g (sweep f rows) ≡ filter_map g rows
map_sweep g f same [] = refl
map_sweep g f same (r ∷ rows) = ap (λ o. cons_option o (filter_map g (sweep f rows))) (same (sweep f rows) r) ∙ ap (cons_option (g r)) (map_sweep g f same rows)

pub length_sweep : (f : List Row → Row → Row) (rows : List Row) → length (sweep f rows) ≡ length rows
length_sweep f [] = refl
length_sweep f (r ∷ rows) = omega (arith, length_sweep f rows)

-- ---- rows of a kind

pub pick_skip : (p : Row → Bool) (r : Row) (rows : List Row) → p r ≡ false → pick p (r ∷ rows) ≡ pick p rows
pick_skip p r rows e = ap (λ b. cond b (record { row = r; older = rows } ∷ pick p rows) (pick p rows)) e

pub pick_take : (p : Row → Bool) (r : Row) (rows : List Row) → p r ≡ true → pick p (r ∷ rows) ≡ record { row = r; older = rows } ∷ pick p rows
pick_take p r rows e = ap (λ b. cond b (record { row = r; older = rows } ∷ pick p rows) (pick p rows)) e

pub pick_length : (p : Row → Bool) (rows : List Row) → length (pick p rows) ≡ count_by p rows
pick_length p [] = refl
pick_length p (r ∷ rows) = by_case (p r) (count_cons p r rows) (pick_length p rows)
  where
    by_case : (b : Bool) → count_by p (r ∷ rows) ≡ cond b 1 0 + count_by p rows → length (pick p rows) ≡ count_by p rows
        → length (cond b (record { row = r; older = rows } ∷ pick p rows) (pick p rows)) ≡ count_by p (r ∷ rows)
    by_case true e ih = omega (arith, e, ih)
    by_case false e ih = omega (arith, e, ih)

pub newest_skip : (p : Row → Bool) (r : Row) (rows : List Row) → p r ≡ false → newest_number p (r ∷ rows) ≡ newest_number p rows
newest_skip p r rows e = ap (λ b. cond b (Some (length rows)) (newest_number p rows)) e
