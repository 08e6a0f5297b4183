-- The last rows of lists, and the oldest row of a kind.
use Rattle.std.proofs.Common.{◌≡◌, ◌+◌, ◌-◌, ◌<◌, Bool, true, false, cond, List, [], ◌∷◌, ◌++◌, Some, refl, sym, ap, ◌∙◌, subst, arith, inl, inr, length, take}
use Rattle.std.specs.Prelude.{◌⊎◌, slice_get}
use Rattle.std.specs.List.{AllZip}
use Rattle.std.proofs.lemmas.List.{take_more}
use Rattle.std.proofs.lemmas.Option.{slice_get_within, get_or_from_slice_get}
use Rattle.ooo_table.specs.Row.{Row}
use Rattle.core_parts.specs.Rows.{Placed, pick}

all_taken : {X : Type 0} (xs : List X) → take (length xs) xs ≡ xs
all_taken [] = refl
all_taken (x ∷ xs) = ap (λ l. x ∷ l) (all_taken xs)

-- a list whose last item is x ends in it
pub ends_in : {X : Type 0} (xs : List X) (x : X) → slice_get xs (length xs - 1) ≡ Some x → xs ≡ take (length xs - 1) xs ++ (x ∷ [])
ends_in xs x e =
    let inside : length xs - 1 < length xs = slice_get_within xs (length xs - 1) x e in
    let n : length xs ≡ (length xs - 1) + 1 = omega (arith, inside) in
    sym (all_taken xs)
    ∙ (ap (λ k. take k xs) n
    ∙ (take_more xs (length xs - 1) x inside ∙ ap (λ y. take (length xs - 1) xs ++ (y ∷ [])) (get_or_from_slice_get xs (length xs - 1) x x e)))

-- of two related lists the last items are related
pub zip_end : {A B : Type 0} (R : A → B → Type 0) (xs : List A) (x : A) (ys : List B) → AllZip R (xs ++ (x ∷ [])) ys
    → (zs : List B) × (y : B) × (ys ≡ zs ++ (y ∷ [])) × R x y × AllZip R xs zs
zip_end R [] x [] z = absurd z
zip_end R [] x (y ∷ []) z = ([], y, refl, z.0, tt)
zip_end R [] x (y ∷ (w ∷ ys)) z = absurd z.1
zip_end R (a ∷ xs) x [] z = absurd z
zip_end R (a ∷ xs) x (y ∷ ys) z =
    let (zs, l, e, h, rest) = zip_end R xs x ys z.1 in (y ∷ zs, l, ap (λ l. y ∷ l) e, h, (z.0, rest))

-- the oldest row of a kind
pub record Oldest (p : Row → Bool) (younger rest : List Row) (q : Placed) : Type 0 where
  pub left : List Row
  pub row : Row
  pub passed : List Row
  pub is : younger ≡ left ++ (row ∷ passed)
  pub place : q ≡ record { row = row; older = passed ++ rest }
  pub passes : p row ≡ true
  pub none : pick p (passed ++ rest) ≡ []

first_is : {X : Type 0} (x : X) (xs : List X) (qs : List X) (q : X) → x ∷ xs ≡ qs ++ (q ∷ [])
    → ((xs ≡ []) × (x ≡ q)) ⊎ ((ws : List X) × (xs ≡ ws ++ (q ∷ [])))
first_is x xs [] q e = inl (cc, cc)
first_is x xs (y ∷ qs) q e = inr (qs, cc)

pub oldest_of : (p : Row → Bool) (younger rest : List Row) (qs : List Placed) (q : Placed) → pick p rest ≡ []
    → pick p (younger ++ rest) ≡ qs ++ (q ∷ []) → Oldest p younger rest q
oldest_of p [] rest qs q none e = absurd (filled qs (sym none ∙ e))
  where
    filled : (qs : List Placed) → [] ≡ qs ++ (q ∷ []) → ⊥
    filled [] e = cc
    filled (w ∷ qs) e = cc
oldest_of p (y ∷ younger) rest qs q none e = by_case (p y) refl e (λ ws h. oldest_of p younger rest ws q none h)
  where
    deeper : Oldest p younger rest q → Oldest p (y ∷ younger) rest q
    deeper o = record { left = y ∷ o.left; row = o.row; passed = o.passed; is = ap (λ l. y ∷ l) o.is; place = o.place; passes = o.passes; none = o.none }

    by_place : p y ≡ true → ((pick p (younger ++ rest) ≡ []) × (record { row = y; older = younger ++ rest } ≡ q)) ⊎ ((ws : List Placed) × (pick p (younger ++ rest) ≡ ws ++ (q ∷ [])))
        → ((ws : List Placed) → pick p (younger ++ rest) ≡ ws ++ (q ∷ []) → Oldest p younger rest q) → Oldest p (y ∷ younger) rest q
    by_place t (inl (f, g)) ih = record { left = []; row = y; passed = younger; is = refl; place = sym g; passes = t; none = f }
    by_place t (inr (ws, f)) ih = deeper (ih ws f)

    by_case : (b : Bool) → p y ≡ b → cond b (record { row = y; older = younger ++ rest } ∷ pick p (younger ++ rest)) (pick p (younger ++ rest)) ≡ qs ++ (q ∷ [])
        → ((ws : List Placed) → pick p (younger ++ rest) ≡ ws ++ (q ∷ []) → Oldest p younger rest q) → Oldest p (y ∷ younger) rest q
    by_case true t f ih = by_place t (first_is (record { row = y; older = younger ++ rest }) (pick p (younger ++ rest)) qs q f) ih
    by_case false t f ih = deeper (ih qs f)

-- ---- one row in the middle changes

-- it leaves the rows of its kind, of which it was the oldest
pub zip_without : {A : Type 0} (R : A → Placed → Type 0) (p : Row → Bool) (left rest : List Row) (r r' : Row) (xs : List A) (x : A)
    → ((x : A) (y : Row) (ys : List Row) → R x (record { row = y; older = ys ++ (r ∷ rest) }) → R x (record { row = y; older = ys ++ (r' ∷ rest) }))
    → p r ≡ true → p r' ≡ false → pick p rest ≡ []
    → AllZip R (xs ++ (x ∷ [])) (pick p (left ++ (r ∷ rest))) → AllZip R xs (pick p (left ++ (r' ∷ rest)))
zip_without {A = A} R p [] rest r r' xs x stable t f none z =
    subst (AllZip R xs) (sym after) (alone xs (subst (AllZip R (xs ++ (x ∷ []))) before z))
  where
    before : pick p (r ∷ rest) ≡ record { row = r; older = rest } ∷ []
    before = ap (λ b. cond b (record { row = r; older = rest } ∷ pick p rest) (pick p rest)) t ∙ ap (λ l. record { row = r; older = rest } ∷ l) none

    after : pick p (r' ∷ rest) ≡ []
    after = ap (λ b. cond b (record { row = r'; older = rest } ∷ pick p rest) (pick p rest)) f ∙ none

    alone : (xs : List A) → AllZip R (xs ++ (x ∷ [])) (record { row = r; older = rest } ∷ []) → AllZip R xs []
    alone [] z = tt
    alone (y ∷ []) z = absurd z.1
    alone (y ∷ (w ∷ xs)) z = absurd z.1
zip_without {A = A} R p (y ∷ left) rest r r' xs x stable t f none z =
    by_case (p y) xs z (λ ws. zip_without R p left rest r r' ws x stable t f none)
  where
    some : (left : List Row) → pick p (left ++ (r ∷ rest)) ≡ [] → ⊥
    some [] e =
        let g : cond true (record { row = r; older = rest } ∷ pick p rest) (pick p rest) ≡ [] = subst (λ b. cond b (record { row = r; older = rest } ∷ pick p rest) (pick p rest) ≡ []) t e in cc
    some (w ∷ left) e = by_kind (p w) e (some left)
      where
        by_kind : (b : Bool) → cond b (record { row = w; older = left ++ (r ∷ rest) } ∷ pick p (left ++ (r ∷ rest))) (pick p (left ++ (r ∷ rest))) ≡ []
            → (pick p (left ++ (r ∷ rest)) ≡ [] → ⊥) → ⊥
        by_kind true e ih = cc
        by_kind false e ih = ih e

    filled : (ps : List Placed) → pick p (left ++ (r ∷ rest)) ≡ ps → AllZip R [] ps → ⊥
    filled [] e z = some left e
    filled (q ∷ ps) e z = z

    by_case : (b : Bool) (xs : List A)
        → AllZip R (xs ++ (x ∷ [])) (cond b (record { row = y; older = left ++ (r ∷ rest) } ∷ pick p (left ++ (r ∷ rest))) (pick p (left ++ (r ∷ rest))))
        → ((ws : List A) → AllZip R (ws ++ (x ∷ [])) (pick p (left ++ (r ∷ rest))) → AllZip R ws (pick p (left ++ (r' ∷ rest))))
        → AllZip R xs (cond b (record { row = y; older = left ++ (r' ∷ rest) } ∷ pick p (left ++ (r' ∷ rest))) (pick p (left ++ (r' ∷ rest))))
    by_case true [] z ih = absurd (filled (pick p (left ++ (r ∷ rest))) refl z.1)
    by_case true (w ∷ xs) z ih = (stable w y left z.0, ih xs z.1)
    by_case false xs z ih = ih xs z

-- it was none of them and is none
pub zip_beside : {A : Type 0} (R : A → Placed → Type 0) (p : Row → Bool) (left rest : List Row) (r r' : Row) (xs : List A)
    → ((x : A) (y : Row) (ys : List Row) → R x (record { row = y; older = ys ++ (r ∷ rest) }) → R x (record { row = y; older = ys ++ (r' ∷ rest) }))
    → p r ≡ false → p r' ≡ false
    → AllZip R xs (pick p (left ++ (r ∷ rest))) → AllZip R xs (pick p (left ++ (r' ∷ rest)))
zip_beside R p [] rest r r' xs stable t f z =
    subst (λ b. AllZip R xs (cond b (record { row = r'; older = rest } ∷ pick p rest) (pick p rest))) (sym f)
    (subst (λ b. AllZip R xs (cond b (record { row = r; older = rest } ∷ pick p rest) (pick p rest))) t z)
zip_beside {A = A} R p (y ∷ left) rest r r' xs stable t f z = by_case (p y) xs z (λ ws. zip_beside R p left rest r r' ws stable t f)
  where
    by_case : (b : Bool) (xs : List A)
        → AllZip R xs (cond b (record { row = y; older = left ++ (r ∷ rest) } ∷ pick p (left ++ (r ∷ rest))) (pick p (left ++ (r ∷ rest))))
        → ((ws : List A) → AllZip R ws (pick p (left ++ (r ∷ rest))) → AllZip R ws (pick p (left ++ (r' ∷ rest))))
        → AllZip R xs (cond b (record { row = y; older = left ++ (r' ∷ rest) } ∷ pick p (left ++ (r' ∷ rest))) (pick p (left ++ (r' ∷ rest))))
    by_case true [] z ih = absurd z
    by_case true (w ∷ xs) z ih = (stable w y left z.0, ih xs z.1)
    by_case false xs z ih = ih xs z
