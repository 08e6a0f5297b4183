-- Lists of kept rows: the first of them, and what is asked of all.
use Rattle.std.proofs.Common.{◌≡◌, ℕ, zero, suc, ◌+◌, ◌-◌, ◌<◌, ◌≤◌, Bool, true, false, cond, List, [], ◌∷◌, length, take, drop, get_or, refl, sym, ap, ◌∙◌, arith, add_comm, zero-add}
use Rattle.std.specs.Prelude.{map, count_by, find, ◌&&◌, ◌||◌}
use Rattle.std.specs.List.{list_all, list_any}
use Rattle.std.proofs.lemmas.List.Sums.{sum_by-cons}
use Rattle.ooo_table.specs.Row as table
use Rattle.ooo_table.specs.Table.{Setting}
use Rattle.ooo_plain.specs.declared.row.Row.{Row}
use Rattle.ooo_plain.specs.Kept.{kept, AreKept}

-- a slice without its first item
abbrev pub rest : {X : Type 0} → List X → List X
rest xs = take (length xs - 1) (drop 1 xs)

pub rest-cons : {X : Type 0} (x : X) (xs : List X) → rest (x ∷ xs) ≡ xs
rest-cons {X = X} x xs = ap (λ n. take n xs) (omega arith) ∙ whole xs
  where
    whole : (ys : List X) → take (length ys) ys ≡ ys
    whole [] = refl
    whole (y ∷ ys) = ap (λ l. y ∷ l) (whole ys)

-- kept rows have a first one where the rows have
pub record First (set : Setting) (rows : List Row) (d : Row) (olds : List table.Row) : Type 0 where
  pub row : table.Row
  pub others : List table.Row
  pub is : olds ≡ row ∷ others
  pub first : d ≡ kept set row
  pub rest : AreKept set (rest rows) others

pub first_of : (set : Setting) (rows : List Row) (d : Row) (olds : List table.Row) → 1 ≤ length rows → d ≡ get_or rows 0 d → AreKept set rows olds → First set rows d olds
first_of set [] d olds h e k = absurd (omega arith)
first_of set (x ∷ rows) d [] h e k = absurd cc
first_of set (x ∷ rows) d (o ∷ olds) h e k =
    let heads : x ≡ kept set o = ap (λ l. get_or l 0 x) k in
    let tails : rows ≡ map (kept set) olds = ap (λ l. drop 1 l) k in
    record { row = o; others = olds; is = refl; first = e ∙ heads; rest = rest-cons x rows ∙ tails }

pub list_all-kept : (set : Setting) (p : Row → Bool) (q : table.Row → Bool) → ((r : table.Row) → p (kept set r) ≡ q r) → (rows : List Row) (olds : List table.Row) → AreKept set rows olds → list_all p rows ≡ list_all q olds
list_all-kept set p q h rows olds k = ap (list_all p) k ∙ go olds
  where
    go : (xs : List table.Row) → list_all p (map (kept set) xs) ≡ list_all q xs
    go [] = refl
    go (x ∷ xs) = ap (λ b. b && list_all p (map (kept set) xs)) (h x) ∙ ap (λ b. q x && b) (go xs)

pub list_any-kept : (set : Setting) (p : Row → Bool) (q : table.Row → Bool) → ((r : table.Row) → p (kept set r) ≡ q r) → (rows : List Row) (olds : List table.Row) → AreKept set rows olds → list_any p rows ≡ list_any q olds
list_any-kept set p q h rows olds k = ap (list_any p) k ∙ go olds
  where
    go : (xs : List table.Row) → list_any p (map (kept set) xs) ≡ list_any q xs
    go [] = refl
    go (x ∷ xs) = ap (λ b. b || list_any p (map (kept set) xs)) (h x) ∙ ap (λ b. q x || b) (go xs)

pub count_by-kept : (set : Setting) (p : Row → Bool) (q : table.Row → Bool) → ((r : table.Row) → p (kept set r) ≡ q r) → (rows : List Row) (olds : List table.Row) → AreKept set rows olds → count_by p rows ≡ count_by q olds
count_by-kept set p q h rows olds k = ap (count_by p) k ∙ go olds
  where
    go : (xs : List table.Row) → count_by p (map (kept set) xs) ≡ count_by q xs
    go [] = refl
    go (x ∷ xs) =
        sum_by-cons (λ y. cond (p y) 1 0) (kept set x) (map (kept set) xs)
        ∙ (ap (λ b. cond b 1 0 + count_by p (map (kept set) xs)) (h x) ∙ (ap (λ n. cond (q x) 1 0 + n) (go xs) ∙ sym (sum_by-cons (λ y. cond (q y) 1 0) x xs)))

-- ---- all of a list, by its first item

pub all_next : {X : Type 0} (q : X → Bool) (xs : List X) (d : X) → 1 ≤ length xs → q (get_or xs 0 d) ≡ true → (answer : Bool) → answer ≡ list_all q (rest xs) → answer ≡ list_all q xs
all_next q [] d h e answer k = absurd (omega arith)
all_next q (x ∷ xs) d h e answer k = k ∙ (ap (list_all q) (rest-cons x xs) ∙ sym (ap (λ b. b && list_all q xs) e))

pub all_fails : {X : Type 0} (q : X → Bool) (xs : List X) (d : X) → 1 ≤ length xs → (answer : Bool) → answer ≡ q (get_or xs 0 d) → answer ≡ false → answer ≡ list_all q xs
all_fails q [] d h answer e k = absurd (omega arith)
all_fails q (x ∷ xs) d h answer e k = k ∙ sym (ap (λ b. b && list_all q xs) (sym e ∙ k))

-- ---- counts, by the first item

pub count_next : {X : Type 0} (q : X → Bool) (xs : List X) (x : X) (others : List X) → xs ≡ x ∷ others → q x ≡ true → (n : ℕ) → n ≡ count_by q others → n + 1 ≡ count_by q xs
count_next q xs x others is passes n e =
    ap (λ m. m + 1) e ∙ (add_comm (count_by q others) 1 ∙ sym (ap (count_by q) is ∙ (sum_by-cons (λ y. cond (q y) 1 0) x others ∙ ap (λ b. cond b 1 0 + count_by q others) passes)))

pub count_same : {X : Type 0} (q : X → Bool) (xs : List X) (x : X) (others : List X) → xs ≡ x ∷ others → q x ≡ false → (n : ℕ) → n ≡ count_by q others → n ≡ count_by q xs
count_same q xs x others is fails n e =
    e ∙ (sym (zero-add (count_by q others)) ∙ sym (ap (count_by q) is ∙ (sum_by-cons (λ y. cond (q y) 1 0) x others ∙ ap (λ b. cond b 1 0 + count_by q others) fails)))
