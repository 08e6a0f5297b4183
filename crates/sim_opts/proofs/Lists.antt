-- Lists that are gone through from their beginning, and what stands for their items.
use Rattle.std.proofs.Common.{◌≡◌, ◌+◌, ◌<◌, ◌≤◌, ℕ, suc, Bool, true, false, List, [], ◌∷◌, length, get_or, take, drop, map, filter, Option, Some, None, if◌then◌else◌, refl, sym, ap, ◌∙◌, arith, drop-cons, length-append}
use Rattle.std.specs.List.{find, list_all}
use Rattle.std.proofs.lemmas.List.{take_more, drop_all, map-append}
use Rattle.std.proofs.lemmas.List.Elements.{filter-append}

-- what is left from a place on begins with the item there
pub left_at : {X : Type 0} (xs : List X) (i : ℕ) (d : X) → i < length xs → drop i xs ≡ get_or xs i d ∷ drop (i + 1) xs
left_at xs i d h =
    let next : suc i ≡ i + 1 = omega arith in
    drop-cons xs i d h ∙ ap (λ n. get_or xs i d ∷ drop n xs) next

pub item_at : {X : Type 0} (xs : List X) (i : ℕ) (x : X) → i < length xs → x ≡ get_or xs i x → drop i xs ≡ x ∷ drop (i + 1) xs
item_at xs i x h e = left_at xs i x h ∙ ap (λ y. y ∷ drop (i + 1) xs) (sym e)

-- what an option holds, or this
abbrev unwrap_from : {X : Type 0} → X → Option X → X
unwrap_from d None = d
unwrap_from d (Some x) = x

-- the first item that passes is among all that are left, and passes
abbrev found_or : {X : Type 0} → Bool → X → Option X → Option X
found_or b y other = if b then Some y else other

found_same : {X : Type 0} (b : Bool) (y x : X) (other : Option X) → found_or b y other ≡ Some x → b ≡ true → y ≡ x
found_same true y x other h e = ap (unwrap_from y) h
found_same false y x other h e = cc

found_later : {X : Type 0} (b : Bool) (y x : X) (other : Option X) → found_or b y other ≡ Some x → b ≡ false → other ≡ Some x
found_later true y x other h e = cc
found_later false y x other h e = h

pub find_holds : {X : Type 0} (p : X → Bool) (xs : List X) (x : X) → find p xs ≡ Some x → p x ≡ true
find_holds p [] x h = cc
find_holds p (y ∷ xs) x h = found (p y) refl (λ e. find_holds p xs x (found_later (p y) y x (find p xs) h e))
  where
    found : (b : Bool) → p y ≡ b → (p y ≡ false → p x ≡ true) → p x ≡ true
    found true e later = ap p (sym (found_same (p y) y x (find p xs) h e)) ∙ e
    found false e later = later e

all_head : {X : Type 0} (q : X → Bool) (y : X) (xs : List X) → list_all q (y ∷ xs) ≡ true → q y ≡ true
all_head q y xs k = grind (arith, k)

all_tail : {X : Type 0} (q : X → Bool) (y : X) (xs : List X) → list_all q (y ∷ xs) ≡ true → list_all q xs ≡ true
all_tail q y xs k = grind (arith, k)

pub find_all : {X : Type 0} (p q : X → Bool) (xs : List X) (x : X) → find p xs ≡ Some x → list_all q xs ≡ true → q x ≡ true
find_all p q [] x h k = cc
find_all p q (y ∷ xs) x h k = found (p y) refl (λ e. find_all p q xs x (found_later (p y) y x (find p xs) h e) (all_tail q y xs k))
  where
    found : (b : Bool) → p y ≡ b → (p y ≡ false → q x ≡ true) → q x ≡ true
    found true e later = ap q (sym (found_same (p y) y x (find p xs) h e)) ∙ all_head q y xs k
    found false e later = later e

-- one step of a search
pub find_next : {X Y : Type 0} (view : X → Y) (p : Y → Bool) (xs : List X) (i : ℕ) (d : X) (r : Option Y) → i < length xs → find p (map view (drop i xs)) ≡ r → p (view (get_or xs i d)) ≡ false → find p (map view (drop (i + 1) xs)) ≡ r
find_next view p xs i d r h e k =
    let behind = map view (drop (i + 1) xs) in
    sym (ap (λ ys. find p (map view ys)) (left_at xs i d h) ∙ ap (λ (b : Bool). if b then Some (view (get_or xs i d)) else find p behind) k) ∙ e

pub find_hit : {X Y : Type 0} (view : X → Y) (p : Y → Bool) (xs : List X) (i : ℕ) (d : X) (r : Option Y) → i < length xs → find p (map view (drop i xs)) ≡ r → p (view (get_or xs i d)) ≡ true → Some (view (get_or xs i d)) ≡ r
find_hit view p xs i d r h e k =
    let behind = map view (drop (i + 1) xs) in
    sym (ap (λ ys. find p (map view ys)) (left_at xs i d h) ∙ ap (λ (b : Bool). if b then Some (view (get_or xs i d)) else find p behind) k) ∙ e

pub find_end : {X Y : Type 0} (view : X → Y) (p : Y → Bool) (xs : List X) (i : ℕ) (r : Option Y) → length xs ≤ i → find p (map view (drop i xs)) ≡ r → None ≡ r
find_end view p xs i r h e = sym (ap (λ ys. find p (map view ys)) (drop_all i xs h)) ∙ e

-- one step of a count
abbrev pub one_if : Bool → ℕ
one_if true = 1
one_if false = 0

pub counted_one : {Y : Type 0} (p : Y → Bool) (y : Y) (b : Bool) → p y ≡ b → length (filter p (y ∷ [])) ≡ one_if b
counted_one p y true e = ap (λ (t : Bool). length (if t then y ∷ [] else [])) e
counted_one p y false e = ap (λ (t : Bool). length (if t then y ∷ [] else [])) e

pub count_next : {X Y : Type 0} (view : X → Y) (p : Y → Bool) (xs : List X) (i : ℕ) (d : X) (b : Bool) → i < length xs → p (view (get_or xs i d)) ≡ b → length (filter p (map view (take (i + 1) xs))) ≡ length (filter p (map view (take i xs))) + one_if b
count_next view p xs i d b h e =
    let x = get_or xs i d in
    ap (λ ys. length (filter p (map view ys))) (take_more xs i d h)
    ∙ ap (λ ys. length (filter p ys)) (map-append view (take i xs) (x ∷ []))
    ∙ ap length (filter-append p (map view (take i xs)) (view x ∷ []))
    ∙ length-append (filter p (map view (take i xs))) (filter p (view x ∷ []))
    ∙ ap (λ n. length (filter p (map view (take i xs))) + n) (counted_one p (view x) b e)
