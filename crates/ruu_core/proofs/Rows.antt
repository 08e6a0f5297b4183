-- The rows of a ring, and that they rise.
use Rattle.std.proofs.Common.{◌≡◌, ℕ, ◌+◌, ◌-◌, ◌<◌, ◌≤◌, Some, None, cond, Bool, true, false, List, [], ◌∷◌, ◌++◌, length, take, drop, refl, sym, ap, ◌∙◌, arith, length-append}
use Rattle.std.specs.Prelude.{map, reverse, filter, find, slice_get, option_map, count_by, Option, ◌==◌, ◌&&◌, ◌||◌, nat_le, nat_lt, if◌then◌else◌}
use Rattle.std.specs.List.{list_any}
use Rattle.std.proofs.lemmas.List.{reverse-append, map-append, length-map, length-reverse}
use Rattle.std.proofs.lemmas.List.Sums.{sum_by-cons}
use Rattle.std.proofs.lemmas.Bool.{ltb-true, lt-ltb, leb-true, le-leb, eqb-true}
use Rattle.std.proofs.lemmas.Bool.Decides.{nat_tests}
use Rattle.ruu_core.specs.declared.slot.Slot.{Slot}
use Rattle.ruu_core.specs.Window.{Row, is_above, is_row, first, falls_below, rises_to}
use Rattle.ruu_core.specs.Slots.{shown, rows_of, up_to, slot_named}

-- ---- lists

pub reverse-map : {X : Type 0} (g : X → X) (xs : List X) → reverse (map g xs) ≡ map g (reverse xs)
reverse-map g [] = refl
reverse-map g (x ∷ xs) =
    reverse-append (g x ∷ []) (map g xs)
    ∙ (ap (λ l. l ++ (g x ∷ [])) (reverse-map g xs)
    ∙ (sym (map-append g (reverse xs) (x ∷ [])) ∙ ap (map g) (sym (reverse-append (x ∷ []) xs))))

pub length_all_but : {X : Type 0} (xs : List X) (x : X) → length (xs ++ x ∷ []) - 1 ≡ length xs
length_all_but xs x = omega (arith, length-append xs (x ∷ []))

pub front : {X : Type 0} (xs : List X) (x : X) → take (length (xs ++ x ∷ []) - 1) (xs ++ x ∷ []) ≡ xs
front {X = X} xs x = ap (λ n. take n (xs ++ x ∷ [])) (length_all_but xs x) ∙ taken xs
  where
    taken : (xs : List X) → take (length xs) (xs ++ x ∷ []) ≡ xs
    taken [] = refl
    taken (y ∷ xs) = ap (λ l. y ∷ l) (taken xs)

pub last-get : {X : Type 0} (xs : List X) (x : X) → slice_get (xs ++ x ∷ []) (length (xs ++ x ∷ []) - 1) ≡ Some x
last-get {X = X} xs x = ap (λ n. slice_get (xs ++ x ∷ []) n) (length_all_but xs x) ∙ at_end xs
  where
    at_end : (xs : List X) → slice_get (xs ++ x ∷ []) (length xs) ≡ Some x
    at_end [] = refl
    at_end (y ∷ xs) = at_end xs

-- ---- rows of a ring

pub pushed : (xs : List Slot) (x : Slot) → rows_of (xs ++ x ∷ []) ≡ shown x ∷ rows_of xs
pushed xs x = ap (map shown) (reverse-append xs (x ∷ []))

pub rows-length : (xs : List Slot) → length (rows_of xs) ≡ length xs
rows-length xs = length-map (reverse xs) shown ∙ length-reverse xs

pub reverse_first : (x : Slot) (xs : List Slot) → reverse (x ∷ xs) ≡ reverse xs ++ x ∷ []
reverse_first x xs = reverse-append (x ∷ []) xs

pub first_last : (x : Slot) (xs : List Slot) → rows_of (x ∷ xs) ≡ rows_of xs ++ shown x ∷ []
first_last x xs = ap (map shown) (reverse_first x xs) ∙ map-append shown (reverse xs) (x ∷ [])

pub without_first : (xs : List Slot) → rows_of (drop 1 xs) ≡ take (length (rows_of xs) - 1) (rows_of xs)
without_first [] = refl
without_first (x ∷ xs) = sym (ap (λ l. take (length l - 1) l) (first_last x xs) ∙ front (rows_of xs) (shown x))

pub first_row : (xs : List Slot) → first (rows_of xs) ≡ option_map shown (slice_get xs 0)
first_row [] = refl
first_row (x ∷ xs) = ap first (first_last x xs) ∙ last-get (rows_of xs) (shown x)

-- ---- rows that rise

pub and_left : (a b : Bool) → (a && b) ≡ true → a ≡ true
and_left true b e = refl
and_left false b e = e

pub and_right : (a b : Bool) → (a && b) ≡ true → b ≡ true
and_right true b e = e
and_right false b e = absurd cc

both : (a b : Bool) → a ≡ true → b ≡ true → (a && b) ≡ true
both true b e f = f
both false b e f = e

below_more : (m n : ℕ) (rs : List Row) → m ≤ n → falls_below m rs ≡ true → falls_below n rs ≡ true
below_more m n [] le h = refl
below_more m n (r ∷ older) le h =
    let here : r.station.row < m = ltb-true r.station.row m (and_left _ _ h) in
    both _ _ (lt-ltb r.station.row n (omega arith)) (and_right _ _ h)

pub rises_pushed : (last : Option ℕ) (n : ℕ) (rs : List Row) (new : Row) → new.station.row ≡ n → rises_to last rs ≡ true → is_above last n ≡ true
    → falls_below (n + 1) (new ∷ rs) ≡ true
rises_pushed None n [] new e h above = both _ _ (lt-ltb new.station.row (n + 1) (omega arith)) refl
rises_pushed None n (x ∷ rs) new e h above = absurd cc
rises_pushed (Some last) n rs new e h above =
    let after : last < n = ltb-true last n above in
    both _ _ (lt-ltb new.station.row (n + 1) (omega arith)) (below_more (last + 1) new.station.row rs (omega arith) h)

map_falls : (f : Row → Row) → ((r : Row) → (f r).station ≡ r.station) → (n : ℕ) (rs : List Row) → falls_below n (map f rs) ≡ falls_below n rs
map_falls f k n [] = refl
map_falls f k n (r ∷ rs) =
    ap (λ s. nat_lt s.row n && falls_below s.row (map f rs)) (k r) ∙ ap (λ b. nat_lt r.station.row n && b) (map_falls f k r.station.row rs)

pub rises_mapped : (f : Row → Row) → ((r : Row) → (f r).station ≡ r.station) → (last : Option ℕ) (rs : List Row) → rises_to last rs ≡ true → rises_to last (map f rs) ≡ true
rises_mapped f k None [] h = refl
rises_mapped f k None (r ∷ rs) h = absurd cc
rises_mapped f k (Some last) rs h = map_falls f k (last + 1) rs ∙ h

-- rows behind the last one that is kept
up_to_falls : (k n : ℕ) (zs : List Slot) → falls_below n (map shown zs) ≡ true → falls_below n (map shown (up_to k zs)) ≡ true
up_to_falls k n [] h = refl
up_to_falls k n (s ∷ older) h =
    let here : s.station.row < n = ltb-true s.station.row n (and_left _ _ h) in
    by_test (nat_le s.station.row k) (up_to_falls k n older (below_more s.station.row n (map shown older) (omega arith) (and_right _ _ h)))
  where
    by_test : (b : Bool) → falls_below n (map shown (up_to k older)) ≡ true → falls_below n (map shown (cond b (s ∷ older) (up_to k older))) ≡ true
    by_test true ih = h
    by_test false ih = ih

pub rises_up_to : (k : ℕ) (last : Option ℕ) (zs : List Slot) → rises_to last (map shown zs) ≡ true → rises_to last (map shown (up_to k zs)) ≡ true
rises_up_to k None [] h = refl
rises_up_to k None (s ∷ zs) h = absurd cc
rises_up_to k (Some last) zs h = up_to_falls k (last + 1) zs h

front_falls : (n : ℕ) (rs : List Row) (r : Row) → falls_below n (rs ++ r ∷ []) ≡ true → falls_below n rs ≡ true
front_falls n [] r h = refl
front_falls n (x ∷ rs) r h = both _ _ (and_left _ _ h) (front_falls x.station.row rs r (and_right _ _ h))

pub rises_front : (last : Option ℕ) (rs : List Row) (r : Row) → rises_to last (rs ++ r ∷ []) ≡ true → rises_to last rs ≡ true
rises_front None [] r h = refl
rises_front None (x ∷ rs) r h = absurd cc
rises_front (Some last) rs r h = front_falls (last + 1) rs r h

pub all_kept : (k n : ℕ) (rs : List Row) → n ≤ k + 1 → falls_below n rs ≡ true → filter (λ r. nat_le r.station.row k) rs ≡ rs
all_kept k n [] le h = refl
all_kept k n (r ∷ older) le h =
    let here : r.station.row < n = ltb-true r.station.row n (and_left _ _ h) in
    ap (λ b. cond b (r ∷ filter (λ r. nat_le r.station.row k) older) (filter (λ r. nat_le r.station.row k) older)) (le-leb r.station.row k (omega arith))
    ∙ ap (λ l. r ∷ l) (all_kept k r.station.row older (omega arith) (and_right _ _ h))

falls_kept : (k n : ℕ) (zs : List Slot) → falls_below n (map shown zs) ≡ true → map shown (up_to k zs) ≡ filter (λ r. nat_le r.station.row k) (map shown zs)
falls_kept k n [] h = refl
falls_kept k n (s ∷ older) h = by_test (nat_le s.station.row k) refl (falls_kept k s.station.row older (and_right _ _ h))
  where
    by_test : (b : Bool) → nat_le s.station.row k ≡ b → map shown (up_to k older) ≡ filter (λ r. nat_le r.station.row k) (map shown older)
        → map shown (cond b (s ∷ older) (up_to k older)) ≡ cond b (shown s ∷ filter (λ r. nat_le r.station.row k) (map shown older)) (filter (λ r. nat_le r.station.row k) (map shown older))
    by_test true is ih =
        let within : s.station.row ≤ k = leb-true s.station.row k is in
        ap (λ l. shown s ∷ l) (sym (all_kept k s.station.row (map shown older) (omega arith) (and_right (nat_lt s.station.row n) (falls_below s.station.row (map shown older)) h)))
    by_test false is ih = ih

pub up_to_kept : (k : ℕ) (last : Option ℕ) (zs : List Slot) → rises_to last (map shown zs) ≡ true → map shown (up_to k zs) ≡ filter (λ r. nat_le r.station.row k) (map shown zs)
up_to_kept k None [] h = refl
up_to_kept k None (s ∷ zs) h = absurd cc
up_to_kept k (Some last) zs h = falls_kept k (last + 1) zs h

neither : (k n : ℕ) → nat_le n k ≡ false → nat_lt k n ≡ false → ⊥
neither k n e f = grind (arith, nat_tests)

-- as many rows are dropped as are above
pub dropped_kept : (k : ℕ) (rs : List Row) → length (filter (λ r. nat_le r.station.row k) rs) + count_by (λ r. nat_lt k r.station.row) rs ≡ length rs
dropped_kept k [] = refl
dropped_kept k (r ∷ rs) =
    by_test (nat_le r.station.row k) (nat_lt k r.station.row) refl refl (dropped_kept k rs) (sum_by-cons (λ r. cond (nat_lt k r.station.row) 1 0) r rs)
  where
    by_test : (a b : Bool) → nat_le r.station.row k ≡ a → nat_lt k r.station.row ≡ b
        → length (filter (λ r. nat_le r.station.row k) rs) + count_by (λ r. nat_lt k r.station.row) rs ≡ length rs
        → count_by (λ r. nat_lt k r.station.row) (r ∷ rs) ≡ cond b 1 0 + count_by (λ r. nat_lt k r.station.row) rs
        → length (cond a (r ∷ filter (λ r. nat_le r.station.row k) rs) (filter (λ r. nat_le r.station.row k) rs)) + count_by (λ r. nat_lt k r.station.row) (r ∷ rs) ≡ length (r ∷ rs)
    by_test true false e f ih g = omega arith
    by_test false true e f ih g = omega arith
    by_test true true e f ih g =
        let le : r.station.row ≤ k = leb-true r.station.row k e in
        let lt : k < r.station.row = ltb-true k r.station.row f in
        absurd (omega arith)
    by_test false false e f ih g = absurd (neither k r.station.row e f)

-- ---- a row by its number

above_last : (n : ℕ) (rs : List Row) (r : Row) → falls_below n (rs ++ r ∷ []) ≡ true → r.station.row < n
above_last n [] r h = ltb-true r.station.row n (and_left _ _ h)
above_last n (x ∷ rs) r h =
    let here : x.station.row < n = ltb-true x.station.row n (and_left _ _ h) in
    let behind : r.station.row < x.station.row = above_last x.station.row rs r (and_right _ _ h) in
    omega arith

-- what is found among the rows before the last is above it
pub found_above : (q : Row → Bool) (n : ℕ) (rs : List Row) (r o : Row) → falls_below n (rs ++ r ∷ []) ≡ true → find q rs ≡ Some o → r.station.row < o.station.row
found_above q n [] r o h e = absurd cc
found_above q n (x ∷ rs) r o h e = by_test (q x) e (λ k. found_above q x.station.row rs r o (and_right _ _ h) k)
  where
    by_test : (b : Bool) → cond b (Some x) (find q rs) ≡ Some o → (find q rs ≡ Some o → r.station.row < o.station.row) → r.station.row < o.station.row
    by_test true e ih =
        let is : x ≡ o = cc in
        let same : x.station.row ≡ o.station.row = ap (λ (y : Row). y.station.row) is in
        let less : r.station.row < x.station.row = above_last x.station.row rs r (and_right (nat_lt x.station.row n) (falls_below x.station.row (rs ++ r ∷ [])) h) in
        omega arith
    by_test false e ih = ih e

abbrev pub or_this : {X : Type 0} → Option X → Option X → Option X
or_this (Some a) b = Some a
or_this None b = b

-- found among all but the last, or the last
pub or_last : {X : Type 0} (q : X → Bool) (xs : List X) (x : X) (found : Option X) → find q xs ≡ found
    → find q (xs ++ x ∷ []) ≡ or_this found (if q x then Some x else None)
or_last q [] x None e = refl
or_last q [] x (Some y) e = absurd cc
or_last {X = X} q (y ∷ xs) x found e = by_test (q y) e (λ h. or_last q xs x found h)
  where
    by_test : (b : Bool) → cond b (Some y) (find q xs) ≡ found
        → (find q xs ≡ found → find q (xs ++ x ∷ []) ≡ or_this found (if q x then Some x else None))
        → cond b (Some y) (find q (xs ++ x ∷ [])) ≡ or_this found (if q x then Some x else None)
    by_test true h ih = ap (λ f. or_this f (if q x then Some x else None)) h
    by_test false h ih = ih h

find-shown : (n : ℕ) (zs : List Slot) → find (is_row n) (map shown zs) ≡ option_map shown (find (slot_named n) zs)
find-shown n [] = refl
find-shown n (s ∷ older) = by_test (s.station.row == n) (find-shown n older)
  where
    by_test : (b : Bool) → find (is_row n) (map shown older) ≡ option_map shown (find (slot_named n) older)
        → cond b (Some (shown s)) (find (is_row n) (map shown older)) ≡ option_map shown (cond b (Some s) (find (slot_named n) older))
    by_test true ih = refl
    by_test false ih = ih

-- rows before the last have other numbers
none_same : (m n : ℕ) (zs : List Slot) (x : Slot) → x.station.row ≡ n → falls_below m (map shown (zs ++ x ∷ [])) ≡ true → find (slot_named n) zs ≡ None
none_same m n [] x is h = refl
none_same m n (s ∷ zs) x is h = by_test (s.station.row == n) refl (none_same s.station.row n zs x is (and_right _ _ h))
  where
    behind : x.station.row < s.station.row
    behind = above_last s.station.row (map shown zs) (shown x) (ap (falls_below s.station.row) (sym (map-append shown zs (x ∷ []))) ∙ and_right (nat_lt s.station.row m) (falls_below s.station.row (map shown (zs ++ x ∷ []))) h)

    by_test : (b : Bool) → (s.station.row == n) ≡ b → find (slot_named n) zs ≡ None → cond b (Some s) (find (slot_named n) zs) ≡ None
    by_test true e ih = let same : s.station.row ≡ n = eqb-true s.station.row n e in let less = behind in absurd (omega arith)
    by_test false e ih = ih

drop_none : (o : Option Slot) → or_this o None ≡ o
drop_none None = refl
drop_none (Some y) = refl

-- a number names one slot, from whichever end it is looked for
pub find_reverse : (m n : ℕ) (xs : List Slot) → falls_below m (rows_of xs) ≡ true → find (slot_named n) (reverse xs) ≡ find (slot_named n) xs
find_reverse m n [] h = refl
find_reverse m n (x ∷ xs) h =
    ap (find (slot_named n)) (reverse_first x xs) ∙ by_test (x.station.row == n) refl (find_reverse m n xs (front_falls m (rows_of xs) (shown x) falls))
  where
    falls : falls_below m (rows_of xs ++ shown x ∷ []) ≡ true
    falls = ap (falls_below m) (sym (first_last x xs)) ∙ h

    falls' : falls_below m (map shown (reverse xs ++ x ∷ [])) ≡ true
    falls' = ap (λ l. falls_below m (map shown l)) (sym (reverse_first x xs)) ∙ h

    by_test : (b : Bool) → (x.station.row == n) ≡ b → find (slot_named n) (reverse xs) ≡ find (slot_named n) xs
        → find (slot_named n) (reverse xs ++ x ∷ []) ≡ cond b (Some x) (find (slot_named n) xs)
    by_test true e ih =
        or_last (slot_named n) (reverse xs) x None (none_same m n (reverse xs) x (eqb-true x.station.row n e) falls')
        ∙ ap (λ b. cond b (Some x) None) e
    by_test false e ih =
        or_last (slot_named n) (reverse xs) x (find (slot_named n) (reverse xs)) refl ∙ (ap (λ b. or_this (find (slot_named n) (reverse xs)) (cond b (Some x) None)) e ∙ (drop_none (find (slot_named n) (reverse xs)) ∙ ih))

nonempty : (rs : List Row) (r : Row) → rises_to None (rs ++ r ∷ []) ≡ true → ⊥
nonempty [] r h = cc
nonempty (x ∷ rs) r h = cc

pub named_reverse : (last : Option ℕ) (n : ℕ) (xs : List Slot) → rises_to last (rows_of xs) ≡ true → find (slot_named n) (reverse xs) ≡ find (slot_named n) xs
named_reverse (Some m) n xs h = find_reverse (m + 1) n xs h
named_reverse None n [] h = refl
named_reverse None n (x ∷ xs) h = absurd (nonempty (rows_of xs) (shown x) (ap (rises_to None) (sym (first_last x xs)) ∙ h))

pub named_row : (last : Option ℕ) (n : ℕ) (xs : List Slot) → rises_to last (rows_of xs) ≡ true → find (is_row n) (rows_of xs) ≡ option_map shown (find (slot_named n) xs)
named_row last n xs h = find-shown n (reverse xs) ∙ ap (option_map shown) (named_reverse last n xs h)

pub live_shown : (n : ℕ) (zs : List Slot) → list_any (slot_named n) zs ≡ list_any (is_row n) (map shown zs)
live_shown n [] = refl
live_shown n (s ∷ zs) = ap (λ b. (s.station.row == n) || b) (live_shown n zs)

any-last : (n : ℕ) (rs : List Row) (r : Row) → list_any (is_row n) (rs ++ r ∷ []) ≡ (is_row n r || list_any (is_row n) rs)
any-last n [] r = refl
any-last n (x ∷ rs) r = ap (λ b. is_row n x || b) (any-last n rs r) ∙ swap (is_row n x) (is_row n r) (list_any (is_row n) rs)
  where
    swap : (a b c : Bool) → (a || (b || c)) ≡ (b || (a || c))
    swap true true c = refl
    swap true false c = refl
    swap false b c = refl

pub live_slot : (n : ℕ) (xs : List Slot) → list_any (is_row n) (rows_of xs) ≡ list_any (slot_named n) xs
live_slot n [] = refl
live_slot n (x ∷ xs) = ap (list_any (is_row n)) (first_last x xs) ∙ (any-last n (rows_of xs) (shown x) ∙ ap (λ b. (x.station.row == n) || b) (live_slot n xs))
