-- Where a row stands in the ring: rows rise from the oldest slot on.
use Rattle.std.proofs.Common.{◌≡◌, ℕ, zero, suc, ◌+◌, ◌<◌, ◌≤◌, Some, None, cond, Bool, true, false, List, [], ◌∷◌, ◌++◌, length, refl, sym, ap, ◌∙◌, arith}
use Rattle.std.specs.Prelude.{map, slice_get, slice_set, Option, ◌==◌, ◌&&◌, nat_le, nat_lt}
use Rattle.std.proofs.lemmas.Bool.{ltb-true, lt-ltb, leb-true, le-leb}
use Rattle.std.proofs.lemmas.Bool.Decides.{nat_tests}
use Rattle.circular_buffer.specs.Buffer.{Buffer, buffer}
use Rattle.lsq_core.specs.declared.slots.Slot.{Slot}
use Rattle.lsq_core.specs.declared.slots.Part.{Part}
use Rattle.lsq_core.specs.Queue.{Entry, falls_below, rises_to}
use Rattle.lsq_core.specs.Slots.{entry_of, entries_of, with_part, learned, rises_from, place_of}
use Rattle.lsq_core.proofs.Rises.{and_left, and_right, first_last}

not_below : (a b : ℕ) → b ≤ a → nat_lt a b ≡ false
not_below a b h = grind (arith, nat_tests)

not_same : (a b : ℕ) → a < b → (b == a) ≡ false
not_same a b h = grind (arith, nat_tests)

both : (a b : Bool) → a ≡ true → b ≡ true → (a && b) ≡ true
both true b e f = f
both false b e f = e

-- ---- rows that rise

front_falls : (n : ℕ) (rs : List Entry) (r : Entry) → falls_below n (rs ++ r ∷ []) ≡ true → falls_below n rs ≡ true
front_falls n [] r h = refl
front_falls n (x ∷ rs) r h = both _ _ (and_left _ _ h) (front_falls x.row rs r (and_right _ _ h))

last_two : (n : ℕ) (rs : List Entry) (x r : Entry) → falls_below n ((rs ++ x ∷ []) ++ r ∷ []) ≡ true → r.row < x.row
last_two n [] x r h = ltb-true r.row x.row (and_left _ _ (and_right (nat_lt x.row n) (falls_below x.row (r ∷ [])) h))
last_two n (y ∷ rs) x r h = last_two y.row rs x r (and_right (nat_lt y.row n) (falls_below y.row ((rs ++ x ∷ []) ++ r ∷ [])) h)

rise_above : (m : ℕ) (xs : List Slot) (r : Entry) → falls_below m (entries_of xs ++ r ∷ []) ≡ true → rises_from (suc r.row) xs ≡ true
rise_above m [] r h = refl
rise_above m (x ∷ xs) r h =
    let falls : falls_below m ((entries_of xs ++ entry_of x ∷ []) ++ r ∷ []) ≡ true = ap (λ (l : List Entry). falls_below m (l ++ r ∷ [])) (sym (first_last x xs)) ∙ h in
    let above : r.row < x.row = last_two m (entries_of xs) (entry_of x) r falls in
    both _ _ (le-leb (suc r.row) x.row (omega arith)) (rise_above m xs (entry_of x) (front_falls m (entries_of xs ++ entry_of x ∷ []) r falls))

falls_rise : (m : ℕ) (xs : List Slot) → falls_below m (entries_of xs) ≡ true → rises_from 0 xs ≡ true
falls_rise m [] h = refl
falls_rise m (x ∷ xs) h = both _ _ (le-leb 0 x.row (omega arith)) (rise_above m xs (entry_of x) (ap (falls_below m) (sym (first_last x xs)) ∙ h))

nonempty : (rs : List Entry) (r : Entry) → rises_to None (rs ++ r ∷ []) ≡ true → ⊥
nonempty [] r h = cc
nonempty (x ∷ rs) r h = cc

pub rows_rise : (last : Option ℕ) (xs : List Slot) → rises_to last (entries_of xs) ≡ true → rises_from 0 xs ≡ true
rows_rise (Some m) xs h = falls_rise (m + 1) xs h
rows_rise None [] h = refl
rows_rise None (x ∷ xs) h = absurd (nonempty (entries_of xs) (entry_of x) (ap (rises_to None) (sym (first_last x xs)) ∙ h))

at_least : (m : ℕ) (xs : List Slot) (i : ℕ) (x : Slot) → rises_from m xs ≡ true → slice_get xs i ≡ Some x → m ≤ x.row
at_least m [] i x h e = absurd cc
at_least m (y ∷ ys) zero x h e =
    let is : y ≡ x = cc in
    let same : y.row ≡ x.row = ap (λ (s : Slot). s.row) is in
    let here : m ≤ y.row = leb-true m y.row (and_left _ _ h) in
    omega arith
at_least m (y ∷ ys) (suc i) x h e =
    let here : m ≤ y.row = leb-true m y.row (and_left _ _ h) in
    let behind : suc y.row ≤ x.row = at_least (suc y.row) ys i x (and_right (nat_le m y.row) (rises_from (suc y.row) ys) h) e in
    omega arith

-- ---- the place of a row

pub place_within : (n : ℕ) (xs : List Slot) → place_of n xs ≤ length xs
place_within n [] = omega arith
place_within n (y ∷ ys) = by_test (nat_lt y.row n) (place_within n ys)
  where
    by_test : (b : Bool) → place_of n ys ≤ length ys → cond b (suc (place_of n ys)) 0 ≤ suc (length ys)
    by_test true ih = omega arith
    by_test false ih = omega arith

below_place : (n : ℕ) (y : Slot) (ys : List Slot) → y.row < n → place_of n (y ∷ ys) ≡ suc (place_of n ys)
below_place n y ys h = ap (λ b. cond b (suc (place_of n ys)) 0) (lt-ltb y.row n h)

at_place : (n : ℕ) (y : Slot) (ys : List Slot) → n ≤ y.row → place_of n (y ∷ ys) ≡ 0
at_place n y ys h = ap (λ b. cond b (suc (place_of n ys)) 0) (not_below y.row n h)

pub place_up : (m n : ℕ) (xs : List Slot) (i : ℕ) (x : Slot) → rises_from m xs ≡ true → slice_get xs i ≡ Some x → x.row < n → i < place_of n xs
place_up m n [] i x h e less = absurd cc
place_up m n (y ∷ ys) zero x h e less =
    let is : y ≡ x = cc in
    let same : y.row ≡ x.row = ap (λ (s : Slot). s.row) is in
    let place : place_of n (y ∷ ys) ≡ suc (place_of n ys) = below_place n y ys (omega arith) in
    omega arith
place_up m n (y ∷ ys) (suc i) x h e less =
    let rest : rises_from (suc y.row) ys ≡ true = and_right (nat_le m y.row) (rises_from (suc y.row) ys) h in
    let behind : suc y.row ≤ x.row = at_least (suc y.row) ys i x rest e in
    let place : place_of n (y ∷ ys) ≡ suc (place_of n ys) = below_place n y ys (omega arith) in
    let further : i < place_of n ys = place_up (suc y.row) n ys i x rest e less in
    omega arith

pub place_down : (n : ℕ) (xs : List Slot) (i : ℕ) (x : Slot) → slice_get xs i ≡ Some x → n ≤ x.row → place_of n xs ≤ i
place_down n [] i x e le = absurd cc
place_down n (y ∷ ys) zero x e le =
    let is : y ≡ x = cc in
    let same : y.row ≡ x.row = ap (λ (s : Slot). s.row) is in
    let place : place_of n (y ∷ ys) ≡ 0 = at_place n y ys (omega arith) in
    omega arith
place_down n (y ∷ ys) (suc i) x e le = by_test (nat_lt y.row n) (place_down n ys i x e le)
  where
    by_test : (b : Bool) → place_of n ys ≤ i → cond b (suc (place_of n ys)) 0 ≤ suc i
    by_test true ih = omega arith
    by_test false ih = omega arith

-- ---- what a row is told

other_kept : (n c : ℕ) (p : Part) (y : Slot) → (y.row == n) ≡ false → learned n c p y ≡ y
other_kept n c p y e = ap (λ b. cond b (with_part p c y) y) e

not_equal : (a b : ℕ) → a < b → (a == b) ≡ false
not_equal a b h = grind (arith, nat_tests)

above_kept : (m n c : ℕ) (p : Part) (xs : List Slot) → rises_from m xs ≡ true → n < m → map (learned n c p) xs ≡ xs
above_kept m n c p [] h less = refl
above_kept m n c p (y ∷ ys) h less =
    let here : m ≤ y.row = leb-true m y.row (and_left _ _ h) in
    ap (λ (z : Slot). z ∷ map (learned n c p) ys) (other_kept n c p y (not_same n y.row (omega arith)))
    ∙ ap (λ (l : List Slot). y ∷ l) (above_kept (suc y.row) n c p ys (and_right (nat_le m y.row) (rises_from (suc y.row) ys) h) (omega arith))

reached : (a n : ℕ) → nat_lt a n ≡ false → n < suc a
reached a n e = grind (arith, nat_tests)

told_there : (m n c : ℕ) (p : Part) (xs : List Slot) (x : Slot) → rises_from m xs ≡ true → slice_get xs (place_of n xs) ≡ Some x
    → slice_set xs (place_of n xs) (learned n c p x) ≡ map (learned n c p) xs
told_there m n c p [] x h e = absurd cc
told_there m n c p (y ∷ ys) x h e = by_test (nat_lt y.row n) refl e (told_there (suc y.row) n c p ys x rest)
  where
    rest : rises_from (suc y.row) ys ≡ true
    rest = and_right (nat_le m y.row) (rises_from (suc y.row) ys) h

    by_test : (b : Bool) → nat_lt y.row n ≡ b → slice_get (y ∷ ys) (cond b (suc (place_of n ys)) 0) ≡ Some x
        → (slice_get ys (place_of n ys) ≡ Some x → slice_set ys (place_of n ys) (learned n c p x) ≡ map (learned n c p) ys)
        → slice_set (y ∷ ys) (cond b (suc (place_of n ys)) 0) (learned n c p x) ≡ learned n c p y ∷ map (learned n c p) ys
    by_test true e f ih =
        ap (λ (l : List Slot). y ∷ l) (ih f)
        ∙ ap (λ (z : Slot). z ∷ map (learned n c p) ys) (sym (other_kept n c p y (not_equal y.row n (ltb-true y.row n e))))
    by_test false e f ih =
        let is : y ≡ x = cc in
        ap (λ (z : Slot). learned n c p z ∷ ys) (sym is)
        ∙ ap (λ (l : List Slot). learned n c p y ∷ l) (sym (above_kept (suc y.row) n c p ys rest (reached y.row n e)))

none_there : (n c : ℕ) (p : Part) (xs : List Slot) → length xs ≤ place_of n xs → map (learned n c p) xs ≡ xs
none_there n c p [] le = refl
none_there n c p (y ∷ ys) le = by_test (nat_lt y.row n) refl le (none_there n c p ys)
  where
    by_test : (b : Bool) → nat_lt y.row n ≡ b → suc (length ys) ≤ cond b (suc (place_of n ys)) 0
        → (length ys ≤ place_of n ys → map (learned n c p) ys ≡ ys) → learned n c p y ∷ map (learned n c p) ys ≡ y ∷ ys
    by_test true e k ih =
        ap (λ (z : Slot). z ∷ map (learned n c p) ys) (other_kept n c p y (not_equal y.row n (ltb-true y.row n e)))
        ∙ ap (λ (l : List Slot). y ∷ l) (ih (omega arith))
    by_test false e k ih = absurd (omega arith)

there_is : {X : Type 0} (xs : List X) (i : ℕ) → i < length xs → (x : X) × (slice_get xs i ≡ Some x)
there_is [] i h = absurd (omega arith)
there_is (y ∷ xs) zero h = (y, refl)
there_is (y ∷ xs) (suc i) h = there_is xs i (omega arith)

pub learned_there : (n c : ℕ) (p : Part) (old new : Buffer Slot) (at : ℕ) → rises_from 0 old.items ≡ true → at ≡ place_of n old.items → at < length old.items
    → ((x : Slot) → slice_get old.items at ≡ Some x → new ≡ buffer (slice_set old.items at (learned n c p x)) old.capacity)
    → new ≡ buffer (map (learned n c p) old.items) old.capacity
learned_there n c p old new at h is inside g =
    let (x, e) = there_is old.items at inside in
    g x e
    ∙ ap (λ (l : List Slot). buffer l old.capacity)
    (ap (λ k. slice_set old.items k (learned n c p x)) is ∙ told_there 0 n c p old.items x h (ap (slice_get old.items) (sym is) ∙ e))

pub learned_nowhere : (n c : ℕ) (p : Part) (old : Buffer Slot) (at : ℕ) → at ≡ place_of n old.items → length old.items ≤ at
    → old ≡ buffer (map (learned n c p) old.items) old.capacity
learned_nowhere n c p old at is le =
    ap (λ (l : List Slot). buffer l old.capacity) (sym (none_there n c p old.items (omega arith)))
