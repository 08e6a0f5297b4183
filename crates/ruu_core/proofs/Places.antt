-- Where a row stands in the ring: rows rise from the oldest slot on.
use Rattle.std.proofs.Common.{◌≡◌, ℕ, zero, suc, ◌+◌, ◌-◌, ◌<◌, ◌≤◌, Some, None, cond, Bool, true, false, List, [], ◌∷◌, ◌++◌, length, take, drop, refl, sym, ap, ◌∙◌, arith}
use Rattle.std.specs.Prelude.{map, reverse, find, slice_get, option_map, Option, ◌==◌, ◌&&◌, ◌||◌, nat_le, nat_lt, if◌then◌else◌}
use Rattle.std.specs.List.{list_any}
use Rattle.std.proofs.lemmas.Bool.{ltb-true, lt-ltb, leb-true, le-leb, eqb-true}
use Rattle.std.proofs.lemmas.Bool.Decides.{nat_tests}
use Rattle.std.proofs.lemmas.List.{drop-drop, drop_at, drop-append-le, map-append}
use Rattle.std.proofs.lemmas.Option.{slice_get_within}
use Rattle.circular_buffer.specs.Buffer.{Buffer, buffer}
use Rattle.ruu_core.specs.declared.slot.Slot.{Slot}
use Rattle.ruu_core.specs.declared.slot.Event.{Event}
use Rattle.ruu_core.specs.declared.search.Search.{Search}
use Rattle.ruu_core.specs.Window.{Row, is_above, falls_below, rises_to, or_else}
use Rattle.ruu_core.specs.Slots.{shown, rows_of, slot_named, slot_after, slot_passes, wanted, least_of, rises_from, place_of, place_behind}
use Rattle.ruu_core.proofs.Rows.{and_left, and_right, first_last}
use Rattle.ruu_core.proofs.Stays.{after_from}
use Rattle.ruu_core.proofs.Walks.{least_of_two}

not_below : (a b : ℕ) → b ≤ a → nat_lt a b ≡ false
not_below a b h = grind (arith, nat_tests)

not_same : (a b : ℕ) → a < b → (b == a) ≡ false
not_same a b h = grind (arith, nat_tests)

not_less : (a n : ℕ) → nat_lt a n ≡ false → (a == n) ≡ false → n < suc a
not_less a n e f = grind (arith, nat_tests)

differ : (b : Bool) → b ≡ true → b ≡ false → ⊥
differ true e f = cc
differ false e f = cc

both : (a b : Bool) → a ≡ true → b ≡ true → (a && b) ≡ true
both true b e f = f
both false b e f = e

-- ---- rows that rise

front_falls : (n : ℕ) (rs : List Row) (r : Row) → falls_below n (rs ++ r ∷ []) ≡ true → falls_below n rs ≡ true
front_falls n [] r h = refl
front_falls n (x ∷ rs) r h = both _ _ (and_left _ _ h) (front_falls x.station.row rs r (and_right _ _ h))

last_two : (n : ℕ) (rs : List Row) (x r : Row) → falls_below n ((rs ++ x ∷ []) ++ r ∷ []) ≡ true → r.station.row < x.station.row
last_two n [] x r h = ltb-true r.station.row x.station.row (and_left _ _ (and_right (nat_lt x.station.row n) (falls_below x.station.row (r ∷ [])) h))
last_two n (y ∷ rs) x r h = last_two y.station.row rs x r (and_right (nat_lt y.station.row n) (falls_below y.station.row ((rs ++ x ∷ []) ++ r ∷ [])) h)

rise_above : (m : ℕ) (xs : List Slot) (r : Row) → falls_below m (rows_of xs ++ r ∷ []) ≡ true → rises_from (suc r.station.row) xs ≡ true
rise_above m [] r h = refl
rise_above m (x ∷ xs) r h =
    let falls : falls_below m ((rows_of xs ++ shown x ∷ []) ++ r ∷ []) ≡ true = ap (λ (l : List Row). falls_below m (l ++ r ∷ [])) (sym (first_last x xs)) ∙ h in
    let above : r.station.row < x.station.row = last_two m (rows_of xs) (shown x) r falls in
    both _ _ (le-leb (suc r.station.row) x.station.row (omega arith)) (rise_above m xs (shown x) (front_falls m (rows_of xs ++ shown x ∷ []) r falls))

falls_rise : (m : ℕ) (xs : List Slot) → falls_below m (rows_of xs) ≡ true → rises_from 0 xs ≡ true
falls_rise m [] h = refl
falls_rise m (x ∷ xs) h = both _ _ (le-leb 0 x.station.row (omega arith)) (rise_above m xs (shown x) (ap (falls_below m) (sym (first_last x xs)) ∙ h))

nonempty : (rs : List Row) (r : Row) → rises_to None (rs ++ r ∷ []) ≡ true → ⊥
nonempty [] r h = cc
nonempty (x ∷ rs) r h = cc

pub rows_rise : (last : Option ℕ) (xs : List Slot) → rises_to last (rows_of xs) ≡ true → rises_from 0 xs ≡ true
rows_rise (Some m) xs h = falls_rise (m + 1) xs h
rows_rise None [] h = refl
rows_rise None (x ∷ xs) h = absurd (nonempty (rows_of xs) (shown x) (ap (rises_to None) (sym (first_last x xs)) ∙ h))

at_least : (m : ℕ) (xs : List Slot) (i : ℕ) (x : Slot) → rises_from m xs ≡ true → slice_get xs i ≡ Some x → m ≤ x.station.row
at_least m [] i x h e = absurd cc
at_least m (y ∷ ys) zero x h e =
    let is : y ≡ x = cc in
    let same : y.station.row ≡ x.station.row = ap (λ (s : Slot). s.station.row) is in
    let here : m ≤ y.station.row = leb-true m y.station.row (and_left _ _ h) in
    omega arith
at_least m (y ∷ ys) (suc i) x h e =
    let here : m ≤ y.station.row = leb-true m y.station.row (and_left _ _ h) in
    let behind : suc y.station.row ≤ x.station.row = at_least (suc y.station.row) ys i x (and_right (nat_le m y.station.row) (rises_from (suc y.station.row) ys) h) e in
    omega arith

-- ---- the place of a row

pub place_within : (n : ℕ) (xs : List Slot) → place_of n xs ≤ length xs
place_within n [] = omega arith
place_within n (y ∷ ys) = by_test (nat_lt y.station.row n) (place_within n ys)
  where
    by_test : (b : Bool) → place_of n ys ≤ length ys → cond b (suc (place_of n ys)) 0 ≤ suc (length ys)
    by_test true ih = omega arith
    by_test false ih = omega arith

below_place : (n : ℕ) (y : Slot) (ys : List Slot) → y.station.row < n → place_of n (y ∷ ys) ≡ suc (place_of n ys)
below_place n y ys h = ap (λ b. cond b (suc (place_of n ys)) 0) (lt-ltb y.station.row n h)

at_place : (n : ℕ) (y : Slot) (ys : List Slot) → n ≤ y.station.row → place_of n (y ∷ ys) ≡ 0
at_place n y ys h = ap (λ b. cond b (suc (place_of n ys)) 0) (not_below y.station.row n h)

pub place_up : (m n : ℕ) (xs : List Slot) (i : ℕ) (x : Slot) → rises_from m xs ≡ true → slice_get xs i ≡ Some x → x.station.row < n → i < place_of n xs
place_up m n [] i x h e less = absurd cc
place_up m n (y ∷ ys) zero x h e less =
    let is : y ≡ x = cc in
    let same : y.station.row ≡ x.station.row = ap (λ (s : Slot). s.station.row) is in
    let place : place_of n (y ∷ ys) ≡ suc (place_of n ys) = below_place n y ys (omega arith) in
    omega arith
place_up m n (y ∷ ys) (suc i) x h e less =
    let rest : rises_from (suc y.station.row) ys ≡ true = and_right (nat_le m y.station.row) (rises_from (suc y.station.row) ys) h in
    let behind : suc y.station.row ≤ x.station.row = at_least (suc y.station.row) ys i x rest e in
    let place : place_of n (y ∷ ys) ≡ suc (place_of n ys) = below_place n y ys (omega arith) in
    let further : i < place_of n ys = place_up (suc y.station.row) n ys i x rest e less in
    omega arith

pub place_down : (n : ℕ) (xs : List Slot) (i : ℕ) (x : Slot) → slice_get xs i ≡ Some x → n ≤ x.station.row → place_of n xs ≤ i
place_down n [] i x e le = absurd cc
place_down n (y ∷ ys) zero x e le =
    let is : y ≡ x = cc in
    let same : y.station.row ≡ x.station.row = ap (λ (s : Slot). s.station.row) is in
    let place : place_of n (y ∷ ys) ≡ 0 = at_place n y ys (omega arith) in
    omega arith
place_down n (y ∷ ys) (suc i) x e le = by_test (nat_lt y.station.row n) (place_down n ys i x e le)
  where
    by_test : (b : Bool) → place_of n ys ≤ i → cond b (suc (place_of n ys)) 0 ≤ suc i
    by_test true ih = omega arith
    by_test false ih = omega arith

pub place_here : (m n : ℕ) (xs : List Slot) (i : ℕ) (x : Slot) → rises_from m xs ≡ true → slice_get xs i ≡ Some x → x.station.row ≡ n → i ≡ place_of n xs
place_here m n [] i x h e is = absurd cc
place_here m n (y ∷ ys) zero x h e is =
    let here : y ≡ x = cc in
    let same : y.station.row ≡ x.station.row = ap (λ (s : Slot). s.station.row) here in
    sym (at_place n y ys (omega arith))
place_here m n (y ∷ ys) (suc i) x h e is =
    let rest : rises_from (suc y.station.row) ys ≡ true = and_right (nat_le m y.station.row) (rises_from (suc y.station.row) ys) h in
    let behind : suc y.station.row ≤ x.station.row = at_least (suc y.station.row) ys i x rest e in
    ap suc (place_here (suc y.station.row) n ys i x rest e is) ∙ sym (below_place n y ys (omega arith))

none_above : (m n : ℕ) (xs : List Slot) → rises_from m xs ≡ true → n < m → list_any (slot_named n) xs ≡ false
none_above m n [] h less = refl
none_above m n (y ∷ ys) h less =
    let here : m ≤ y.station.row = leb-true m y.station.row (and_left _ _ h) in
    ap (λ b. b || list_any (slot_named n) ys) (not_same n y.station.row (omega arith))
    ∙ none_above (suc y.station.row) n ys (and_right (nat_le m y.station.row) (rises_from (suc y.station.row) ys) h) (omega arith)

-- a live row stands at its place
pub named_there : (m n : ℕ) (xs : List Slot) → rises_from m xs ≡ true → list_any (slot_named n) xs ≡ true
    → (x : Slot) × (slice_get xs (place_of n xs) ≡ Some x) × (find (slot_named n) xs ≡ Some x)
named_there m n [] h live = absurd cc
named_there m n (y ∷ ys) h live = by_test (nat_lt y.station.row n) (y.station.row == n) refl refl live (λ k. named_there (suc y.station.row) n ys rest k)
  where
    rest : rises_from (suc y.station.row) ys ≡ true
    rest = and_right (nat_le m y.station.row) (rises_from (suc y.station.row) ys) h

    by_test : (a b : Bool) → nat_lt y.station.row n ≡ a → (y.station.row == n) ≡ b → (b || list_any (slot_named n) ys) ≡ true
        → (list_any (slot_named n) ys ≡ true → (x : Slot) × (slice_get ys (place_of n ys) ≡ Some x) × (find (slot_named n) ys ≡ Some x))
        → (x : Slot) × (slice_get (y ∷ ys) (cond a (suc (place_of n ys)) 0) ≡ Some x) × (cond b (Some y) (find (slot_named n) ys) ≡ Some x)
    by_test false true e f live ih = (y, refl, refl)
    by_test true false e f live ih = ih live
    by_test true true e f live ih =
        let less : y.station.row < n = ltb-true y.station.row n e in
        let same : y.station.row ≡ n = eqb-true y.station.row n f in
        absurd (omega arith)
    by_test false false e f live ih =
        let none : list_any (slot_named n) ys ≡ false = none_above (suc y.station.row) n ys rest (not_less y.station.row n e f) in
        absurd (differ (list_any (slot_named n) ys) live none)

-- what is read at the place of a live row is that row
pub named_is : (n : ℕ) (xs : List Slot) (at : ℕ) (x : Slot) → rises_from 0 xs ≡ true → list_any (slot_named n) xs ≡ true → at ≡ place_of n xs
    → slice_get xs at ≡ Some x → find (slot_named n) xs ≡ Some x
named_is n xs at x h live is e =
    let (y, there, found) = named_there 0 n xs h live in
    found ∙ (sym there ∙ (ap (slice_get xs) (sym is) ∙ e))

pub named_within : (n : ℕ) (xs : List Slot) (at : ℕ) → rises_from 0 xs ≡ true → list_any (slot_named n) xs ≡ true → at ≡ place_of n xs → at < length xs
named_within n xs at h live is =
    let (y, there, found) = named_there 0 n xs h live in
    slice_get_within xs at y (ap (slice_get xs) is ∙ there)

-- ---- walks that begin at a place

skip_found : (what : Search) (n : ℕ) (xs : List Slot) → find (wanted what (Some n)) xs ≡ find (wanted what (Some n)) (drop (place_of n xs) xs)
skip_found what n [] = refl
skip_found what n (y ∷ ys) = by_test (nat_lt y.station.row n) refl (skip_found what n ys)
  where
    by_test : (b : Bool) → nat_lt y.station.row n ≡ b → find (wanted what (Some n)) ys ≡ find (wanted what (Some n)) (drop (place_of n ys) ys)
        → find (wanted what (Some n)) (y ∷ ys) ≡ find (wanted what (Some n)) (drop (cond b (suc (place_of n ys)) 0) (y ∷ ys))
    by_test true e ih =
        let less : y.station.row < n = ltb-true y.station.row n e in
        ap (λ b. cond (b && slot_passes what y) (Some y) (find (wanted what (Some n)) ys)) (not_below n y.station.row (omega arith)) ∙ ih
    by_test false e ih = refl

pub skipped : (what : Search) (after : Option ℕ) (xs : List Slot) → least_of what after (drop (place_behind after xs) xs) ≡ least_of what after xs
skipped what None xs = refl
skipped what (Some n) xs = ap (option_map (λ (s : Slot). s.station.row)) (sym (skip_found what n xs))

pub behind_within : (after : Option ℕ) (xs : List Slot) → place_behind after xs ≤ length xs
behind_within None xs = omega arith
behind_within (Some n) xs = place_within n xs

pub drop_older : (n : ℕ) (older newer all : List Slot) → older ++ newer ≡ all → n ≤ length older → drop n older ++ newer ≡ drop n all
drop_older n older newer all e le = sym (drop-append-le n older newer le) ∙ ap (drop n) e

pub drop_newer : (n : ℕ) (older newer all : List Slot) → older ++ newer ≡ all → length older ≤ n → drop (n - length older) newer ≡ drop n all
drop_newer n older newer all e le =
    let sum : length older + (n - length older) ≡ n = omega arith in
    sym (ap (drop (n - length older)) (drop_at older newer (length older) refl))
    ∙ (drop-drop (n - length older) (length older) (older ++ newer)
    ∙ (ap (λ k. drop k (older ++ newer)) sum ∙ ap (drop n) e))

-- the least of two pieces, of which the older one is read from a place on, or the newer one alone
pub least_from_older : (what : Search) (after : Option ℕ) (n : ℕ) (older back newer all : List Slot) (found : Option ℕ) → older ++ newer ≡ all
    → n ≡ place_behind after all → n ≤ length older → back ≡ drop n older → found ≡ least_of what after back
    → or_else found (least_of what after newer) ≡ least_of what after all
least_from_older what after n older back newer all found e is le taken here =
    least_of_two what after back newer (drop n all) found (ap (λ (l : List Slot). l ++ newer) taken ∙ drop_older n older newer all e le) here
    ∙ (ap (λ k. least_of what after (drop k all)) is ∙ skipped what after all)

pub least_from_newer : (what : Search) (after : Option ℕ) (n : ℕ) (older back newer all : List Slot) (found : Option ℕ) → older ++ newer ≡ all
    → n ≡ place_behind after all → length older ≤ n → back ≡ drop (n - length older) newer → found ≡ least_of what after back
    → found ≡ least_of what after all
least_from_newer what after n older back newer all found e is le taken here =
    here ∙ (ap (least_of what after) (taken ∙ drop_newer n older newer all e le)
    ∙ (ap (λ k. least_of what after (drop k all)) is ∙ skipped what after all))

pub start_there : (n : ℕ) (e : Event) (xs : List Slot) → xs ≡ map (after_from n e) (take (place_of n xs) xs) ++ drop (place_of n xs) xs
start_there n e [] = refl
start_there n e (y ∷ ys) = by_test (nat_lt y.station.row n) refl (start_there n e ys)
  where
    by_test : (b : Bool) → nat_lt y.station.row n ≡ b → ys ≡ map (after_from n e) (take (place_of n ys) ys) ++ drop (place_of n ys) ys
        → y ∷ ys ≡ map (after_from n e) (take (cond b (suc (place_of n ys)) 0) (y ∷ ys)) ++ drop (cond b (suc (place_of n ys)) 0) (y ∷ ys)
    by_test true is ih =
        ap (λ (l : List Slot). y ∷ l) ih
        ∙ ap (λ b. cond b y (slot_after e y) ∷ (map (after_from n e) (take (place_of n ys) ys) ++ drop (place_of n ys) ys)) (sym is)
    by_test false is ih = refl

pub all_told : (f : Slot → Slot) (n : ℕ) (xs : List Slot) → length xs ≤ n → map f (take n xs) ++ drop n xs ≡ map f xs
all_told f zero [] le = refl
all_told f (suc n) [] le = refl
all_told f zero (x ∷ xs) le = absurd (omega arith)
all_told f (suc n) (x ∷ xs) le = ap (λ (l : List Slot). f x ∷ l) (all_told f n xs (omega arith))
