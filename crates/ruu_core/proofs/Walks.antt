-- Walks over a list from its first item on, and over the ring from the oldest slot on.
use Rattle.std.proofs.Common.{◌≡◌, ℕ, zero, suc, ◌+◌, ◌-◌, ◌<◌, ◌≤◌, Some, None, cond, Bool, true, false, List, [], ◌∷◌, ◌++◌, length, take, drop, refl, sym, ap, ◌∙◌, arith, add-one}
use Rattle.std.specs.Prelude.{map, reverse, slice_get, slice_set, find, option_map, Option, ◌||◌, nat_le, if◌then◌else◌}
use Rattle.std.specs.List.{list_any}
use Rattle.std.proofs.lemmas.List.{reverse-append, take_more}
use Rattle.std.proofs.lemmas.Option.{slice_get_within, get_or_from_slice_get}
use Rattle.circular_buffer.specs.Buffer.{Buffer, buffer}
use Rattle.pisa_isa.specs.declared.places.Place.{Place}
use Rattle.ruu_core.specs.declared.slot.Slot.{Slot}
use Rattle.ruu_core.specs.declared.slot.Source.{Source}
use Rattle.ruu_core.specs.declared.search.Search.{Search}
use Rattle.ruu_core.specs.Window.{same_place, or_else}
use Rattle.ruu_core.specs.Slots.{up_to, source_of, source_behind, slot_named, wanted, least_of}

-- ---- the items up to a place

pub one_more : {X : Type 0} (xs : List X) (i : ℕ) (x : X) → slice_get xs i ≡ Some x → reverse (take (i + 1) xs) ≡ x ∷ reverse (take i xs)
one_more xs i x e =
    let inside : i < length xs = slice_get_within xs i x e in
    ap reverse (take_more xs i x inside)
    ∙ (ap (λ y. reverse (take i xs ++ y ∷ [])) (get_or_from_slice_get xs i x x e) ∙ reverse-append (take i xs) (x ∷ []))

pub all_taken : {X : Type 0} (xs : List X) → take (length xs) xs ≡ xs
all_taken [] = refl
all_taken (x ∷ xs) = ap (λ l. x ∷ l) (all_taken xs)

-- ---- the first that passes

pub find_there : {X : Type 0} (p : X → Bool) (xs : List X) (i : ℕ) (x : X) → slice_get xs i ≡ Some x → find p (take i xs) ≡ None → p x ≡ true → find p xs ≡ Some x
find_there p [] i x e h t = absurd cc
find_there p (y ∷ xs) zero x e h t =
    let is : y ≡ x = cc in ap (λ b. cond b (Some y) (find p xs)) (ap p is ∙ t) ∙ ap Some is
find_there {X = X} p (y ∷ xs) (suc i) x e h t = by_test (p y) h (λ k. find_there p xs i x e k t)
  where
    by_test : (b : Bool) → cond b (Some y) (find p (take i xs)) ≡ None → (find p (take i xs) ≡ None → find p xs ≡ Some x) → cond b (Some y) (find p xs) ≡ Some x
    by_test true h ih = absurd cc
    by_test false h ih = ih h

find_step : {X : Type 0} (p : X → Bool) (xs : List X) (i : ℕ) (x : X) → slice_get xs i ≡ Some x → find p (take i xs) ≡ None → p x ≡ false → find p (take (suc i) xs) ≡ None
find_step p [] i x e h t = absurd cc
find_step p (y ∷ xs) zero x e h t = let is : y ≡ x = cc in ap (λ b. cond b (Some y) None) (ap p is ∙ t)
find_step {X = X} p (y ∷ xs) (suc i) x e h t = by_test (p y) h (λ k. find_step p xs i x e k t)
  where
    by_test : (b : Bool) → cond b (Some y) (find p (take i xs)) ≡ None → (find p (take i xs) ≡ None → find p (take (suc i) xs) ≡ None) → cond b (Some y) (find p (take (suc i) xs)) ≡ None
    by_test true h ih = absurd cc
    by_test false h ih = ih h

pub find_more : {X : Type 0} (p : X → Bool) (xs : List X) (i : ℕ) (x : X) → slice_get xs i ≡ Some x → find p (take i xs) ≡ None → p x ≡ false → find p (take (i + 1) xs) ≡ None
find_more p xs i x e h t = ap (λ k. find p (take k xs)) (add-one i) ∙ find_step p xs i x e h t

pub find_whole : {X : Type 0} (p : X → Bool) (xs : List X) (n : ℕ) → n ≡ length xs → find p (take n xs) ≡ None → find p xs ≡ None
find_whole p xs n e h = ap (find p) (sym (ap (λ k. take k xs) e ∙ all_taken xs)) ∙ h

pub any_found : {X : Type 0} (p : X → Bool) (xs : List X) → find p xs ≡ None → list_any p xs ≡ true → ⊥
any_found p [] h t = cc
any_found {X = X} p (x ∷ xs) h t = by_test (p x) h t (any_found p xs)
  where
    by_test : (b : Bool) → cond b (Some x) (find p xs) ≡ None → (b || list_any p xs) ≡ true → (find p xs ≡ None → list_any p xs ≡ true → ⊥) → ⊥
    by_test true h t ih = cc
    by_test false h t ih = ih h t

-- the least of two pieces is that of the older one, and where that has none, of the newer one
pub least_of_two : (what : Search) (after : Option ℕ) (older newer all : List Slot) (found : Option ℕ) → older ++ newer ≡ all → found ≡ least_of what after older
    → or_else found (least_of what after newer) ≡ least_of what after all
least_of_two what after older newer all found e is =
    ap (λ o. or_else o (least_of what after newer)) is ∙ (sym (step older) ∙ ap (least_of what after) e)
  where
    step : (xs : List Slot) → least_of what after (xs ++ newer) ≡ or_else (least_of what after xs) (least_of what after newer)
    step [] = refl
    step (x ∷ xs) = by_test (wanted what after x) (step xs)
      where
        by_test : (b : Bool) → least_of what after (xs ++ newer) ≡ or_else (least_of what after xs) (least_of what after newer)
            → option_map (λ (s : Slot). s.station.row) (cond b (Some x) (find (wanted what after) (xs ++ newer)))
            ≡ or_else (option_map (λ (s : Slot). s.station.row) (cond b (Some x) (find (wanted what after) xs))) (least_of what after newer)
        by_test true ih = refl
        by_test false ih = ih

-- ---- all items, one after the other

pub one_changed : {X : Type 0} (f : X → X) (xs : List X) (i : ℕ) (x : X) → slice_get (map f (take i xs) ++ drop i xs) i ≡ Some x
    → slice_set (map f (take i xs) ++ drop i xs) i (f x) ≡ map f (take (i + 1) xs) ++ drop (i + 1) xs
one_changed {X = X} f xs i x e = step xs i e ∙ ap (λ k. map f (take k xs) ++ drop k xs) (sym (add-one i))
  where
    step : (xs : List X) (i : ℕ) → slice_get (map f (take i xs) ++ drop i xs) i ≡ Some x
        → slice_set (map f (take i xs) ++ drop i xs) i (f x) ≡ map f (take (suc i) xs) ++ drop (suc i) xs
    step [] zero e = absurd cc
    step [] (suc i) e = absurd cc
    step (y ∷ xs) zero e = let is : y ≡ x = cc in ap (λ z. f z ∷ xs) (sym is)
    step (y ∷ xs) (suc i) e = ap (λ l. f y ∷ l) (step xs i e)

pub there : {X : Type 0} (f : X → X) (xs : List X) (i : ℕ) → i < length xs → (x : X) × (slice_get (map f (take i xs) ++ drop i xs) i ≡ Some x)
there f [] i h = absurd (omega arith)
there f (y ∷ xs) zero h = (y, refl)
there f (y ∷ xs) (suc i) h = there f xs i (omega arith)

pub step_all : (f : Slot → Slot) (start before after : Buffer Slot) (i : ℕ) → i < length start.items
    → before ≡ buffer (map f (take i start.items) ++ drop i start.items) start.capacity
    → ((x : Slot) → slice_get before.items i ≡ Some x → after ≡ buffer (slice_set before.items i (f x)) before.capacity)
    → after ≡ buffer (map f (take (i + 1) start.items) ++ drop (i + 1) start.items) start.capacity
step_all f start before after i inside e g =
    let (x, at) = there f start.items i inside in
    let at_before : slice_get before.items i ≡ Some x = ap (λ b. slice_get b.items i) e ∙ at in
    g x at_before
    ∙ (ap (λ b. buffer (slice_set b.items i (f x)) b.capacity) e ∙ ap (λ l. buffer l start.capacity) (one_changed f start.items i x at))

-- ---- steps of two walks

-- the newest of the first slots produces the place where it writes it, and else one of those before it
pub source_before : (p : Place) (xs : List Slot) (k : ℕ) (x : Slot) (b : Bool) → 0 < k → slice_get xs (k - 1) ≡ Some x → list_any (λ w. same_place w p) x.writes.items ≡ b
    → source_behind p (reverse (take k xs)) ≡ (if b then source_of x else source_behind p (reverse (take (k - 1) xs)))
source_before p xs k x b some e is =
    let again : k ≡ k - 1 + 1 = omega arith in
    ap (λ n. source_behind p (reverse (take n xs))) again
    ∙ (ap (source_behind p) (one_more xs (k - 1) x e) ∙ ap (λ t. cond t (source_of x) (source_behind p (reverse (take (k - 1) xs)))) is)

pub count_next : (row i count new : ℕ) (xs : List Slot) (x : Slot) → slice_get xs i ≡ Some x → count ≤ i
    → reverse (take count xs) ≡ up_to row (reverse (take i xs)) → new ≡ (if nat_le x.station.row row then i + 1 else count)
    → (new ≤ i + 1) × (reverse (take new xs) ≡ up_to row (reverse (take (i + 1) xs)))
count_next row i count new xs x e le h is =
    let (fits, shows) = by_test (nat_le x.station.row row) is in (fits, shows ∙ sym (ap (up_to row) (one_more xs i x e)))
  where
    by_test : (b : Bool) → new ≡ cond b (i + 1) count
        → (new ≤ i + 1) × (reverse (take new xs) ≡ cond b (x ∷ reverse (take i xs)) (up_to row (reverse (take i xs))))
    by_test true k = (omega arith, ap (λ n. reverse (take n xs)) k ∙ one_more xs i x e)
    by_test false k = (omega arith, ap (λ n. reverse (take n xs)) k ∙ h)

pub step_each : (f : Source → Source) (start before after : List Source) (i : ℕ) (new : Source) → i < length start
    → before ≡ map f (take i start) ++ drop i start → ((x : Source) → slice_get before i ≡ Some x → new ≡ f x)
    → after ≡ slice_set before i new → after ≡ map f (take (i + 1) start) ++ drop (i + 1) start
step_each f start before after i new inside e g is =
    let (x, at) = there f start i inside in
    let at_before : slice_get before i ≡ Some x = ap (λ l. slice_get l i) e ∙ at in
    is ∙ (ap (λ y. slice_set before i y) (g x at_before) ∙ (ap (λ l. slice_set l i (f x)) e ∙ one_changed f start i x at))

pub named_next : (n i : ℕ) (old new : Bool) (xs : List Slot) (x : Slot) → slice_get xs i ≡ Some x → old ≡ list_any (slot_named n) (reverse (take i xs))
    → new ≡ (slot_named n x || old) → new ≡ list_any (slot_named n) (reverse (take (i + 1) xs))
named_next n i old new xs x e h is =
    is ∙ (ap (λ b. slot_named n x || b) h ∙ sym (ap (list_any (slot_named n)) (one_more xs i x e)))
