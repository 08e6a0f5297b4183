-- What the queue learns of stores.
use Rattle.std.proofs.Common.{◌≡◌, ℕ, zero, suc, ◌+◌, ◌≤◌, Bool, true, false, cond, List, [], ◌∷◌, Some, refl, sym, ap, ◌∙◌, arith, length, drop}
use Rattle.std.specs.Prelude.{◌&&◌, ◌||◌, ◌==◌, map, filter, reverse, slice_get}
use Rattle.std.specs.List.{list_any}
use Rattle.std.proofs.lemmas.List.{reverse-append, length-reverse}
use Rattle.std.proofs.lemmas.List.Folds.{list_any-append}
use Rattle.lsq_core.specs.Queue.{Entry, Queue, at_row, with_address, with_data, set_once, holds_store}
use Rattle.ruu_core.specs.Window as unit
use Rattle.ruu_core.specs.Window.{is_row, is_live}
use Rattle.core_parts.specs.declared.addresses.MemoryRow.{MemoryRow}
use Rattle.core_parts.specs.Fits.{Tag, is_memory, unit_tags, queue_tags, address_tags}
use Rattle.core_parts.proofs.Lists.{same_number}
use Rattle.core_recovery.specs.Recovery.{learned, learned_of, address_noted, data_noted}

-- ---- tags

-- a change of marks leaves tags
Marks : (Entry → Entry) → Type 0
Marks f = (e : Entry) → ((f e).row ≡ e.row) × ((f e).store ≡ e.store)

marked_tags : (row : ℕ) (f : Entry → Entry) → Marks f → (entries : List Entry) → queue_tags (at_row row f entries) ≡ queue_tags entries
unfolding Marks
marked_tags row f marks [] = refl
marked_tags row f marks (e ∷ entries) = by_test (e.row == row) (marked_tags row f marks entries)
  where
    tag : ℕ → Bool → Tag
    tag r s = record { row = r; store = s }

    by_test : (b : Bool) → queue_tags (at_row row f entries) ≡ queue_tags entries → queue_tags (cond b (f e) e ∷ at_row row f entries) ≡ queue_tags (e ∷ entries)
    by_test true ih = rw ((marks e).0, (marks e).1, ih) refl
    by_test false ih = rw (ih) refl

pub address_tags_stay : (row c : ℕ) (q : Queue) → queue_tags (with_address row c q).entries ≡ queue_tags q.entries
unfolding Marks
address_tags_stay row c q = marked_tags row (λ e. record e { address = set_once c e.address }) (λ e. (refl, refl)) q.entries

pub data_tags_stay : (row c : ℕ) (q : Queue) → queue_tags (with_data row c q).entries ≡ queue_tags q.entries
unfolding Marks
data_tags_stay row c q = marked_tags row (λ e. record e { data_done = set_once c e.data_done }) (λ e. (refl, refl)) q.entries

any_map : {X Y : Type 0} (f : X → Y) (p : Y → Bool) (xs : List X) → list_any p (map f xs) ≡ list_any (λ x. p (f x)) xs
any_map f p [] = refl
any_map f p (x ∷ xs) = ap (λ b. p (f x) || b) (any_map f p xs)

-- a store of that row
is_store_of : ℕ → Tag → Bool
is_store_of row t = (t.row == row) && t.store

held_by_tags : (row : ℕ) (entries : List Entry) → list_any (is_store_of row) (queue_tags entries) ≡ holds_store row entries
unfolding is_store_of
held_by_tags row entries = any_map {Y = Tag} (λ (e : Entry). record { row = e.row; store = e.store }) (is_store_of row) entries

pub still_held : (row other c : ℕ) (b : Bool) (q : Queue) → holds_store row q.entries ≡ true → holds_store row (address_noted b other c q).entries ≡ true
still_held row other c true q h =
    sym (held_by_tags row (with_address other c q).entries) ∙ (ap (list_any (is_store_of row)) (address_tags_stay other c q) ∙ (held_by_tags row q.entries ∙ h))
still_held row other c false q h = h

-- ---- a row of the addresses is one of the unit, and a store of the queue

any_get : {X : Type 0} (p : X → Bool) (xs : List X) (i : ℕ) (x : X) → slice_get xs i ≡ Some x → p x ≡ true → list_any p xs ≡ true
any_get p [] i x e h = absurd cc
any_get {X = X} p (y ∷ xs) zero x e h = let same : y ≡ x = cc in ap (λ b. b || list_any p xs) (ap p same ∙ h)
any_get p (y ∷ xs) (suc i) x e h = ap (λ b. p y || b) (any_get p xs i x e h) ∙ or_true (p y)
  where
    or_true : (b : Bool) → (b || true) ≡ true
    or_true true = refl
    or_true false = refl

any_reverse : {X : Type 0} (p : X → Bool) (xs : List X) → list_any p (reverse xs) ≡ list_any p xs
any_reverse p [] = refl
any_reverse p (x ∷ xs) =
    ap (list_any p) (reverse-append (x ∷ []) xs)
    ∙ (list_any-append p (reverse xs) (x ∷ [])
    ∙ (ap (λ b. b || (p x || false)) (any_reverse p xs) ∙ swapped (list_any p xs) (p x)))
  where
    swapped : (a b : Bool) → (a || (b || false)) ≡ (b || a)
    swapped true true = refl
    swapped true false = refl
    swapped false true = refl
    swapped false false = refl

-- a row of that number
is_of : ℕ → Tag → Bool
is_of row t = t.row == row

live_by_tags : (row : ℕ) (rows : List unit.Row) → list_any (is_of row) (unit_tags rows) ≡ true → is_live row rows ≡ true
unfolding is_of
live_by_tags row [] h = absurd cc
live_by_tags row (u ∷ rows) h = by_memory (is_memory u) h (live_by_tags row rows)
  where
    or_true : (b : Bool) → (b || true) ≡ true
    or_true true = refl
    or_true false = refl

    by_memory : (b : Bool)
        → list_any (is_of row) (map {B = Tag} (λ (u : unit.Row). record { row = u.station.row; store = unit.is_store u.station }) (cond b (u ∷ filter is_memory rows) (filter is_memory rows))) ≡ true
        → (list_any (is_of row) (unit_tags rows) ≡ true → is_live row rows ≡ true) → (is_row row u || is_live row rows) ≡ true
    by_memory true h ih = by_row (is_row row u) h
      where
        by_row : (d : Bool) → (d || list_any (is_of row) (unit_tags rows)) ≡ true → (d || is_live row rows) ≡ true
        by_row true h = refl
        by_row false h = ih h
    by_memory false h ih = ap (λ b. is_row row u || b) (ih h) ∙ or_true (is_row row u)

pub store_held : (rows : List MemoryRow) (entries : List Entry) (tags : List Tag) (at : ℕ) (x : MemoryRow) → address_tags rows ≡ tags → queue_tags entries ≡ tags
    → slice_get (reverse rows) at ≡ Some x → x.store ≡ true → holds_store x.row entries ≡ true
unfolding is_store_of
store_held rows entries tags at x e f is store =
    sym (held_by_tags x.row entries)
    ∙ (ap (list_any (is_store_of x.row)) (f ∙ sym e)
    ∙ (any_map {Y = Tag} (λ (y : MemoryRow). record { row = y.row; store = y.store }) (is_store_of x.row) rows
    ∙ (sym (any_reverse (λ (y : MemoryRow). (y.row == x.row) && y.store) rows)
    ∙ any_get (λ (y : MemoryRow). (y.row == x.row) && y.store) (reverse rows) at x is (ap (λ b. b && x.store) (same_number x.row) ∙ store))))

pub row_live : (rows : List MemoryRow) (units : List unit.Row) (at : ℕ) (x : MemoryRow) → address_tags rows ≡ unit_tags units
    → slice_get (reverse rows) at ≡ Some x → is_live x.row units ≡ true
unfolding is_of
row_live rows units at x e is =
    live_by_tags x.row units
    (ap (list_any (is_of x.row)) (sym e)
    ∙ (any_map {Y = Tag} (λ (y : MemoryRow). record { row = y.row; store = y.store }) (is_of x.row) rows
    ∙ (sym (any_reverse (λ (y : MemoryRow). y.row == x.row) rows)
    ∙ any_get (λ (y : MemoryRow). y.row == x.row) (reverse rows) at x is (same_number x.row))))

-- ---- the walk

pub drop_next : {X : Type 0} (xs : List X) (i : ℕ) (x : X) → slice_get xs i ≡ Some x → drop i xs ≡ x ∷ drop (i + 1) xs
drop_next [] i x e = absurd cc
drop_next {X = X} (y ∷ xs) zero x e = let same : y ≡ x = cc in ap (λ z. z ∷ xs) same
drop_next (y ∷ xs) (suc i) x e =
    let next : suc i + 1 ≡ suc (i + 1) = omega arith in drop_next xs i x e ∙ sym (ap (λ k. x ∷ drop k (y ∷ xs)) next)

pub drop_all : {X : Type 0} (xs : List X) (i : ℕ) → length xs ≤ i → drop i xs ≡ []
drop_all [] zero le = refl
drop_all [] (suc i) le = refl
drop_all (x ∷ xs) zero le = absurd (omega arith)
drop_all (x ∷ xs) (suc i) le = drop_all xs i (omega (arith, le))

pub drop_rest : {X : Type 0} (xs : List X) (i : ℕ) → length xs ≤ i → drop i (reverse xs) ≡ []
drop_rest xs i le = drop_all (reverse xs) i (omega (arith, length-reverse xs, le))

-- what stays of a queue that learns
pub record Keeps (q q' : Queue) : Type 0 where
  pub tags : queue_tags q'.entries ≡ queue_tags q.entries
  pub size : q'.size ≡ q.size
  pub last : q'.last ≡ q.last

pub learned_keeps : (c : ℕ) (rows : List unit.Row) (x : MemoryRow) (q : Queue) → Keeps q (learned c rows x q)
learned_keeps c rows x q =
    by_store x.store (unit.passes (unit.second_done (unit.is_by c)) x.row rows) (unit.is_by c (unit.written_of x.row rows))
  where
    address : (b : Bool) → Keeps q (address_noted b x.row c q)
    address true = record { tags = address_tags_stay x.row c q; size = refl; last = refl }
    address false = record { tags = refl; size = refl; last = refl }

    both : (d b : Bool) → Keeps q (data_noted d x.row c (address_noted b x.row c q))
    both true b =
        let k = address b in
        record { tags = data_tags_stay x.row c (address_noted b x.row c q) ∙ k.tags; size = k.size; last = k.last }
    both false b = address b

    by_store : (s d b : Bool) → Keeps q (cond s (data_noted d x.row c (address_noted b x.row c q)) q)
    by_store true d b = both d b
    by_store false d b = record { tags = refl; size = refl; last = refl }

pub learned_all_keeps : (c : ℕ) (rows : List unit.Row) (xs : List MemoryRow) (q : Queue) → Keeps q (learned_of c rows xs q)
learned_all_keeps c rows [] q = record { tags = refl; size = refl; last = refl }
learned_all_keeps c rows (x ∷ xs) q =
    let one = learned_keeps c rows x q in
    let rest = learned_all_keeps c rows xs (learned c rows x q) in
    record { tags = rest.tags ∙ one.tags; size = rest.size ∙ one.size; last = rest.last ∙ one.last }
