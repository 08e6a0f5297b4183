-- The entries of a ring, and that their rows rise.
use Rattle.std.proofs.Common.{◌≡◌, ℕ, ◌+◌, ◌-◌, ◌<◌, ◌≤◌, Some, None, cond, Bool, true, false, List, [], ◌∷◌, ◌++◌, length, take, drop, refl, sym, ap, ◌∙◌, arith, length-append}
use Rattle.std.specs.Prelude.{map, reverse, filter, slice_get, option_map, Option, ◌==◌, ◌&&◌, nat_le, nat_lt, if◌then◌else◌}
use Rattle.std.proofs.lemmas.List.{reverse-append, map-append, length-map, length-reverse}
use Rattle.std.proofs.lemmas.Bool.{ltb-true, lt-ltb, leb-true, le-leb}
use Rattle.circular_buffer.specs.Buffer.{Buffer, buffer}
use Rattle.lsq_core.specs.declared.slots.Slot.{Slot}
use Rattle.lsq_core.specs.declared.slots.Part.TheVariants.{Address, Data}
use Rattle.lsq_core.specs.Queue.{Entry, Queue, is_above, falls_below, rises_to, set_once, first_row, with_address, with_data, squashed, retired}
use Rattle.lsq_core.specs.Slots.{entry_of, entries_of, queue_of, learned, with_part, up_to}

-- ---- entries of a ring

pub pushed : (xs : List Slot) (x : Slot) → entries_of (xs ++ x ∷ []) ≡ entry_of x ∷ entries_of xs
pushed xs x = ap (map entry_of) (reverse-append xs (x ∷ []))

pub entries-length : (xs : List Slot) → length (entries_of xs) ≡ length xs
entries-length xs = length-map (reverse xs) entry_of ∙ length-reverse xs

reverse-map : (g : Slot → Slot) (xs : List Slot) → reverse (map g xs) ≡ map g (reverse xs)
reverse-map g [] = refl
reverse-map g (x ∷ xs) =
    reverse-append (g x ∷ []) (map g xs)
    ∙ (ap (λ l. l ++ (g x ∷ [])) (reverse-map g xs)
    ∙ (sym (map-append g (reverse xs) (x ∷ [])) ∙ ap (map g) (sym (reverse-append (x ∷ []) xs))))

map-shown : (f : Entry → Entry) (g : Slot → Slot) → ((s : Slot) → entry_of (g s) ≡ f (entry_of s)) → (xs : List Slot) → map entry_of (map g xs) ≡ map f (map entry_of xs)
map-shown f g e [] = refl
map-shown f g e (x ∷ xs) = ap (λ y. y ∷ map entry_of (map g xs)) (e x) ∙ ap (λ l. f (entry_of x) ∷ l) (map-shown f g e xs)

pub changed : (f : Entry → Entry) (g : Slot → Slot) → ((s : Slot) → entry_of (g s) ≡ f (entry_of s)) → (xs : List Slot) → entries_of (map g xs) ≡ map f (entries_of xs)
changed f g e xs = ap (map entry_of) (reverse-map g xs) ∙ map-shown f g e (reverse xs)

front : {X : Type 0} (xs : List X) (x : X) → take (length (xs ++ x ∷ []) - 1) (xs ++ x ∷ []) ≡ xs
front {X = X} xs x = ap (λ n. take n (xs ++ x ∷ [])) (long xs) ∙ taken xs
  where
    long : (xs : List X) → length (xs ++ x ∷ []) - 1 ≡ length xs
    long xs = omega (arith, length-append xs (x ∷ []))

    taken : (xs : List X) → take (length xs) (xs ++ x ∷ []) ≡ xs
    taken [] = refl
    taken (y ∷ xs) = ap (λ l. y ∷ l) (taken xs)

pub first_last : (x : Slot) (xs : List Slot) → entries_of (x ∷ xs) ≡ entries_of xs ++ entry_of x ∷ []
first_last x xs = ap (map entry_of) (reverse-append (x ∷ []) xs) ∙ map-append entry_of (reverse xs) (x ∷ [])

pub without_first : (xs : List Slot) → entries_of (drop 1 xs) ≡ take (length (entries_of xs) - 1) (entries_of xs)
without_first [] = refl
without_first (x ∷ xs) = sym (ap (λ l. take (length l - 1) l) (first_last x xs) ∙ front (entries_of xs) (entry_of x))

last-get : {X : Type 0} (xs : List X) (x : X) → slice_get (xs ++ x ∷ []) (length (xs ++ x ∷ []) - 1) ≡ Some x
last-get {X = X} xs x = ap (λ n. slice_get (xs ++ x ∷ []) n) (long xs) ∙ at_end xs
  where
    long : (xs : List X) → length (xs ++ x ∷ []) - 1 ≡ length xs
    long xs = omega (arith, length-append xs (x ∷ []))

    at_end : (xs : List X) → slice_get (xs ++ x ∷ []) (length xs) ≡ Some x
    at_end [] = refl
    at_end (y ∷ xs) = at_end xs

pub first_entry : (xs : List Slot) → option_map (λ (s : Slot). s.row) (slice_get xs 0) ≡ first_row (entries_of xs)
first_entry [] = refl
first_entry (x ∷ xs) =
    sym (ap first_row (first_last x xs) ∙ ap (option_map (λ (e : Entry). e.row)) (last-get (entries_of xs) (entry_of x)))

-- ---- rows that rise

pub and_left : (a b : Bool) → (a && b) ≡ true → a ≡ true
and_left true b e = refl
and_left false b e = e

pub and_right : (a b : Bool) → (a && b) ≡ true → b ≡ true
and_right true b e = e
and_right false b e = absurd cc

both : (a b : Bool) → a ≡ true → b ≡ true → (a && b) ≡ true
both true b e f = f
both false b e f = e

pub below_more : (m n : ℕ) (es : List Entry) → m ≤ n → falls_below m es ≡ true → falls_below n es ≡ true
below_more m n [] le h = refl
below_more m n (e ∷ older) le h =
    let here : e.row < m = ltb-true e.row m (and_left _ _ h) in
    both _ _ (lt-ltb e.row n (omega arith)) (and_right _ _ h)

pub rises_pushed : (last : Option ℕ) (row : ℕ) (es : List Entry) (new : Entry) → new.row ≡ row → rises_to last es ≡ true → is_above last row ≡ true
    → falls_below (row + 1) (new ∷ es) ≡ true
rises_pushed None row [] new e h above = both _ _ (lt-ltb new.row (row + 1) (omega arith)) refl
rises_pushed None row (x ∷ es) new e h above = absurd cc
rises_pushed (Some last) row es new e h above =
    let after : last < row = ltb-true last row above in
    both _ _ (lt-ltb new.row (row + 1) (omega arith)) (below_more (last + 1) new.row es (omega arith) h)

map_falls : (f : Entry → Entry) → ((e : Entry) → (f e).row ≡ e.row) → (n : ℕ) (es : List Entry) → falls_below n (map f es) ≡ falls_below n es
map_falls f k n [] = refl
map_falls f k n (e ∷ es) =
    ap (λ r. nat_lt r n && falls_below r (map f es)) (k e) ∙ ap (λ b. nat_lt e.row n && b) (map_falls f k e.row es)

pub rises_mapped : (f : Entry → Entry) → ((e : Entry) → (f e).row ≡ e.row) → (last : Option ℕ) (es : List Entry) → rises_to last es ≡ true → rises_to last (map f es) ≡ true
rises_mapped f k None [] h = refl
rises_mapped f k None (e ∷ es) h = absurd cc
rises_mapped f k (Some last) es h = map_falls f k (last + 1) es ∙ h

up_to_falls : (row n : ℕ) (es : List Entry) → falls_below n es ≡ true → falls_below n (up_to row es) ≡ true
up_to_falls row n [] h = refl
up_to_falls row n (e ∷ older) h =
    let here : e.row < n = ltb-true e.row n (and_left _ _ h) in
    by_test (nat_le e.row row) (up_to_falls row n older (below_more e.row n older (omega arith) (and_right _ _ h)))
  where
    by_test : (b : Bool) → falls_below n (up_to row older) ≡ true → falls_below n (cond b (e ∷ older) (up_to row older)) ≡ true
    by_test true ih = h
    by_test false ih = ih

pub rises_up_to : (row : ℕ) (last : Option ℕ) (es : List Entry) → rises_to last es ≡ true → rises_to last (up_to row es) ≡ true
rises_up_to row None [] h = refl
rises_up_to row None (e ∷ es) h = absurd cc
rises_up_to row (Some last) es h = up_to_falls row (last + 1) es h

front_falls : (n : ℕ) (es : List Entry) (e : Entry) → falls_below n (es ++ e ∷ []) ≡ true → falls_below n es ≡ true
front_falls n [] e h = refl
front_falls n (x ∷ es) e h = both _ _ (and_left _ _ h) (front_falls x.row es e (and_right _ _ h))

pub rises_front : (last : Option ℕ) (es : List Entry) (e : Entry) → rises_to last (es ++ e ∷ []) ≡ true → rises_to last es ≡ true
rises_front None [] e h = refl
rises_front None (x ∷ es) e h = absurd cc
rises_front (Some last) es e h = front_falls (last + 1) es e h

pub rises_dropped : (last : Option ℕ) (xs : List Slot) → rises_to last (entries_of xs) ≡ true → rises_to last (entries_of (drop 1 xs)) ≡ true
rises_dropped last [] h = h
rises_dropped last (x ∷ xs) h = rises_front last (entries_of xs) (entry_of x) (ap (rises_to last) (sym (first_last x xs)) ∙ h)

all_kept : (row n : ℕ) (es : List Entry) → n ≤ row + 1 → falls_below n es ≡ true → filter (λ e. nat_le e.row row) es ≡ es
all_kept row n [] le h = refl
all_kept row n (e ∷ older) le h =
    let here : e.row < n = ltb-true e.row n (and_left _ _ h) in
    ap (λ b. cond b (e ∷ filter (λ e. nat_le e.row row) older) (filter (λ e. nat_le e.row row) older)) (le-leb e.row row (omega arith))
    ∙ ap (λ l. e ∷ l) (all_kept row e.row older (omega arith) (and_right _ _ h))

falls_kept : (row n : ℕ) (es : List Entry) → falls_below n es ≡ true → up_to row es ≡ filter (λ e. nat_le e.row row) es
falls_kept row n [] h = refl
falls_kept row n (e ∷ older) h = by_test (nat_le e.row row) refl (falls_kept row e.row older (and_right _ _ h))
  where
    by_test : (b : Bool) → nat_le e.row row ≡ b → up_to row older ≡ filter (λ e. nat_le e.row row) older
        → cond b (e ∷ older) (up_to row older) ≡ cond b (e ∷ filter (λ e. nat_le e.row row) older) (filter (λ e. nat_le e.row row) older)
    by_test true is ih =
        let within : e.row ≤ row = leb-true e.row row is in
        ap (λ l. e ∷ l) (sym (all_kept row e.row older (omega arith) (and_right _ _ h)))
    by_test false is ih = ih

pub up_to_kept : (row : ℕ) (last : Option ℕ) (es : List Entry) → rises_to last es ≡ true → up_to row es ≡ filter (λ e. nat_le e.row row) es
up_to_kept row None [] h = refl
up_to_kept row None (e ∷ es) h = absurd cc
up_to_kept row (Some last) es h = falls_kept row (last + 1) es h

-- ---- the clauses of the calls

address_shown : (row c : ℕ) (s : Slot) → entry_of (learned row c Address s) ≡ (if s.row == row then record (entry_of s) { address = set_once c s.address } else entry_of s)
address_shown row c s = by_row (s.row == row)
  where
    by_row : (b : Bool) → entry_of (cond b (with_part Address c s) s) ≡ cond b (record (entry_of s) { address = set_once c s.address }) (entry_of s)
    by_row true = refl
    by_row false = refl

data_shown : (row c : ℕ) (s : Slot) → entry_of (learned row c Data s) ≡ (if s.row == row then record (entry_of s) { data_done = set_once c s.data_done } else entry_of s)
data_shown row c s = by_row (s.row == row)
  where
    by_row : (b : Bool) → entry_of (cond b (with_part Data c s) s) ≡ cond b (record (entry_of s) { data_done = set_once c s.data_done }) (entry_of s)
    by_row true = refl
    by_row false = refl

pub address_returns : (slots new : Buffer Slot) (old : Queue) (last : Option ℕ) (row c : ℕ) → queue_of slots last ≡ old
    → new ≡ buffer (map (learned row c Address) slots.items) slots.capacity → queue_of new last ≡ with_address row c old
address_returns slots new old last row c v e =
    ap (λ b. queue_of b last) e
    ∙ (ap (λ es. let q : Queue = record { entries = es; size = slots.capacity; last = last } in q) (changed (λ e. if e.row == row then record e { address = set_once c e.address } else e) (learned row c Address) (address_shown row c) slots.items)
    ∙ ap (with_address row c) v)

pub data_returns : (slots new : Buffer Slot) (old : Queue) (last : Option ℕ) (row c : ℕ) → queue_of slots last ≡ old
    → new ≡ buffer (map (learned row c Data) slots.items) slots.capacity → queue_of new last ≡ with_data row c old
data_returns slots new old last row c v e =
    ap (λ b. queue_of b last) e
    ∙ (ap (λ es. let q : Queue = record { entries = es; size = slots.capacity; last = last } in q) (changed (λ e. if e.row == row then record e { data_done = set_once c e.data_done } else e) (learned row c Data) (data_shown row c) slots.items)
    ∙ ap (with_data row c) v)

row_kept : (row : ℕ) (change : Entry → Entry) → ((e : Entry) → (change e).row ≡ e.row) → (e : Entry) → (if e.row == row then change e else e).row ≡ e.row
row_kept row change k e = by_row (e.row == row)
  where
    by_row : (b : Bool) → (cond b (change e) e).row ≡ e.row
    by_row true = k e
    by_row false = refl

pub address_rises : (slots new : Buffer Slot) (last : Option ℕ) (row c : ℕ) → rises_to last (entries_of slots.items) ≡ true
    → new ≡ buffer (map (learned row c Address) slots.items) slots.capacity → rises_to last (entries_of new.items) ≡ true
address_rises slots new last row c h e =
    ap (λ b. rises_to last (entries_of b.items)) e
    ∙ (ap (rises_to last) (changed (λ e. if e.row == row then record e { address = set_once c e.address } else e) (learned row c Address) (address_shown row c) slots.items)
    ∙ rises_mapped (λ e. if e.row == row then record e { address = set_once c e.address } else e) (row_kept row (λ e. record e { address = set_once c e.address }) (λ e. refl)) last (entries_of slots.items) h)

pub data_rises : (slots new : Buffer Slot) (last : Option ℕ) (row c : ℕ) → rises_to last (entries_of slots.items) ≡ true
    → new ≡ buffer (map (learned row c Data) slots.items) slots.capacity → rises_to last (entries_of new.items) ≡ true
data_rises slots new last row c h e =
    ap (λ b. rises_to last (entries_of b.items)) e
    ∙ (ap (rises_to last) (changed (λ e. if e.row == row then record e { data_done = set_once c e.data_done } else e) (learned row c Data) (data_shown row c) slots.items)
    ∙ rises_mapped (λ e. if e.row == row then record e { data_done = set_once c e.data_done } else e) (row_kept row (λ e. record e { data_done = set_once c e.data_done }) (λ e. refl)) last (entries_of slots.items) h)

pub squash_returns : (slots new : Buffer Slot) (old : Queue) (last : Option ℕ) (row count : ℕ) → queue_of slots last ≡ old
    → rises_to last (entries_of slots.items) ≡ true → entries_of (take count slots.items) ≡ up_to row (entries_of slots.items)
    → new ≡ buffer (take count slots.items) slots.capacity → queue_of new last ≡ squashed row old
squash_returns slots new old last row count v h e f =
    ap (λ b. queue_of b last) f
    ∙ (ap (λ es. let q : Queue = record { entries = es; size = slots.capacity; last = last } in q) (e ∙ up_to_kept row last (entries_of slots.items) h)
    ∙ ap (squashed row) v)

pub squash_rises : (slots new : Buffer Slot) (last : Option ℕ) (row count : ℕ)
    → rises_to last (entries_of slots.items) ≡ true → entries_of (take count slots.items) ≡ up_to row (entries_of slots.items)
    → new ≡ buffer (take count slots.items) slots.capacity → rises_to last (entries_of new.items) ≡ true
squash_rises slots new last row count h e f =
    ap (λ b. rises_to last (entries_of b.items)) f ∙ (ap (rises_to last) e ∙ rises_up_to row last (entries_of slots.items) h)

pub retire_returns : (slots new : Buffer Slot) (old : Queue) (last : Option ℕ) → queue_of slots last ≡ old
    → new ≡ buffer (drop 1 slots.items) slots.capacity → queue_of new last ≡ retired old
retire_returns slots new old last v e =
    ap (λ b. queue_of b last) e
    ∙ (ap (λ es. let q : Queue = record { entries = es; size = slots.capacity; last = last } in q) (without_first slots.items) ∙ ap retired v)

pub retire_rises : (slots new : Buffer Slot) (last : Option ℕ) → rises_to last (entries_of slots.items) ≡ true
    → new ≡ buffer (drop 1 slots.items) slots.capacity → rises_to last (entries_of new.items) ≡ true
retire_rises slots new last h e = ap (λ b. rises_to last (entries_of b.items)) e ∙ rises_dropped last slots.items h

pub add_rises : (slots new : Buffer Slot) (last : Option ℕ) (row : ℕ) (x : Slot) → x.row ≡ row → rises_to last (entries_of slots.items) ≡ true
    → is_above last row ≡ true → new ≡ buffer (slots.items ++ x ∷ []) slots.capacity → falls_below (row + 1) (entries_of new.items) ≡ true
add_rises slots new last row x is h above e =
    ap (λ b. falls_below (row + 1) (entries_of b.items)) e
    ∙ (ap (falls_below (row + 1)) (pushed slots.items x) ∙ rises_pushed last row (entries_of slots.items) (entry_of x) is h above)
