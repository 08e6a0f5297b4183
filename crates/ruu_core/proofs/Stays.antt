-- What happens to a row leaves all older ones as they are: none of them waits for it.
use Rattle.std.proofs.Common.{◌≡◌, ℕ, ◌+◌, ◌<◌, ◌≤◌, Some, None, cond, Bool, true, false, List, [], ◌∷◌, refl, sym, ap, ◌∙◌, arith}
use Rattle.std.specs.Prelude.{map, reverse, find, Option, ◌==◌, ◌&&◌, not, nat_lt, if◌then◌else◌}
use Rattle.std.proofs.lemmas.List.{reverse-reverse}
use Rattle.std.proofs.lemmas.Bool.{eqb-true, ltb-true}
use Rattle.circular_buffer.specs.Buffer.{Buffer, buffer}
use Rattle.pisa_isa.specs.declared.places.Place.{Place}
use Rattle.ruu_core.specs.declared.slot.Slot.{Slot}
use Rattle.ruu_core.specs.declared.slot.Source.{Source}
use Rattle.ruu_core.specs.declared.slot.Event.{Event}
use Rattle.ruu_core.specs.declared.slot.Event.TheVariants as event
use Rattle.ruu_core.specs.Window.{Row, is_at, main_reads, second_reads, writes_place, producer, falls_below, rises_to}
use Rattle.ruu_core.specs.Slots.{shown, rows_of, Feeds, FeedAll, IsLinked, AreLinked, IsSound, source_after, sources_after, slot_after}
use Rattle.ruu_core.proofs.Rows.{reverse-map, and_left, and_right}

-- a slot from the row on is told of the event, an older one stays
abbrev pub after_from : ℕ → Event → Slot → Slot
after_from n e x = if nat_lt x.station.row n then x else slot_after e x

other : (a b : ℕ) → a < b → (a == b) ≡ false
other a b h = by_test (a == b) refl
  where
    by_test : (t : Bool) → (a == b) ≡ t → t ≡ false
    by_test true e = let same : a ≡ b = eqb-true a b e in absurd (omega arith)
    by_test false e = refl

found_below : (q : Row → Bool) (m : ℕ) (rs : List Row) (o : Row) → falls_below m rs ≡ true → find q rs ≡ Some o → o.station.row < m
found_below q m [] o h e = absurd cc
found_below q m (x ∷ rs) o h e = by_test (q x) e (λ k. found_below q x.station.row rs o (and_right _ _ h) k)
  where
    by_test : (b : Bool) → cond b (Some x) (find q rs) ≡ Some o → (find q rs ≡ Some o → o.station.row < x.station.row) → o.station.row < m
    by_test true e ih =
        let is : x ≡ o = cc in
        let same : x.station.row ≡ o.station.row = ap (λ (y : Row). y.station.row) is in
        let less : x.station.row < m = ltb-true x.station.row m (and_left (nat_lt x.station.row m) (falls_below x.station.row rs) h) in
        omega arith
    by_test false e ih =
        let behind : o.station.row < x.station.row = ih e in
        let less : x.station.row < m = ltb-true x.station.row m (and_left (nat_lt x.station.row m) (falls_below x.station.row rs) h) in
        omega arith

-- sources of rows below the number, under a change that leaves sources of other rows
fed_below : (m n : ℕ) (older : List Row) (p : Place) (x : Source) (found : Option Row) → m ≤ n → falls_below m older ≡ true → producer older p ≡ found → Feeds found x → is_at n x.row ≡ false
fed_below m n older p x None le h is fed = ap (is_at n) fed
fed_below m n older p x (Some o) le h is (row, load, done) =
    let less : o.station.row < m = found_below (λ r. writes_place p r.station) m older o h is in
    ap (is_at n) row ∙ other o.station.row n (omega arith)

all_stay : (m n : ℕ) (g : Source → Source) → ((x : Source) → is_at n x.row ≡ false → g x ≡ x) → m ≤ n → (older : List Row) → falls_below m older ≡ true
    → (ps : List Place) (xs : List Source) → FeedAll older ps xs → map g xs ≡ xs
all_stay m n g keep le older h [] [] f = refl
all_stay m n g keep le older h [] (x ∷ xs) (none, f) =
    ap (λ (y : Source). y ∷ map g xs) (keep x (ap (is_at n) none)) ∙ ap (λ (l : List Source). x ∷ l) (all_stay m n g keep le older h [] xs f)
all_stay m n g keep le older h (p ∷ ps) [] f = absurd f
all_stay m n g keep le older h (p ∷ ps) (x ∷ xs) (one, f) =
    ap (λ (y : Source). y ∷ map g xs) (keep x (fed_below m n older p x (producer older p) le h refl one))
    ∙ ap (λ (l : List Source). x ∷ l) (all_stay m n g keep le older h ps xs f)

sources_stay : (n : ℕ) (e : Event) → ((x : Source) → is_at n x.row ≡ false → source_after e x ≡ x) → (older : List Row) (s : Slot) → s.station.row ≤ n
    → IsLinked older s → falls_below s.station.row older ≡ true → sources_after e s ≡ s
sources_stay n e keep older s le l h =
    ap (λ (xs : List Source). record s { main = xs; second = map (source_after e) s.second }) (all_stay s.station.row n (source_after e) keep le older h (main_reads s.station) s.main l.main)
    ∙ ap (λ (xs : List Source). record s { second = xs }) (all_stay s.station.row n (source_after e) keep le older h (second_reads s.station) s.second l.second)

issued_keeps : (n c done : ℕ) (x : Source) → is_at n x.row ≡ false → source_after (event.Issued n c done) x ≡ x
issued_keeps n c done x e = ap (λ b. cond (b && not x.load) (record x { done = Some done }) x) e

accessed_keeps : (n c done : ℕ) (x : Source) → is_at n x.row ≡ false → source_after (event.Accessed n c done) x ≡ x
accessed_keeps n c done x e = ap (λ b. cond (b && x.load) (record x { done = Some done }) x) e

issued_stays : (n c done : ℕ) (older : List Row) (s : Slot) → s.station.row < n → IsLinked older s → falls_below s.station.row older ≡ true → slot_after (event.Issued n c done) s ≡ s
issued_stays n c done older s less l h =
    ap (λ b. sources_after (event.Issued n c done) (cond b (record s { issued = Some c; written = Some done }) s)) (other s.station.row n less)
    ∙ sources_stay n (event.Issued n c done) (issued_keeps n c done) older s (omega arith) l h

accessed_stays : (n c done : ℕ) (older : List Row) (s : Slot) → s.station.row < n → IsLinked older s → falls_below s.station.row older ≡ true → slot_after (event.Accessed n c done) s ≡ s
accessed_stays n c done older s less l h =
    ap (λ b. sources_after (event.Accessed n c done) (cond b (record s { accessed = Some c; returned = Some done }) s)) (other s.station.row n less)
    ∙ sources_stay n (event.Accessed n c done) (accessed_keeps n c done) older s (omega arith) l h

same_rows : (n : ℕ) (e : Event) → ((older : List Row) (s : Slot) → s.station.row < n → IsLinked older s → falls_below s.station.row older ≡ true → slot_after e s ≡ s)
    → (m : ℕ) (zs : List Slot) → AreLinked zs → falls_below m (map shown zs) ≡ true → map (after_from n e) zs ≡ map (slot_after e) zs
same_rows n e stays m [] l h = refl
same_rows n e stays m (s ∷ older) (l, ls) h =
    let behind : falls_below s.station.row (map shown older) ≡ true = and_right (nat_lt s.station.row m) (falls_below s.station.row (map shown older)) h in
    ap (λ (y : Slot). y ∷ map (after_from n e) older) (by_test (nat_lt s.station.row n) refl behind)
    ∙ ap (λ (xs : List Slot). slot_after e s ∷ xs) (same_rows n e stays s.station.row older ls behind)
  where
    by_test : (b : Bool) → nat_lt s.station.row n ≡ b → falls_below s.station.row (map shown older) ≡ true → cond b s (slot_after e s) ≡ slot_after e s
    by_test true is behind = sym (stays (map shown older) s (ltb-true s.station.row n is) l behind)
    by_test false is behind = refl

falls_somewhere : (last : Option ℕ) (rs : List Row) → rises_to last rs ≡ true → (m : ℕ) × (falls_below m rs ≡ true)
falls_somewhere (Some m) rs r = (m + 1, r)
falls_somewhere None [] r = (0, refl)
falls_somewhere None (y ∷ rs) r = absurd cc

same_items : (n : ℕ) (e : Event) → ((older : List Row) (s : Slot) → s.station.row < n → IsLinked older s → falls_below s.station.row older ≡ true → slot_after e s ≡ s)
    → (slots : Buffer Slot) (last : Option ℕ) → IsSound slots last → map (after_from n e) slots.items ≡ map (slot_after e) slots.items
same_items n e stays slots last h =
    let (m, falls) = falls_somewhere last (rows_of slots.items) h.rises in
    sym (reverse-reverse (map (after_from n e) slots.items))
    ∙ (ap reverse (reverse-map (after_from n e) slots.items ∙ (same_rows n e stays m (reverse slots.items) h.linked falls ∙ sym (reverse-map (slot_after e) slots.items)))
    ∙ reverse-reverse (map (slot_after e) slots.items))

pub issue_from : (slots new : Buffer Slot) (last : Option ℕ) (n c done : ℕ) → IsSound slots last
    → new ≡ buffer (map (after_from n (event.Issued n c done)) slots.items) slots.capacity → new ≡ buffer (map (slot_after (event.Issued n c done)) slots.items) slots.capacity
issue_from slots new last n c done h e =
    e ∙ ap (λ (l : List Slot). buffer l slots.capacity) (same_items n (event.Issued n c done) (issued_stays n c done) slots last h)

pub access_from : (slots new : Buffer Slot) (last : Option ℕ) (n c done : ℕ) → IsSound slots last
    → new ≡ buffer (map (after_from n (event.Accessed n c done)) slots.items) slots.capacity → new ≡ buffer (map (slot_after (event.Accessed n c done)) slots.items) slots.capacity
access_from slots new last n c done h e =
    e ∙ ap (λ (l : List Slot). buffer l slots.capacity) (same_items n (event.Accessed n c done) (accessed_stays n c done) slots last h)
