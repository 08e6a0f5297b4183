-- The clauses of the calls, over the ring as it lies.
use Rattle.std.proofs.Common.{◌≡◌, ℕ, ◌+◌, ◌-◌, ◌≤◌, Some, None, cond, Bool, true, false, List, [], ◌∷◌, ◌++◌, length, take, drop, refl, sym, ap, subst, ◌∙◌, arith, length-take}
use Rattle.std.specs.Prelude.{map, reverse, filter, find, slice_get, option_map, count_by, Option, IsSome, ◌&&◌, not, is_none, nat_le, nat_lt, if◌then◌else◌}
use Rattle.std.specs.Option.{option_and_then}
use Rattle.std.specs.List.{list_any}
use Rattle.std.proofs.lemmas.List.{reverse-append, length-reverse, length-map}
use Rattle.circular_buffer.specs.Buffer.{Buffer, buffer}
use Rattle.pisa_isa.specs.declared.places.Place.{Place}
use Rattle.ruu_core.specs.declared.station.Station.{Station}
use Rattle.ruu_core.specs.declared.slot.Slot.{Slot}
use Rattle.ruu_core.specs.declared.slot.Source.{Source}
use Rattle.ruu_core.specs.declared.slot.Event.TheVariants as event
use Rattle.ruu_core.specs.declared.search.Search.TheVariants as search_for
use Rattle.ruu_core.specs.Window.{Row, Window, is_above, is_by, is_before, is_row, is_live, is_ready, may_access, completes, is_unissued, next, least, passes, second_done, row_of, written_of, first, head_of, finished, may_retire, later, done_cycle, at_row, issuing, accessing, squashed, dropped_by, retired, falls_below, rises_to}
use Rattle.ruu_core.specs.Slots.{shown, rows_of, window_of, IsLinked, AreLinked, IsSound, FeedAll, sources_behind, slot_after, slot_named, up_to, are_fed, least_of}
use Rattle.ruu_core.proofs.Rows.{reverse-map, reverse_first, pushed, rows-length, first_last, without_first, first_row, rises_pushed, rises_mapped, rises_up_to, rises_front, up_to_kept, dropped_kept, named_row, named_reverse, live_slot}
use Rattle.ruu_core.proofs.Links.{issued_fits, accessed_fits, issue_shows, issue_links, access_shows, access_links, up_to_links, retire_shows, retire_links, last_linked, first_done, behind_all, least_answer, ready_passes, access_passes, named_second}

-- ---- marks

pub issue_rows : (n c done : ℕ) (xs : List Slot) → rows_of (map (slot_after (event.Issued n c done)) xs) ≡ map (λ r. if is_row n r then issuing c done r else r) (rows_of xs)
issue_rows n c done xs = ap (map shown) (reverse-map (slot_after (event.Issued n c done)) xs) ∙ issue_shows n c done (reverse xs)

pub access_rows : (n c done : ℕ) (xs : List Slot) → rows_of (map (slot_after (event.Accessed n c done)) xs) ≡ map (λ r. if is_row n r then accessing c done r else r) (rows_of xs)
access_rows n c done xs = ap (map shown) (reverse-map (slot_after (event.Accessed n c done)) xs) ∙ access_shows n c done (reverse xs)

with_rows : ℕ → Option ℕ → Option ℕ → List Row → Window
with_rows size last past rows = record { rows = rows; size = size; last = last; past = past }

pub issue_returns : (slots new : Buffer Slot) (old : Window) (last past : Option ℕ) (n c done : ℕ) → window_of slots last past ≡ old
    → new ≡ buffer (map (slot_after (event.Issued n c done)) slots.items) slots.capacity → window_of new last past ≡ at_row n (issuing c done) old
unfolding with_rows
issue_returns slots new old last past n c done v e =
    ap (λ b. window_of b last past) e ∙ (ap (with_rows slots.capacity last past) (issue_rows n c done slots.items) ∙ ap (at_row n (issuing c done)) v)

pub access_returns : (slots new : Buffer Slot) (old : Window) (last past : Option ℕ) (n c done : ℕ) → window_of slots last past ≡ old
    → new ≡ buffer (map (slot_after (event.Accessed n c done)) slots.items) slots.capacity → window_of new last past ≡ at_row n (accessing c done) old
unfolding with_rows
access_returns slots new old last past n c done v e =
    ap (λ b. window_of b last past) e ∙ (ap (with_rows slots.capacity last past) (access_rows n c done slots.items) ∙ ap (at_row n (accessing c done)) v)

sound_at : (slots new : Buffer Slot) (last : Option ℕ) (items : List Slot) → new ≡ buffer items slots.capacity → IsSound (buffer items slots.capacity) last → IsSound new last
sound_at slots new last items e h = subst (λ b. IsSound b last) (sym e) h

pub issue_sound : (slots new : Buffer Slot) (last : Option ℕ) (n c done : ℕ) → IsSound slots last
    → new ≡ buffer (map (slot_after (event.Issued n c done)) slots.items) slots.capacity → IsSound new last
issue_sound slots new last n c done h e =
    sound_at slots new last (map (slot_after (event.Issued n c done)) slots.items) e
    (record {
      rises = ap (rises_to last) (issue_rows n c done slots.items) ∙ rises_mapped (λ r. if is_row n r then issuing c done r else r) (issued_fits n c done).station last (rows_of slots.items) h.rises;
      linked = subst AreLinked (sym (reverse-map (slot_after (event.Issued n c done)) slots.items)) (issue_links n c done (reverse slots.items) h.linked);
      small = h.small;
    })

pub access_sound : (slots new : Buffer Slot) (last : Option ℕ) (n c done : ℕ) → IsSound slots last
    → new ≡ buffer (map (slot_after (event.Accessed n c done)) slots.items) slots.capacity → IsSound new last
access_sound slots new last n c done h e =
    sound_at slots new last (map (slot_after (event.Accessed n c done)) slots.items) e
    (record {
      rises = ap (rises_to last) (access_rows n c done slots.items) ∙ rises_mapped (λ r. if is_row n r then accessing c done r else r) (accessed_fits n c done).station last (rows_of slots.items) h.rises;
      linked = subst AreLinked (sym (reverse-map (slot_after (event.Accessed n c done)) slots.items)) (access_links n c done (reverse slots.items) h.linked);
      small = h.small;
    })

-- ---- questions

pub ready_answer : (c : ℕ) (after : Option ℕ) (slots : Buffer Slot) (old : Window) (last past : Option ℕ) → window_of slots last past ≡ old → IsSound slots last
    → least_of (search_for.Ready c) after slots.items ≡ next (is_ready c) after old.rows
ready_answer c after slots old last past v h =
    least_answer (search_for.Ready c) (is_ready c) (ready_passes c) after slots.items h.linked ∙ ap (λ (w : Window). next (is_ready c) after w.rows) v

pub access_answer : (c : ℕ) (after : Option ℕ) (slots : Buffer Slot) (old : Window) (last past : Option ℕ) → window_of slots last past ≡ old → IsSound slots last
    → least_of (search_for.Access c) after slots.items ≡ next (may_access c) after old.rows
access_answer c after slots old last past v h =
    least_answer (search_for.Access c) (may_access c) (access_passes c) after slots.items h.linked ∙ ap (λ (w : Window). next (may_access c) after w.rows) v

pub done_answer : (c : ℕ) (after : Option ℕ) (slots : Buffer Slot) (old : Window) (last past : Option ℕ) → window_of slots last past ≡ old → IsSound slots last
    → least_of (search_for.Completion c) after slots.items ≡ next (completes c) after old.rows
done_answer c after slots old last past v h =
    least_answer (search_for.Completion c) (completes c) (λ older s l. refl) after slots.items h.linked ∙ ap (λ (w : Window). next (completes c) after w.rows) v

pub unissued_answer : (slots : Buffer Slot) (old : Window) (last past : Option ℕ) → window_of slots last past ≡ old → IsSound slots last
    → least_of search_for.Unissued None slots.items ≡ least is_unissued old.rows
unissued_answer slots old last past v h =
    least_answer search_for.Unissued is_unissued (λ older s l. refl) None slots.items h.linked ∙ ap (λ (w : Window). least is_unissued w.rows) v

-- ---- named rows

pub named_live : (n : ℕ) (slots : Buffer Slot) (old : Window) (last past : Option ℕ) → window_of slots last past ≡ old → is_live n old.rows ≡ true
    → list_any (slot_named n) slots.items ≡ true
named_live n slots old last past v h = sym (live_slot n slots.items) ∙ (ap (λ (w : Window). is_live n w.rows) v ∙ h)

found : (n : ℕ) (slots : Buffer Slot) (old : Window) (last past : Option ℕ) (s : Slot) → window_of slots last past ≡ old → IsSound slots last
    → find (slot_named n) slots.items ≡ Some s → row_of n old.rows ≡ Some (shown s)
found n slots old last past s v h e =
    ap (λ (w : Window). row_of n w.rows) (sym v) ∙ (named_row last n slots.items h.rises ∙ ap (option_map shown) e)

pub station_answer : (n : ℕ) (slots : Buffer Slot) (old : Window) (last past : Option ℕ) (s : Slot) → window_of slots last past ≡ old → IsSound slots last
    → find (slot_named n) slots.items ≡ Some s → option_map (λ (r : Row). r.station) (row_of n old.rows) ≡ Some s.station
station_answer n slots old last past s v h e = ap (option_map (λ (r : Row). r.station)) (found n slots old last past s v h e)

pub written_answer : (n : ℕ) (slots : Buffer Slot) (old : Window) (last past : Option ℕ) (s : Slot) → window_of slots last past ≡ old → IsSound slots last
    → find (slot_named n) slots.items ≡ Some s → s.written ≡ written_of n old.rows
written_answer n slots old last past s v h e = sym (ap (option_and_then (λ (r : Row). r.written)) (found n slots old last past s v h e))

pub second_answer : (n c : ℕ) (slots : Buffer Slot) (old : Window) (last past : Option ℕ) (s : Slot) → window_of slots last past ≡ old → IsSound slots last
    → find (slot_named n) slots.items ≡ Some s → are_fed (is_by c) s.second ≡ passes (second_done (is_by c)) n old.rows
second_answer n c slots old last past s v h e =
    sym (named_second (is_by c) n (reverse slots.items) s h.linked (named_reverse last n slots.items h.rises ∙ e))
    ∙ ap (λ (w : Window). passes (second_done (is_by c)) n w.rows) v

-- ---- a row enters

pub enter_linked : (xs : List Slot) (ps qs : List Place) (sources : List Source) → AreLinked (reverse xs) → qs ≡ ps → length qs ≤ 3
    → sources ≡ sources_behind qs (reverse xs) → FeedAll (rows_of xs) ps sources
enter_linked xs ps qs sources h e le is =
    subst (λ l. FeedAll (rows_of xs) l sources) e (subst (λ l. FeedAll (rows_of xs) qs l) (sym is) (behind_all qs (reverse xs) le h))

pub enter_sound : (slots new : Buffer Slot) (last : Option ℕ) (n : ℕ) (x : Slot) → x.station.row ≡ n → IsSound slots last → is_above last n ≡ true
    → IsLinked (rows_of slots.items) x → new ≡ buffer (slots.items ++ x ∷ []) slots.capacity → IsSound new (Some n)
enter_sound slots new last n x is h above l e =
    sound_at slots new (Some n) (slots.items ++ x ∷ []) e
    (record {
      rises = ap (falls_below (n + 1)) (pushed slots.items x) ∙ rises_pushed last n (rows_of slots.items) (shown x) is h.rises above;
      linked = subst AreLinked (sym (reverse-append slots.items (x ∷ []))) (l, h.linked);
      small = h.small;
    })

-- ---- a squash

pub squash_returns : (slots new : Buffer Slot) (old : Window) (last past : Option ℕ) (n count : ℕ) → window_of slots last past ≡ old → IsSound slots last
    → reverse (take count slots.items) ≡ up_to n (reverse slots.items) → new ≡ buffer (take count slots.items) slots.capacity
    → window_of new last past ≡ squashed n old
unfolding with_rows
squash_returns slots new old last past n count v h e f =
    ap (λ b. window_of b last past) f
    ∙ (ap (with_rows slots.capacity last past) (ap (map shown) e ∙ up_to_kept n last (reverse slots.items) h.rises) ∙ ap (squashed n) v)

pub squash_sound : (slots new : Buffer Slot) (last : Option ℕ) (n count : ℕ) → IsSound slots last
    → reverse (take count slots.items) ≡ up_to n (reverse slots.items) → new ≡ buffer (take count slots.items) slots.capacity → IsSound new last
squash_sound slots new last n count h e f =
    sound_at slots new last (take count slots.items) f
    (record {
      rises = ap (λ zs. rises_to last (map shown zs)) e ∙ rises_up_to n last (reverse slots.items) h.rises;
      linked = subst AreLinked (sym e) (up_to_links n (reverse slots.items) h.linked);
      small = h.small;
    })

pub squash_counts : (slots : Buffer Slot) (old : Window) (last past : Option ℕ) (n count : ℕ) → window_of slots last past ≡ old → IsSound slots last
    → reverse (take count slots.items) ≡ up_to n (reverse slots.items) → count ≤ length slots.items → length slots.items - count ≡ dropped_by n old
squash_counts slots old last past n count v h e le =
    let kept : length (take count slots.items) ≡ length (filter (λ r. nat_le r.station.row n) (rows_of slots.items)) =
    sym (length-reverse (take count slots.items)) ∙ (sym (length-map (reverse (take count slots.items)) shown)
    ∙ ap length (ap (map shown) e ∙ up_to_kept n last (reverse slots.items) h.rises)) in
    let all : length (filter (λ r. nat_le r.station.row n) (rows_of slots.items)) + count_by (λ r. nat_lt n r.station.row) (rows_of slots.items) ≡ length (rows_of slots.items) =
    dropped_kept n (rows_of slots.items) in
    let long : length (rows_of slots.items) ≡ length slots.items = rows-length slots.items in
    let taken : length (take count slots.items) ≡ count = taken_length count slots.items le in
    let here : length slots.items - count ≡ count_by (λ r. nat_lt n r.station.row) (rows_of slots.items) = omega arith in
    here ∙ ap (dropped_by n) v
  where
    taken_length : (k : ℕ) (xs : List Slot) → k ≤ length xs → length (take k xs) ≡ k
    taken_length k xs le = omega (arith, length-take k xs)

-- ---- the first row

pub head_answer : (c : ℕ) (slots : Buffer Slot) (old : Window) (last past : Option ℕ) (s : Slot) (answer : Option Station) → window_of slots last past ≡ old
    → slice_get slots.items 0 ≡ Some s → answer ≡ (if not s.station.wrong && is_before c (finished (shown s)) then Some s.station else None)
    → answer ≡ head_of c (first old.rows)
head_answer c slots old last past s answer v e is =
    is
    ∙ (ap (λ b. cond (not s.station.wrong && b) (Some s.station) None) (sym (first_done (is_before c) (shown s)))
    ∙ (ap (head_of c) (sym (first_row slots.items ∙ ap (option_map shown) e)) ∙ ap (λ (w : Window). head_of c (first w.rows)) v))

pub head_none : (c : ℕ) (slots : Buffer Slot) (old : Window) (last past : Option ℕ) → window_of slots last past ≡ old → slice_get slots.items 0 ≡ None → None ≡ head_of c (first old.rows)
head_none c slots old last past v e =
    ap (head_of c) (sym (first_row slots.items ∙ ap (option_map shown) e)) ∙ ap (λ (w : Window). head_of c (first w.rows)) v

first_is : (slots : Buffer Slot) (old : Window) (last past : Option ℕ) (s : Slot) → window_of slots last past ≡ old → slice_get slots.items 0 ≡ Some s → first old.rows ≡ Some (shown s)
first_is slots old last past s v e = ap (λ (w : Window). first w.rows) (sym v) ∙ (first_row slots.items ∙ ap (option_map shown) e)

pub retire_station : (slots : Buffer Slot) (old : Window) (last past : Option ℕ) (s : Slot) → window_of slots last past ≡ old → slice_get slots.items 0 ≡ Some s
    → option_map (λ (r : Row). r.station) (first old.rows) ≡ Some s.station
retire_station slots old last past s v e = ap (option_map (λ (r : Row). r.station)) (first_is slots old last past s v e)

pub retire_none : (slots : Buffer Slot) (old : Window) (last past : Option ℕ) → window_of slots last past ≡ old → slice_get slots.items 0 ≡ None
    → may_retire (first old.rows) ≡ true → ⊥
retire_none slots old last past v e h =
    let is : first old.rows ≡ None = ap (λ (w : Window). first w.rows) (sym v) ∙ (first_row slots.items ∙ ap (option_map shown) e) in
    let none : false ≡ true = sym (ap may_retire is) ∙ h in
    cc

linked_first : (xs : List Slot) (s : Slot) → slice_get xs 0 ≡ Some s → AreLinked (reverse xs) → is_none s.station.commit ≡ s.station.wrong
linked_first [] s e h = absurd cc
linked_first (x ∷ xs) s e h =
    let is : x ≡ s = cc in
    subst (λ (y : Slot). is_none y.station.commit ≡ y.station.wrong) is (last_linked (reverse xs) x (subst AreLinked (reverse_first x xs) h)).recorded

pub retire_recorded : (slots : Buffer Slot) (old : Window) (last past : Option ℕ) (s : Slot) → window_of slots last past ≡ old → IsSound slots last → slice_get slots.items 0 ≡ Some s
    → may_retire (first old.rows) ≡ true → is_none s.station.commit ≡ false
retire_recorded slots old last past s v h e may =
    linked_first slots.items s e h.linked ∙ right s.station.wrong (sym (ap may_retire (first_is slots old last past s v e)) ∙ may)
  where
    right : (b : Bool) → (not b && not (is_none (finished (shown s)))) ≡ true → b ≡ false
    right true k = absurd cc
    right false k = refl

retired_items : (n : ℕ) (xs : List Slot) → rows_of (map (slot_after (event.Retired n)) xs) ≡ rows_of xs
retired_items n xs = ap (map shown) (reverse-map (slot_after (event.Retired n)) xs) ∙ retire_shows n (reverse xs)

pub retire_returns : (slots popped new : Buffer Slot) (old : Window) (last past past' : Option ℕ) (s : Slot) (n : ℕ) → window_of slots last past ≡ old → slice_get slots.items 0 ≡ Some s
    → popped ≡ buffer (drop 1 slots.items) slots.capacity → new ≡ buffer (map (slot_after (event.Retired n)) popped.items) popped.capacity
    → past' ≡ later past (finished (shown s)) → window_of new last past' ≡ retired old
retire_returns slots popped new old last past past' s n v e f g is =
    ap (λ b. window_of b last past') g
    ∙ (ap (λ b. window_of (buffer (map (slot_after (event.Retired n)) b.items) b.capacity) last past') f
    ∙ (ap (λ rows. record { rows = rows; size = slots.capacity; last = last; past = past' }) (retired_items n (drop 1 slots.items) ∙ without_first slots.items)
    ∙ (ap (λ p. record { rows = take (length (rows_of slots.items) - 1) (rows_of slots.items); size = slots.capacity; last = last; past = p }) (is ∙ ap (later past) (sym (ap done_cycle (first_row slots.items ∙ ap (option_map shown) e))))
    ∙ ap retired v)))

pub retire_sound : (slots popped new : Buffer Slot) (last : Option ℕ) (s : Slot) (n : ℕ) → s.station.row ≡ n → slice_get slots.items 0 ≡ Some s → IsSound slots last
    → popped ≡ buffer (drop 1 slots.items) slots.capacity → new ≡ buffer (map (slot_after (event.Retired n)) popped.items) popped.capacity → IsSound new last
retire_sound slots popped new last s n is e h f g =
    sound_at slots new last (map (slot_after (event.Retired n)) (drop 1 slots.items)) (g ∙ ap (λ b. buffer (map (slot_after (event.Retired n)) b.items) b.capacity) f)
    (record { rises = ap (rises_to last) (retired_items n (drop 1 slots.items)) ∙ rises' slots.items e h.rises; linked = linked' slots.items e h.rises h.linked; small = h.small })
  where
    rises' : (xs : List Slot) → slice_get xs 0 ≡ Some s → rises_to last (rows_of xs) ≡ true → rises_to last (rows_of (drop 1 xs)) ≡ true
    rises' [] e r = absurd cc
    rises' (x ∷ xs) e r = rises_front last (rows_of xs) (shown x) (ap (rises_to last) (sym (first_last x xs)) ∙ r)

    falls : (last : Option ℕ) (rows : List Row) → rises_to last rows ≡ true → (m : ℕ) × (falls_below m rows ≡ true)
    falls (Some m) rows r = (m + 1, r)
    falls None [] r = (0, refl)
    falls None (y ∷ rows) r = absurd cc

    linked' : (xs : List Slot) → slice_get xs 0 ≡ Some s → rises_to last (rows_of xs) ≡ true → AreLinked (reverse xs) → AreLinked (reverse (map (slot_after (event.Retired n)) (drop 1 xs)))
    linked' [] e r l = absurd cc
    linked' (x ∷ xs) e r l =
        let (m, below) = falls last (rows_of (x ∷ xs)) r in
        let x_is : x ≡ s = cc in
        let row_is : x.station.row ≡ n = ap (λ (y : Slot). y.station.row) x_is ∙ is in
        subst AreLinked (sym (reverse-map (slot_after (event.Retired n)) xs))
        (retire_links n m (reverse xs) x row_is (ap (λ zs. falls_below m (map shown zs)) (sym (reverse_first x xs)) ∙ below) (subst AreLinked (reverse_first x xs) l))

pub some_of : {X : Type 0} (o : Option X) → is_none o ≡ false → IsSome o
some_of None e = absurd cc
some_of (Some x) e = refl
