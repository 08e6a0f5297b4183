-- How the slots of the ring, the oldest first, show as rows, and what each keeps of its producers. Nothing here has to be
-- believed.
use Rattle.std.specs.Prelude.{◌≡◌, ℕ, suc, ◌<◌, ◌^◌, Bool, true, false, not, List, [], ◌∷◌, map, reverse, slice_get, find, option_map, Option, Some, None, is_none, nat_lt, nat_le, ◌==◌, ◌&&◌, ◌||◌, if◌then◌else◌}
use Rattle.std.specs.List.{list_all, list_any}
use Rattle.circular_buffer.specs.Buffer.{Buffer}
use Rattle.pisa_isa.specs.declared.places.Place.{Place}
use Rattle.ruu_core.specs.declared.slot.Slot.{Slot}
use Rattle.ruu_core.specs.declared.slot.Source.{Source}
use Rattle.ruu_core.specs.declared.slot.Event.{Event}
use Rattle.ruu_core.specs.declared.slot.Event.TheVariants as event
use Rattle.ruu_core.specs.declared.search.Search.{Search}
use Rattle.ruu_core.specs.declared.search.Search.TheVariants as search_for
use Rattle.ruu_core.specs.Window.{Row, Window, is_at, is_by, is_above, is_load, main_reads, second_reads, writes, same_place, producer, finished, rises_to}

abbrev pub shown : Slot → Row
shown s =
    record {
      station = s.station;
      dispatched = s.dispatched;
      issued = s.issued;
      written = s.written;
      accessed = s.accessed;
      returned = s.returned;
    }

abbrev pub rows_of : List Slot → List Row
rows_of slots = map shown (reverse slots)

abbrev pub window_of : Buffer Slot → Option ℕ → Option ℕ → Window
window_of slots last past = record { rows = rows_of slots.items; size = slots.capacity; last = last; past = past }

-- ---- producers that are kept

-- the source of a place is the row that produces it, with the cycle at which that row is done
abbrev pub Feeds : Option Row → Source → Type 0
Feeds None x = x.row ≡ None
Feeds (Some o) x = (x.row ≡ Some o.station.row) × (x.load ≡ is_load o.station) × (x.done ≡ finished o)

-- the sources of these places in turn; those that are left over wait for nothing
abbrev pub FeedAll : List Row → List Place → List Source → Type 0
FeedAll older [] [] = Unit {0}
FeedAll older [] (x ∷ xs) = (x.row ≡ None) × FeedAll older [] xs
FeedAll older (p ∷ ps) [] = ⊥
FeedAll older (p ∷ ps) (x ∷ xs) = Feeds (producer older p) x × FeedAll older ps xs

-- a slot behind these rows keeps the sources of all places that it reads, and the places that it writes
pub record IsLinked (older : List Row) (s : Slot) : Type 0 where
  pub writes : s.writes.items ≡ writes s.station
  pub main : FeedAll older (main_reads s.station) s.main
  pub second : FeedAll older (second_reads s.station) s.second
  pub recorded : is_none s.station.commit ≡ s.station.wrong

-- each of these slots, the newest first
abbrev pub AreLinked : List Slot → Type 0
AreLinked [] = Unit {0}
AreLinked (s ∷ older) = IsLinked (map shown older) s × AreLinked older

-- the slots of a ring with those two numbers: rows rise, sources are those of the rows, and a count fits 32 bits
pub record IsSound (slots : Buffer Slot) (last : Option ℕ) : Type 0 where
  pub rises : rises_to last (rows_of slots.items) ≡ true
  pub linked : AreLinked (reverse slots.items)
  pub small : slots.capacity < 2 ^ 32

-- no source, and the one that a slot is
abbrev pub no_source : Source
no_source = record { row = None; load = false; done = None }

abbrev pub source_of : Slot → Source
source_of s = record { row = Some s.station.row; load = is_load s.station; done = finished (shown s) }

-- the source of a place behind these slots, the newest first
abbrev pub source_behind : Place → List Slot → Source
source_behind p [] = no_source
source_behind p (s ∷ older) = if list_any (λ w. same_place w p) s.writes.items then source_of s else source_behind p older

abbrev pub source_for : Option Place → List Slot → Source
source_for None slots = no_source
source_for (Some p) slots = source_behind p slots

-- the sources of up to three places
abbrev pub sources_behind : List Place → List Slot → List Source
sources_behind places slots =
    source_for (slice_get places 0) slots ∷ (source_for (slice_get places 1) slots ∷ (source_for (slice_get places 2) slots ∷ []))

-- ---- what slots are told

abbrev pub source_after : Event → Source → Source
source_after (event.Issued n c done) x = if is_at n x.row && not x.load then record x { done = Some done } else x
source_after (event.Accessed n c done) x = if is_at n x.row && x.load then record x { done = Some done } else x
source_after (event.Retired n) x = if is_at n x.row then record x { row = None } else x

abbrev pub sources_after : Event → Slot → Slot
sources_after e s = record s { main = map (source_after e) s.main; second = map (source_after e) s.second }

abbrev pub marked : Event → Slot → Slot
marked (event.Issued n c done) s = if s.station.row == n then record s { issued = Some c; written = Some done } else s
marked (event.Accessed n c done) s = if s.station.row == n then record s { accessed = Some c; returned = Some done } else s
marked (event.Retired n) s = s

abbrev pub slot_after : Event → Slot → Slot
slot_after e s = sources_after e (marked e s)

-- without the newest slots that are above the row
abbrev pub up_to : ℕ → List Slot → List Slot
up_to n [] = []
up_to n (s ∷ older) = if nat_le s.station.row n then s ∷ older else up_to n older

abbrev pub slot_named : ℕ → Slot → Bool
slot_named n s = s.station.row == n

-- ---- tests of a slot alone

abbrev pub is_fed : (Option ℕ → Bool) → Source → Bool
is_fed test x = is_none x.row || test x.done

abbrev pub are_fed : (Option ℕ → Bool) → List Source → Bool
are_fed test sources = list_all (is_fed test) sources

abbrev pub slot_passes : Search → Slot → Bool
slot_passes (search_for.Ready c) s = nat_lt s.dispatched c && is_none s.issued && are_fed (is_by c) s.main
slot_passes (search_for.Access c) s =
    is_load s.station && is_by c s.written && is_none s.accessed && are_fed (is_by c) s.second
slot_passes (search_for.Completion c) s = is_at c s.written || is_at c s.returned
slot_passes search_for.Unissued s = is_none s.issued

abbrev pub wanted : Search → Option ℕ → Slot → Bool
wanted what after s = is_above after s.station.row && slot_passes what s

-- the least of these, the oldest first, that is above a number and passes
abbrev pub least_of : Search → Option ℕ → List Slot → Option ℕ
least_of what after slots = option_map (λ s. s.station.row) (find (wanted what after) slots)

-- ---- places

-- the rows of these slots, the oldest first, rise from the number on
abbrev pub rises_from : ℕ → List Slot → Bool
rises_from n [] = true
rises_from n (s ∷ newer) = nat_le n s.station.row && rises_from (suc s.station.row) newer

-- how many of the oldest slots are below the row
abbrev pub place_of : ℕ → List Slot → ℕ
place_of n [] = 0
place_of n (s ∷ newer) = if nat_lt s.station.row n then suc (place_of n newer) else 0

abbrev pub place_behind : Option ℕ → List Slot → ℕ
place_behind None slots = 0
place_behind (Some n) slots = place_of n slots
