-- The rows in flight with their marks, and the rules by which they issue, are done, and leave.
use Rattle.std.specs.Prelude.{◌≡◌, ℕ, ◌+◌, ◌-◌, ◌<◌, max, Bool, true, false, not, List, [], ◌∷◌, length, take, filter, map, count_by, find, Option, Some, None, slice_get, is_none, IsTrue, nat_lt, nat_le, ◌==◌, ◌&&◌, ◌||◌, if◌then◌else◌}
use Rattle.std.specs.Option.{option_and_then}
use Rattle.std.specs.List.{list_any, list_all}
use Rattle.pisa_isa.specs.declared.classes.AccessKind.{AccessKind}
use Rattle.pisa_isa.specs.declared.classes.AccessKind.TheVariants as access
use Rattle.pisa_isa.specs.declared.places.Place.{Place}
use Rattle.pisa_isa.specs.declared.places.Place.TheVariants as place
use Rattle.pisa_isa.specs.Classes.{access_of}
use Rattle.pisa_isa.specs.Coding.{IsWellFormed}
use Rattle.pisa_isa.specs.Places.{reads_main_of, reads_second_of, writes_of}
use Rattle.ruu_core.specs.declared.station.Station.{Station}

-- a row that was dispatched, with its marks: the cycles at which it was dispatched (D), its main operation issued (I)
-- and wrote back (W), and, of a load, at which its access issued (MI) and returned (MW)
pub record Row : Type 0 where
  pub station : Station
  pub dispatched : ℕ
  pub issued : Option ℕ
  pub written : Option ℕ
  pub accessed : Option ℕ
  pub returned : Option ℕ

-- the live rows, the newest first; how many there may be; the last row that was dispatched; and the latest cycle at
-- which a row was done that has retired
pub record Window : Type 0 where
  pub rows : List Row
  pub size : ℕ
  pub last : Option ℕ
  pub past : Option ℕ

-- ---- marks

abbrev pub is_at : ℕ → Option ℕ → Bool
is_at c None = false
is_at c (Some t) = t == c

-- set at the cycle or before
abbrev pub is_by : ℕ → Option ℕ → Bool
is_by c None = false
is_by c (Some t) = nat_le t c

abbrev pub is_before : ℕ → Option ℕ → Bool
is_before c None = false
is_before c (Some t) = nat_lt t c

-- the number is above the other one, where there is one
abbrev pub is_above : Option ℕ → ℕ → Bool
is_above None n = true
is_above (Some m) n = nat_lt m n

-- ---- stations

abbrev pub is_load_kind : AccessKind → Bool
is_load_kind access.Load = true
is_load_kind kind = false

abbrev pub is_store_kind : AccessKind → Bool
is_store_kind access.Store = true
is_store_kind kind = false

-- an inert row counts neither as a load nor as a store, and has no operands
abbrev pub is_load : Station → Bool
is_load s = not s.inert && is_load_kind (access_of s.instr.op)

abbrev pub is_store : Station → Bool
is_store s = not s.inert && is_store_kind (access_of s.instr.op)

abbrev pub unless_inert : Station → List Place → List Place
unless_inert s places = if s.inert then [] else places

abbrev pub main_reads : Station → List Place
main_reads s = unless_inert s (reads_main_of s.instr)

abbrev pub second_reads : Station → List Place
second_reads s = unless_inert s (reads_second_of s.instr)

abbrev pub writes : Station → List Place
writes s = unless_inert s (writes_of s.instr)

abbrev pub same_place : Place → Place → Bool
same_place (place.Reg m) (place.Reg n) = m == n
same_place place.Hi place.Hi = true
same_place place.Lo place.Lo = true
same_place p q = false

abbrev pub writes_place : Place → Station → Bool
writes_place p s = list_any (λ w. same_place w p) (writes s)

-- ---- producers

-- the producer of a place, for a row behind these: the last of them that writes it. A row that was squashed isn't among
-- them, and one that has retired is done
abbrev pub producer : List Row → Place → Option Row
producer older p = find (λ o. writes_place p o.station) older

-- when a row that isn't a store is done: a load at its MW, any other at its W
abbrev pub finished : Row → Option ℕ
finished r = if is_load r.station then r.returned else r.written

-- there is no producer, or the cycle at which it is done passes the test
abbrev pub has_produced : (Option ℕ → Bool) → Option Row → Bool
has_produced test None = true
has_produced test (Some o) = test (finished o)

-- and so for each of these places
abbrev pub have_produced : (Option ℕ → Bool) → List Row → List Place → Bool
have_produced test older places = list_all (λ p. has_produced test (producer older p)) places

abbrev pub main_done : (Option ℕ → Bool) → List Row → Row → Bool
main_done test older r = have_produced test older (main_reads r.station)

abbrev pub second_done : (Option ℕ → Bool) → List Row → Row → Bool
second_done test older r = have_produced test older (second_reads r.station)

-- the row is done: a store at its W and when its data are, any other when it is finished
abbrev pub is_done : (Option ℕ → Bool) → List Row → Row → Bool
is_done test older r = if is_store r.station then test r.written && second_done test older r else test (finished r)

-- ---- tests of a row, with the rows before it

-- its main operation may issue at the cycle, as far as the rows before it say
abbrev pub is_ready : ℕ → List Row → Row → Bool
is_ready c older r = nat_lt r.dispatched c && is_none r.issued && main_done (is_by c) older r

-- and so the access of a load
abbrev pub may_access : ℕ → List Row → Row → Bool
may_access c older r =
    is_load r.station && is_by c r.written && is_none r.accessed && second_done (is_by c) older r

-- it writes back or returns at the cycle
abbrev pub completes : ℕ → List Row → Row → Bool
completes c older r = is_at c r.written || is_at c r.returned

abbrev pub is_unissued : List Row → Row → Bool
is_unissued older r = is_none r.issued

abbrev pub or_else : Option ℕ → Option ℕ → Option ℕ
or_else (Some a) b = Some a
or_else None b = b

-- the least row that passes
abbrev pub least : (List Row → Row → Bool) → List Row → Option ℕ
least test [] = None
least test (r ∷ older) = or_else (least test older) (if test older r then Some r.station.row else None)

-- the least row above a number that passes
abbrev pub next : (List Row → Row → Bool) → Option ℕ → List Row → Option ℕ
next test after rows = least (λ older r. is_above after r.station.row && test older r) rows

-- ---- named rows

abbrev pub is_row : ℕ → Row → Bool
is_row n r = r.station.row == n

abbrev pub row_of : ℕ → List Row → Option Row
row_of n rows = find (is_row n) rows

abbrev pub is_live : ℕ → List Row → Bool
is_live n rows = list_any (is_row n) rows

-- the named row passes
abbrev pub passes : (List Row → Row → Bool) → ℕ → List Row → Bool
passes test n [] = false
passes test n (r ∷ older) = if is_row n r then test older r else passes test n older

abbrev pub written_of : ℕ → List Row → Option ℕ
written_of n rows = option_and_then (λ r. r.written) (row_of n rows)

-- ---- the first row

abbrev pub first : List Row → Option Row
first rows = slice_get rows (length rows - 1)

-- it may commit at the cycle: it is right, and done before. No row is before it, so its producers are done
abbrev pub commits : ℕ → Row → Bool
commits c r = not r.station.wrong && is_done (is_before c) [] r

abbrev pub head_of : ℕ → Option Row → Option Station
head_of c None = None
head_of c (Some r) = if commits c r then Some r.station else None

-- the later of two cycles
abbrev pub later : Option ℕ → Option ℕ → Option ℕ
later None b = b
later (Some a) None = Some a
later (Some a) (Some b) = Some (max a b)

-- the first row may retire: it is right, and the cycle at which it is done is set
abbrev pub may_retire : Option Row → Bool
may_retire None = false
may_retire (Some r) = not r.station.wrong && not (is_none (finished r))

-- ---- conditions of calls

abbrev pub HasRoom : Window → Type 0
HasRoom w = length w.rows < w.size

-- a station of a well-formed instruction, which has a record exactly where it is right
pub record IsStation (s : Station) : Type 0 where
  pub well_formed : IsWellFormed s.instr
  pub recorded : is_none s.commit ≡ s.wrong

-- a row may be dispatched at the cycle: there is room, and it is above all that were dispatched before
pub record MayEnter (w : Window) (s : Station) (c : ℕ) : Type 0 where
  pub room : HasRoom w
  pub rises : IsTrue (is_above w.last s.row)
  pub time : IsTrue (is_above w.past c)
  pub station : IsStation s

-- ---- what the calls leave

abbrev pub empty : ℕ → Window
empty size = record { rows = []; size = size; last = None; past = None }

abbrev pub entering : Station → ℕ → Row
entering s c = record { station = s; dispatched = c; issued = None; written = None; accessed = None; returned = None }

abbrev pub dispatched : Station → ℕ → Window → Window
dispatched s c w = record w { rows = entering s c ∷ w.rows; last = Some s.row }

-- the named row is changed
abbrev pub at_row : ℕ → (Row → Row) → Window → Window
at_row n change w = record w { rows = map (λ r. if is_row n r then change r else r) w.rows }

abbrev pub issuing : ℕ → ℕ → Row → Row
issuing c done r = record r { issued = Some c; written = Some done }

abbrev pub accessing : ℕ → ℕ → Row → Row
accessing c done r = record r { accessed = Some c; returned = Some done }

-- every row above the named one is dropped
abbrev pub squashed : ℕ → Window → Window
squashed n w = record w { rows = filter (λ r. nat_le r.station.row n) w.rows }

abbrev pub dropped_by : ℕ → Window → ℕ
dropped_by n w = count_by (λ r. nat_lt n r.station.row) w.rows

-- the first row leaves
abbrev pub done_cycle : Option Row → Option ℕ
done_cycle None = None
done_cycle (Some r) = finished r

abbrev pub retired : Window → Window
retired w =
    record w {
      rows = take (length w.rows - 1) w.rows;
      past = later w.past (done_cycle (first w.rows));
    }

-- the rows rise up to the last one that was dispatched
abbrev pub falls_below : ℕ → List Row → Bool
falls_below n [] = true
falls_below n (r ∷ older) = nat_lt r.station.row n && falls_below r.station.row older

abbrev pub rises_to : Option ℕ → List Row → Bool
rises_to None [] = true
rises_to None (r ∷ older) = false
rises_to (Some last) rows = falls_below (last + 1) rows
