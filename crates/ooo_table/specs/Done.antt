-- Which rows are waiting and which are live, when a row is done, and which rows produce what it reads.
use Rattle.std.specs.Prelude.{ℕ, ◌+◌, Bool, true, not, List, Option, Some, None, ◌&&◌, if◌then◌else◌, find, is_some, is_none, option_map}
use Rattle.std.specs.List.{list_all, list_any}
use Rattle.pisa_isa.specs.declared.places.Place.{Place}
use Rattle.ooo_table.specs.Row.{Row, is_before, returned}
use Rattle.ooo_table.specs.Execution.{same_place, unit_latency}
use Rattle.ooo_table.specs.Table.{Setting}
use Rattle.ooo_table.specs.Path.{execution, loads, stores}

-- dispatched, and neither committed nor squashed
abbrev pub live : Row → Bool
live r = is_some r.dispatched && is_none r.committed && is_none r.squashed

-- fetched, and neither dispatched nor squashed
abbrev pub waiting : Row → Bool
waiting r = is_none r.dispatched && is_none r.squashed

-- the row isn't squashed before the cycle; where none is given, it isn't squashed at all
abbrev pub unsquashed_before : Option ℕ → Row → Bool
unsquashed_before None r = is_none r.squashed
unsquashed_before (Some d) r = not (is_before d r.squashed)

module _ (set : Setting) where
  -- W
  abbrev pub written : Row → Option ℕ
  written r = option_map (λ i. i + unit_latency (execution set r).unit) r.issued

  -- when a row that isn't a store is done: a load at its MW, any other at its W
  abbrev pub finished : Row → Option ℕ
  finished r = if loads set r then returned r else written r

  -- the producer of a place that the row reads: the last of the rows before it that writes the place, was dispatched,
  -- and wasn't squashed before the dispatch of the reading row
  abbrev pub producer : List Row → Row → Place → Option Row
  producer older r p =
      find (λ o. list_any (λ w. same_place w p) (execution set o).writes && is_some o.dispatched && unsquashed_before r.dispatched o) older

  -- there is no producer, or it is done before cycle n. No store writes a place, so none is a producer
  abbrev pub has_produced : ℕ → Option Row → Bool
  has_produced n None = true
  has_produced n (Some o) = is_before n (finished o)

  -- and so for each of these places
  abbrev pub have_produced : ℕ → List Row → Row → List Place → Bool
  have_produced n older r places = list_all (λ p. has_produced n (producer older r p)) places

  -- the row is done before cycle n: a store at its W and when its data are there, any other when it is finished
  abbrev pub done_before : ℕ → List Row → Row → Bool
  done_before n older r =
      if stores set r then is_before n (written r) && have_produced n older r (execution set r).second else is_before n (finished r)
