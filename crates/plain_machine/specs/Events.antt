-- The events of a cycle, kind by kind.
use Rattle.std.specs.Prelude.{ℕ, List, ◌++◌, Some}
use Rattle.ooo_table.specs.declared.event.Event.{Event}
use Rattle.ooo_table.specs.declared.event.Mark.TheVariants as mark
use Rattle.ooo_table.specs.Row as table
use Rattle.ooo_table.specs.Row.{accessed, returned}
use Rattle.ooo_table.specs.Table.{Setting}
use Rattle.ooo_table.specs.Done.{written}
use Rattle.ooo_table.specs.Ends.{happened}
use Rattle.ooo_table.specs.Events.{by_row, event_at, fetch_mark}
use Rattle.plain_machine.specs.declared.events.Kind.{Kind}
use Rattle.plain_machine.specs.declared.events.Kind.TheVariants as kind

module _ (set : Setting) where
  -- those of a kind that a row has in cycle x, where write-backs and returns before cycle n have happened
  abbrev pub row_events : Kind → ℕ → ℕ → ℕ → table.Row → List Event
  row_events kind.Commits n x row r = event_at x r.committed mark.Committed row
  row_events kind.Writes n x row r = event_at x (happened n r (written set r)) mark.Written row ++ event_at x (happened n r (returned r)) mark.Returned row
  row_events kind.Squashes n x row r = event_at x r.squashed mark.Squashed row
  row_events kind.Issues n x row r = event_at x r.issued mark.Issued row ++ event_at x (accessed r) mark.Accessed row
  row_events kind.Dispatches n x row r = event_at x r.dispatched mark.Dispatched row
  row_events kind.Fetches n x row r = event_at x (Some r.fetched.at) (fetch_mark r.fetched) row

  -- all of these rows
  abbrev pub events_over : ℕ → ℕ → List table.Row → List Event
  events_over n x rows =
      by_row (row_events kind.Commits n x) rows
      ++ (by_row (row_events kind.Writes n x) rows
      ++ (by_row (row_events kind.Squashes n x) rows
      ++ (by_row (row_events kind.Issues n x) rows
      ++ (by_row (row_events kind.Dispatches n x) rows
      ++ by_row (row_events kind.Fetches n x) rows))))
