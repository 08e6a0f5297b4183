-- The write-backs and returns of a cycle, by the unit.
use Rattle.std.specs.Prelude.{◌≡◌, ℕ, List, [], ◌∷◌, ◌++◌}
use Rattle.std.specs.List.{AllZip}
use Rattle.ruu_core.specs.Window as unit
use Rattle.ooo_table.specs.declared.event.Mark.TheVariants as mark
use Rattle.ooo_table.specs.declared.event.Event.{Event}
use Rattle.ooo_table.specs.Done.{live}
use Rattle.ooo_table.specs.Cycle.{after_commit}
use Rattle.ooo_table.specs.Events.{event_at}
use Rattle.ooo_table.specs.Machine.{Given, setting_of}
use Rattle.core_parts.specs.Rows.{pick, Lives}
use Rattle.core_watch.specs.StageItems.{written_events}

-- what a row of the unit shows at c
abbrev pub completed_by : ℕ → unit.Row → List Event
completed_by c u = event_at c u.written mark.Written u.station.row ++ event_at c u.returned mark.Returned u.station.row

-- and all of them, the oldest first
abbrev pub completed_in : ℕ → List unit.Row → List Event
completed_in c [] = []
completed_in c (u ∷ older) = completed_in c older ++ completed_by c u

-- a unit that is the live rows behind the commits shows all write-backs and returns of the cycle
abbrev pub ShowsCompletions : Given → ℕ → Type 0
ShowsCompletions g c =
    (units : List unit.Row) → AllZip (Lives g) units (pick live (after_commit (setting_of g) c).rows)
    → written_events g c (after_commit (setting_of g) c).rows ≡ completed_in c units
