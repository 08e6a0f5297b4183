-- What a watch is shown of a cycle.
use Rattle.std.specs.Prelude.{ℕ, suc, List, [], ◌∷◌, ◌++◌, length, map, Option, Some, None, ◌==◌, if◌then◌else◌}
use Rattle.sim_safe.specs.Step.{step_of}
use Rattle.ooo_table.specs.declared.event.Mark.{Mark}
use Rattle.ooo_table.specs.declared.event.Mark.TheVariants as mark
use Rattle.ooo_table.specs.declared.event.Event.{Event}
use Rattle.ooo_table.specs.Row.{Row}
use Rattle.ooo_table.specs.Ends.{Extent, Whole, rows_at}
use Rattle.ooo_table.specs.Events.{events_in}
use Rattle.ooo_table.specs.Machine.{Given, setting_of}
use Rattle.ooo_table.specs.RunLaws.{recorded_by}
use Rattle.core_watch.specs.Shown.{Shown, Happened, Committed}

module _ (g : Given) where
  -- what the functional machine records of the row with this number
  abbrev pub recorded_of : ℕ → List Row → List Shown
  recorded_of n [] = []
  recorded_of n (r ∷ older) = if length older == n then map Committed (recorded_by g (step_of g.trace r.fetched.state)) else recorded_of n older

  -- behind the event of a commit stands what the row did
  abbrev pub behind_event : List Row → ℕ → Mark → List Shown
  behind_event rows n mark.Committed = recorded_of n rows
  behind_event rows n mark.Written = []
  behind_event rows n mark.Returned = []
  behind_event rows n mark.Squashed = []
  behind_event rows n mark.Issued = []
  behind_event rows n mark.Accessed = []
  behind_event rows n mark.Dispatched = []
  behind_event rows n (mark.Fetched pc next queued) = []

  abbrev pub items_of : List Row → List Event → List Shown
  items_of rows [] = []
  items_of rows (e ∷ es) = Happened e ∷ (behind_event rows e.row e.mark ++ items_of rows es)

  -- of cycle x, in a run that came so far behind c whole cycles
  unfoldable pub items_in : Extent → ℕ → ℕ → List Shown
  items_in e c x = items_of (rows_at (setting_of g) e c) (events_in (setting_of g) e c x)

  -- of the cycle behind c whole ones, where the run ends in it so or goes on
  abbrev pub items_at : ℕ → Option Extent → List Shown
  items_at c None = items_in Whole (suc c) c
  items_at c (Some e) = items_in e c c

-- the events among what was shown
abbrev pub events_among : List Shown → List Event
events_among [] = []
events_among (Happened e ∷ xs) = e ∷ events_among xs
events_among (Committed did ∷ xs) = events_among xs
