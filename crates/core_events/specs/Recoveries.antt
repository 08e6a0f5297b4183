-- The events of a recovery.
use Rattle.std.specs.Prelude.{◌≡◌, ℕ, ◌+◌, ◌-◌, List, [], length, map, Option, Some, None}
use Rattle.std.specs.List.{range_with_len}
use Rattle.ooo_table.specs.declared.event.Mark.TheVariants as mark
use Rattle.ooo_table.specs.declared.event.Event.{Event}
use Rattle.ooo_table.specs.Recovery.{recovers}
use Rattle.ooo_table.specs.Cycle.{after_commit, after_recover}
use Rattle.ooo_table.specs.Machine.{Given, setting_of}
use Rattle.core_parts.specs.Rows.{newest_number}
use Rattle.core_watch.specs.StageItems.{squashed_events}

abbrev pub squash_event : ℕ → ℕ → Event
squash_event c row = record { cycle = c; row = row; mark = mark.Squashed }

-- of all rows behind the one that recovers, if there is one, up to the next row that is fetched
abbrev pub squashes_behind : ℕ → Option ℕ → ℕ → List Event
squashes_behind c None next = []
squashes_behind c (Some row) next = map (squash_event c) (range_with_len (row + 1) (next - (row + 1)))

-- a recovery squashes all rows behind its row, and none else
abbrev pub SquashesBehind : Given → ℕ → Type 0
SquashesBehind g c =
    squashed_events g c (after_recover (setting_of g) c).rows
    ≡ squashes_behind c (newest_number (recovers (setting_of g) c) (after_commit (setting_of g) c).rows) (length (after_commit (setting_of g) c).rows)
