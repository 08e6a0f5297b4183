-- What a stage of a cycle owes under a watch: the parts stand for the table behind the stage, the counts have become those of
-- that table, and the watch was shown what the stage did to each row of it.
use Rattle.std.specs.Prelude.{◌≡◌, ℕ, suc, ◌+◌, ◌-◌, Bool, true, false, List, [], ◌∷◌, ◌++◌, map, Option, Some, None, Result, ◌&&◌, if◌then◌else◌}
use Rattle.ruu_core.specs.Window as unit
use Rattle.ruu_core.specs.Window.{is_at, is_above, completes}
use Rattle.ooo_front.specs.declared.row.FetchRow.{FetchRow}
use Rattle.ooo_table.specs.declared.event.Mark.{Mark}
use Rattle.ooo_table.specs.declared.event.Mark.TheVariants as mark
use Rattle.ooo_table.specs.declared.event.Event.{Event}
use Rattle.ooo_table.specs.Table.{Table}
use Rattle.ooo_table.specs.Cycle.{table, after_commit, after_recover, after_issue, after_dispatch}
use Rattle.ooo_table.specs.Machine.{Given, setting_of}
use Rattle.ooo_table.specs.MachineLaws.{IsSound}
use Rattle.core_parts.specs.declared.answers.Issued.{Issued}
use Rattle.core_parts.specs.declared.answers.Issued.TheVariants as issued
use Rattle.core_parts.specs.declared.parts.Parts.{Parts}
use Rattle.core_parts.specs.Stands.{Stands}
use Rattle.core_watch.specs.Shown.{Shown, TakesAll, events}
use Rattle.core_statistics.specs.declared.stats.CoreStats.{CoreStats}
use Rattle.core_statistics.specs.Standing.{RecoveryCounted, IssuesCounted, FetchesCounted}
use Rattle.core_watch.specs.StageItems.{written_events, squashed_events, issued_events, fetched_events}

-- ---- the events of what stages do

-- of a row that completes at the cycle: no row writes back and returns in the same one
abbrev pub completion_mark : ℕ → Option ℕ → Mark
completion_mark c written = if is_at c written then mark.Written else mark.Returned

abbrev pub completion_event : ℕ → unit.Row → Event
completion_event c u = record { cycle = c; row = u.station.row; mark = completion_mark c u.written }

-- of the rows above a number that complete at the cycle, the oldest first
abbrev pub completions_above : ℕ → Option ℕ → List unit.Row → List Event
completions_above c after [] = []
completions_above c after (u ∷ older) =
    completions_above c after older ++ (if is_above after u.station.row && completes c older u then completion_event c u ∷ [] else [])

abbrev pub issue_event : ℕ → Issued → Event
issue_event c (issued.Main row) = record { cycle = c; row = row; mark = mark.Issued }
issue_event c (issued.Access row forwarded) = record { cycle = c; row = row; mark = mark.Accessed }

abbrev pub fetch_event : ℕ → FetchRow → Event
fetch_event c w = record { cycle = c; row = w.row; mark = mark.Fetched w.pc w.next w.queued }

-- ---- stages: what is done and counted is the same whatever the watch answered
-- (the state and its pages change in the dispatch stage alone)

module _ {S T F : Type 0} (took cut : S → List Shown → S → Type 0) where
  -- whatever a watch had taken before, it takes these events behind it, or is cut within one of them
  abbrev pub Shows : List Event → S → S → Result T F → Type 0
  Shows es before now result = (start : S) (h : List Shown) → took start h before → TakesAll took cut start h (events es) now result

  -- the parts stand for the table within cycle c, and the watch was shown these events
  pub record StageShown (g : Given) (c : ℕ) (recovered : Bool) (new : Parts) (t : Table) (es : List Event) (before now : S) (result : Result T F) : Type 0 where
    pub stands : Stands g c recovered new t
    pub shown : Shows es before now result

  -- recovery: shown are the write-backs and returns, and then the squashes
  abbrev pub WatchedRecovery : ℕ → Parts → Parts → CoreStats → CoreStats → S → S → Result T F → Type 0
  WatchedRecovery c old new counted counts before now result =
      (g : Given) → IsSound g → Stands g c false old (after_commit (setting_of g) c)
      → StageShown g c true new (after_recover (setting_of g) c)
      (written_events g c (after_commit (setting_of g) c).rows ++ squashed_events g c (after_recover (setting_of g) c).rows) before now result
      × RecoveryCounted g c counted counts × (new.arch ≡ old.arch)

  -- issue: shown are the issues of both kinds
  abbrev pub WatchedIssue : ℕ → Parts → Parts → CoreStats → CoreStats → S → S → Result T F → Type 0
  WatchedIssue c old new counted counts before now result =
      (g : Given) → IsSound g → Stands g c true old (after_recover (setting_of g) c)
      → StageShown g c true new (after_issue (setting_of g) c) (issued_events g c (after_issue (setting_of g) c).rows) before now result
      × IssuesCounted g c counted counts × (new.arch ≡ old.arch)

  -- fetch: shown are the fetches, and the next cycle begins
  abbrev pub WatchedFetch : ℕ → Parts → Parts → CoreStats → CoreStats → S → S → Result T F → Type 0
  WatchedFetch c old new counted counts before now result =
      (g : Given) → IsSound g → Stands g c true old (after_dispatch (setting_of g) c)
      → StageShown g (suc c) false new (table (setting_of g) (suc c)) (fetched_events g c (table (setting_of g) (suc c)).rows) before now result
      × FetchesCounted g c counted counts
