-- What a watch is shown of each stage of cycle c, over the rows behind that stage.
use Rattle.std.specs.Prelude.{ℕ, suc, List, [], ◌∷◌, ◌++◌, length, map, Some, if◌then◌else◌}
use Rattle.sim_safe.specs.Step.{step_of}
use Rattle.ooo_table.specs.declared.event.Mark.TheVariants as mark
use Rattle.ooo_table.specs.declared.event.Event.{Event}
use Rattle.ooo_table.specs.Row.{Row, is_at, accessed, returned}
use Rattle.ooo_table.specs.Done.{written}
use Rattle.ooo_table.specs.Ends.{happened}
use Rattle.ooo_table.specs.Events.{by_row, event_at, fetch_mark}
use Rattle.ooo_table.specs.Machine.{Given, setting_of}
use Rattle.ooo_table.specs.RunLaws.{recorded_by}
use Rattle.ooo_table.specs.Cycle.{after_commit, after_recover, after_issue, after_dispatch}
use Rattle.core_watch.specs.Shown.{Shown, Happened, Committed, events}

module _ (g : Given) (c : ℕ) where
  -- commits, and behind the event of each what its row did
  abbrev pub commit_items : List Row → List Shown
  commit_items [] = []
  commit_items (r ∷ older) =
      commit_items older
      ++ (if is_at c r.committed
      then Happened (record { cycle = c; row = length older; mark = mark.Committed }) ∷ map Committed (recorded_by g (step_of g.trace r.fetched.state)) else [])

  -- write-backs and returns, of rows that weren't squashed before
  abbrev pub written_events : List Row → List Event
  written_events rows =
      by_row
      (λ n r. event_at c (happened (suc c) r (written (setting_of g) r)) mark.Written n ++ event_at c (happened (suc c) r (returned r)) mark.Returned n)
      rows

  abbrev pub squashed_events : List Row → List Event
  squashed_events rows = by_row (λ n r. event_at c r.squashed mark.Squashed n) rows

  -- issues of both kinds
  abbrev pub issued_events : List Row → List Event
  issued_events rows = by_row (λ n r. event_at c r.issued mark.Issued n ++ event_at c (accessed r) mark.Accessed n) rows

  abbrev pub dispatched_events : List Row → List Event
  dispatched_events rows = by_row (λ n r. event_at c r.dispatched mark.Dispatched n) rows

  abbrev pub fetched_events : List Row → List Event
  fetched_events rows = by_row (λ n r. event_at c (Some r.fetched.at) (fetch_mark r.fetched) n) rows

  -- What a cycle shows that comes to its dispatches: each stage over the rows right behind it, and then what was fetched.
  abbrev pub staged_items : List Event → List Shown
  staged_items fetched =
      commit_items (after_commit (setting_of g) c).rows
      ++ (events (written_events (after_commit (setting_of g) c).rows)
      ++ (events (squashed_events (after_recover (setting_of g) c).rows)
      ++ (events (issued_events (after_issue (setting_of g) c).rows)
      ++ (events (dispatched_events (after_dispatch (setting_of g) c).rows) ++ events fetched))))
