-- What is shown of a run: the events of each cycle, and how the run ended.
use Rattle.std.specs.Prelude.{ℕ, zero, suc, List, [], ◌∷◌, ◌++◌, length, Option, Some, None, if◌then◌else◌, find, is_some}
use Rattle.pisa_step.specs.declared.cause.Cause.TheVariants as cause
use Rattle.sim_safe.specs.State.{State}
use Rattle.sim_safe.specs.Step.{Outcome, Next, Halt, step_of}
use Rattle.ooo_table.specs.declared.event.Mark.{Mark}
use Rattle.ooo_table.specs.declared.event.Mark.TheVariants as mark
use Rattle.ooo_table.specs.declared.event.Event.{Event}
use Rattle.ooo_table.specs.declared.event.EndWord.{EndWord}
use Rattle.ooo_table.specs.declared.event.EndWord.TheVariants as end
use Rattle.ooo_table.specs.Row.{Fetched, Row, is_at, accessed}
use Rattle.ooo_table.specs.Table.{Setting}
use Rattle.ooo_table.specs.Path.{execution}
use Rattle.ooo_table.specs.Ends.{Extent, Whole, AtCommit, AtStop, rows_at, written_by, returned_by}
use Rattle.ooo_table.specs.Machine.{Given, setting_of}

-- ---- events

-- in row order, what f lists for each row by its number
abbrev pub by_row : (ℕ → Row → List Event) → List Row → List Event
by_row f [] = []
by_row f (r ∷ older) = by_row f older ++ f (length older) r

-- an event of cycle x, where the mark was set there
abbrev pub event_at : ℕ → Option ℕ → Mark → ℕ → List Event
event_at x m what row = if is_at x m then record { cycle = x; row = row; mark = what } ∷ [] else []

abbrev pub fetch_mark : Fetched → Mark
fetch_mark f = mark.Fetched f.pc f.predicted f.queued

module _ (set : Setting) where
  -- The events of cycle x in a run that ended so: commits; write-backs and returns; squashes; issues of both kinds;
  -- dispatches; fetches. Those of one stage are in row order.
  abbrev pub events_in : Extent → ℕ → ℕ → List Event
  events_in e c x =
      by_row (λ n r. event_at x r.committed mark.Committed n) (rows_at set e c)
      ++ (by_row (λ n r. event_at x (written_by set e c r) mark.Written n ++ event_at x (returned_by set e c r) mark.Returned n) (rows_at set e c)
      ++ (by_row (λ n r. event_at x r.squashed mark.Squashed n) (rows_at set e c)
      ++ (by_row (λ n r. event_at x r.issued mark.Issued n ++ event_at x (accessed r) mark.Accessed n) (rows_at set e c)
      ++ (by_row (λ n r. event_at x r.dispatched mark.Dispatched n) (rows_at set e c)
      ++ by_row (λ n r. event_at x (Some r.fetched.at) (fetch_mark r.fetched) n) (rows_at set e c)))))

  -- those of the first n cycles
  abbrev pub events_below : Extent → ℕ → ℕ → List Event
  events_below e c zero = []
  events_below e c (suc x) = events_below e c x ++ events_in e c x

-- the number of cycles of a run: the one in which it ends counts
abbrev pub cycles_of : Extent → ℕ → ℕ
cycles_of Whole c = c
cycles_of (AtCommit row) c = suc c
cycles_of AtStop c = suc c

abbrev pub all_events : Setting → Extent → ℕ → List Event
all_events set e c = events_below set e c (cycles_of e c)

-- ---- the end

module _ (set : Setting) where
  -- the state behind the newest row that has committed
  abbrev pub state_behind : Option Row → State
  state_behind None = set.start
  state_behind (Some r) = (execution set r).after

  abbrev pub committed_state : List Row → State
  committed_state rows = state_behind (find (λ r. is_some r.committed) rows)

abbrev pub exit_word : Option ℕ → EndWord
exit_word None = end.Budget
exit_word (Some code) = end.Exited code

abbrev pub stop_word : State → Outcome → EndWord
stop_word s (Next did after) = end.Budget
stop_word s (Halt (cause.Exited code)) = end.Exited code
stop_word s (Halt why) = end.Stopped s.pc s.icnt why

-- How the end is told: an exit by its code, a stop by what can't be done at the state behind the commits, and every
-- other end as a budget.
abbrev pub end_word : Given → Extent → ℕ → EndWord
end_word g Whole c = end.Budget
end_word g (AtCommit row) c = exit_word (committed_state (setting_of g) (rows_at (setting_of g) (AtCommit row) c)).ended
end_word g AtStop c =
    let s = committed_state (setting_of g) (rows_at (setting_of g) AtStop c) in
    stop_word s (step_of g.trace s)
