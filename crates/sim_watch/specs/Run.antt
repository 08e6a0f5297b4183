-- What a run that is watched comes to.
use Rattle.std.specs.Prelude.{◌≡◌, ◌≤◌, ◌+◌, ◌⊎◌, ℕ, List, [], Option, Result, Ok, Err}
use Rattle.event_trace.specs.declared.trace.Trace.{Trace}
use Rattle.journal.specs.declared.fault.Fault.{Fault}
use Rattle.journal.specs.View.{View}
use Rattle.sim_safe.specs.State.{State}
use Rattle.sim_safe.specs.Record.{Item}
use Rattle.sim_safe.specs.Commit.{onto}
use Rattle.sim_safe.specs.Run.{items_of, after, end_of}
use Rattle.sim_watch.specs.declared.run.Watched.{Watched}
use Rattle.sim_watch.specs.Watch.{CutAtNewest, CutBehind, last_piece, written_of}
use Rattle.sim_watch.specs.Statistics.{statistics_of}

-- how a run of up to n steps ended, the state after it and what was counted
pub record RunWatched (trace : Trace) (n : ℕ) (s t : State) (w : Watched) : Type 0 where
  pub end : w.end ≡ end_of trace n s
  pub state : t ≡ after trace n s
  pub statistics : w.statistics ≡ statistics_of (items_of trace n s)

-- writing was given up within what is written of the newest item, behind all of the others; or behind all
-- of them, within the last piece
abbrev pub CutInRun : {O : Type 0} → View O → Option (List ℕ) → O → List Item → Fault → O → Type 0
CutInRun v file a h f b = CutAtNewest v file [] a h f b ⊎ CutBehind v a (written_of file [] h).journal (last_piece file (written_of file [] h).pending) f b

-- a run that was given up did some of the steps: the state is that after them and counts each, and what was
-- written was cut at the last of them
pub record GivenUp {O : Type 0} (v : View O) (file : Option (List ℕ)) (a : O) (trace : Trace) (n : ℕ) (s : State) (b : O) (t : State) (f : Fault) : Type 0 where
  pub done : ℕ
  pub most : done ≤ n
  pub state : t ≡ after trace done s
  pub count : t.icnt ≡ s.icnt + done
  pub at : CutInRun v file a (onto (items_of trace done s) []) f b

abbrev pub RunEnds : {O : Type 0} → View O → Option (List ℕ) → O → Trace → ℕ → State → O → State → Result Watched Fault → Type 0
RunEnds v file a trace n s b t (Ok w) = RunWatched trace n s t w
RunEnds v file a trace n s b t (Err f) = GivenUp v file a trace n s b t f
