-- What a run that is watched and recorded comes to.
use Rattle.std.specs.Prelude.{◌≡◌, ◌≤◌, ◌+◌, ℕ, Bool, true, false, [], None, Result, Ok, Err}
use Rattle.event_trace.specs.declared.trace.Trace.{Trace}
use Rattle.event_trace.specs.Recorder.{RecorderState}
use Rattle.journal.specs.declared.fault.Fault.{Fault}
use Rattle.journal.specs.declared.fault.Fault.TheVariants as fault
use Rattle.journal.specs.View.{View}
use Rattle.sim_safe.specs.declared.observer.RunEnd.{RunEnd}
use Rattle.sim_safe.specs.declared.recording.RecordEnd.{RecordEnd}
use Rattle.sim_safe.specs.declared.recording.RecordEnd.TheVariants as ends
use Rattle.sim_safe.specs.State.{State}
use Rattle.sim_safe.specs.Laws.{StopsForRecord}
use Rattle.sim_safe.specs.Recording.{RecordsFront, recording, serve, HasServed, HasServedOrNext}
use Rattle.sim_safe.specs.Commit.{onto}
use Rattle.sim_safe.specs.Run.{items_of, after, end_of}
use Rattle.sim_watch.specs.declared.recording.Recorded.{Recorded}
use Rattle.sim_watch.specs.Run.{CutInRun}
use Rattle.sim_watch.specs.Statistics.{statistics_of}

-- the trace that up to n steps make of what was recorded before them, and whether it is full
abbrev pub made_of : RecorderState → ℕ → State → Trace × Bool
made_of old n s = recording serve n old.world old.trace s

abbrev pub is_full : RecordEnd → Bool
is_full (ends.Run e) = false
is_full ends.Full = true

-- a recorded run ended as the run over its trace does; where that was full, the run over it stops for want
-- of a record
abbrev pub EndsAs : RecordEnd → RunEnd → Type 0
EndsAs (ends.Run e) end = e ≡ end
EndsAs ends.Full end = StopsForRecord end

-- the trace that a run of up to n steps made, and its recorder, which served its calls; how it ended, the state after it and what was counted are
-- those of the run over that trace
pub record RunRecorded (old : RecorderState) (n : ℕ) (s : State) (new : RecorderState) (t : State) (r : Recorded) : Type 0 where
  pub trace : made_of old n s ≡ (new.trace, is_full r.end)
  pub recorder : HasServed n old s new
  pub end : EndsAs r.end (end_of new.trace n s)
  pub state : t ≡ after new.trace n s
  pub statistics : r.statistics ≡ statistics_of (items_of new.trace n s)

-- the recorder of a run that was given up has served the calls of the steps that were done; where memory
-- ran out perhaps that of the next step too
abbrev pub RecorderStands : Fault → ℕ → RecorderState → State → RecorderState → State → Type 0
RecorderStands fault.Shelf done old s new t = HasServed done old s new
RecorderStands fault.Prog done old s new t = HasServed done old s new
RecorderStands fault.Stat done old s new t = HasServed done old s new
RecorderStands fault.OutOfMemory done old s new t = HasServedOrNext done old s new t

-- a recorded run that was given up did some of the steps, over the trace that is left: the state is that
-- after them and counts each, they and that trace are a front of the whole recording, the one without a
-- fault, the recorder is as they leave it, and what was written was cut at the last of them
pub record RecordingGivenUp {O : Type 0} (v : View O) (a : O) (old : RecorderState) (n : ℕ) (s : State) (new : RecorderState) (t : State) (b : O) (f : Fault) : Type 0 where
  pub done : ℕ
  pub most : done ≤ n
  pub state : t ≡ after new.trace done s
  pub count : t.icnt ≡ s.icnt + done
  pub front : RecordsFront (made_of old n s).0 new.trace n done s t
  pub recorder : RecorderStands f done old s new t
  pub at : CutInRun v None a (onto (items_of new.trace done s) []) f b

abbrev pub RecordEnds : {O : Type 0} → View O → O → RecorderState → ℕ → State → RecorderState → State → O → Result Recorded Fault → Type 0
RecordEnds v a old n s new t b (Ok r) = RunRecorded old n s new t r
RecordEnds v a old n s new t b (Err f) = RecordingGivenUp v a old n s new t b f
