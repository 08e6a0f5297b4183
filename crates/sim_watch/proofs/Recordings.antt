-- What a watched run that was recorded came to.
use Rattle.std.specs.Prelude.{◌≡◌, ℕ, Bool, List, [], Option, None, Ok}
use Rattle.std.proofs.Common.{sym, ap, subst, inl}
use Rattle.event_trace.specs.declared.trace.Trace.{Trace}
use Rattle.event_trace.specs.Recorder.{RecorderState}
use Rattle.journal.specs.declared.fault.Fault.{Fault}
use Rattle.journal.specs.declared.fault.Fault.TheVariants as fault
use Rattle.journal.specs.View.{View, Wrote, Cut}
use Rattle.sim_safe.specs.declared.recording.RecordEnd.{RecordEnd}
use Rattle.sim_safe.specs.declared.recording.RecordEnd.TheVariants as ends
use Rattle.sim_safe.specs.declared.statistics.Statistics.{Statistics}
use Rattle.sim_safe.specs.State.{State}
use Rattle.sim_safe.specs.Commit.{onto}
use Rattle.sim_safe.specs.Run.{items_of}
use Rattle.sim_safe.specs.Recording.{Records, RecordState, RecordsFront, HasServed}
use Rattle.sim_watch.specs.Watch.{written_of, run_journal}
use Rattle.sim_watch.specs.Recorded.{made_of, RunRecorded, RecorderStands}
use Rattle.sim_watch.specs.Statistics.{statistics_of}
use Rattle.sim_watch.proofs.Runs.{cut_in_whole}

made_trace : (n : ℕ) (old new : RecorderState) (s t : State) (how : RecordEnd) → Records {F = Fault} n old s new t (Ok how) → (made_of old n s).0 ≡ new.trace
made_trace n old new s t (ends.Run e) made = ap (λ (x : Trace × Bool). x.0) made.0
made_trace n old new s t ends.Full made = ap (λ (x : Trace × Bool). x.0) made.0

-- without a file there is no last piece
pub recording_written : {O : Type 0} (v : View O) (a b : O) (n : ℕ) (old new : RecorderState) (s t : State) (how : RecordEnd) (file : Option (List ℕ)) → file ≡ None → Records {F = Fault} n old s new t (Ok how)
    → Wrote v a (written_of file [] (onto (items_of new.trace n s) [])).journal b → Wrote v a (run_journal None (items_of (made_of old n s).0 n s)) b
recording_written v a b n old new s t how file e made wrote =
    let Q : Trace → Type 0 = λ x. Wrote v a (run_journal None (items_of x n s)) b in
    subst Q (sym (made_trace n old new s t how made)) (subst (λ x. Wrote v a (written_of x [] (onto (items_of new.trace n s) [])).journal b) e wrote)

-- a run that was given up was cut within the whole recording
pub recording_cut : {O : Type 0} (v : View O) (a b : O) (whole part : Trace) (n done : ℕ) (s t : State) (f : Fault) → RecordsFront whole part n done s t
    → Cut v a (written_of None [] (onto (items_of part done s) [])).journal f b → Cut v a (run_journal None (items_of whole n s)) f b
recording_cut v a b whole part n done s t f front q = cut_in_whole v None a b (items_of part done s) front.more (items_of whole n s) f front.items q

-- how it ended, and what was counted
pub run_recorded : (n : ℕ) (old new : RecorderState) (s t : State) (how : RecordEnd) (sums : Statistics)
    → Records {F = Fault} n old s new t (Ok how) → RecordState {F = Fault} new.trace n s t (Ok how) → sums ≡ statistics_of (items_of new.trace n s)
    → RunRecorded old n s new t (record { end = how; statistics = sums })
run_recorded n old new s t (ends.Run e) sums made came same = record { trace = made.0; recorder = made.1; end = came.1; state = came.0; statistics = same }
run_recorded n old new s t ends.Full sums made came same = record { trace = made.0; recorder = made.1; end = (came.1, came.2); state = came.0; statistics = same }

-- where a step was refused by its watch, the recorder has served just the steps that were done
pub refused_stands : (f : Fault) (done : ℕ) (old : RecorderState) (s : State) (new : RecorderState) (t : State) → HasServed done old s new → RecorderStands f done old s new t
refused_stands fault.Shelf done old s new t p = p
refused_stands fault.Prog done old s new t p = p
refused_stands fault.Stat done old s new t p = p
refused_stands fault.OutOfMemory done old s new t p = inl p
