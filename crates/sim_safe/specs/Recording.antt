-- Runs that are recorded: a trace that grows by a record for each call that finds none left.
use Rattle.std.specs.Prelude.{◌≡◌, ◌⊎◌, ◌-◌, ◌<◌, ◌≤◌, ◌++◌, ℕ, zero, suc, Bool, true, false, List, [], ◌∷◌, Option, Some, None, Result, Ok, Err, if◌then◌else◌}
use Rattle.pisa_step.specs.declared.cause.Cause.{Cause}
use Rattle.pisa_step.specs.declared.cause.Cause.TheVariants as cause
use Rattle.event_trace.specs.declared.trace.Record.{Record}
use Rattle.event_trace.specs.declared.trace.Trace.{Trace}
use Rattle.event_trace.specs.World.{WorldState, served}
use Rattle.event_trace.specs.Recorder.{RecorderState, with_more, is_within_limits}
use Rattle.ss_base.specs.declared.fault.OutOfMemory.{OutOfMemory}
use Rattle.sim_safe.specs.declared.observer.RunEnd.TheVariants as ends
use Rattle.sim_safe.specs.declared.observer.RunFault.{RunFault}
use Rattle.sim_safe.specs.declared.observer.RunFault.TheVariants as faults
use Rattle.sim_safe.specs.declared.recording.RecordEnd.{RecordEnd}
use Rattle.sim_safe.specs.declared.recording.RecordEnd.TheVariants as record_ends
use Rattle.sim_safe.specs.declared.record.Peek.{Peek}
use Rattle.sim_safe.specs.declared.record.Peek.TheVariants as peek
use Rattle.paged_mem.specs.Memory.{Pages}
use Rattle.sim_safe.specs.State.{State}
use Rattle.sim_safe.specs.Step.{Outcome, Next, Halt, step_of, TakesNoMemory}
use Rattle.sim_safe.specs.Record.{Item}
use Rattle.sim_safe.specs.Run.{items_of, after, end_of}

-- a step stops since no record is left for its call
abbrev pub is_trace_end : Cause → Bool
is_trace_end (cause.TraceEnd used) = true
is_trace_end _ = false

abbrev pub wants_record : Outcome → Bool
wants_record (Next r s) = false
wants_record (Halt why) = is_trace_end why

-- what there is before a step: a world, and a trace that has the record of its call; or the trace is
-- full, since the record that the world serves would bring it above its limits
abbrev pub taken : {W : Type 0} → Trace → Record × W → Option (W × Trace)
taken t answer = if is_within_limits (with_more t (answer.0 ∷ [])) then Some (answer.1, with_more t (answer.0 ∷ [])) else None

abbrev pub ready_if : {W : Type 0} → (W → State → Record × W) → W → Trace → State → Bool → Option (W × Trace)
ready_if serve w t s false = Some (w, t)
ready_if serve w t s true = taken t (serve w s)

unfoldable pub ready : {W : Type 0} → (W → State → Record × W) → W → Trace → State → Option (W × Trace)
ready serve w t s = ready_if serve w t s (wants_record (step_of t s))

-- the trace that up to n steps leave, and whether it was full before one of them
abbrev pub recording_after : (Trace → State → Trace × Bool) → Trace → Outcome → Trace × Bool
recording_after rest t (Next r u) = rest t u
recording_after rest t (Halt why) = (t, false)

abbrev pub recording_at : {W : Type 0} → (W → Trace → State → Trace × Bool) → Trace → State → Option (W × Trace) → Trace × Bool
recording_at rest old s (Some m) = recording_after (rest m.0) m.1 (step_of m.1 s)
recording_at rest old s None = (old, true)

unfoldable pub recording : {W : Type 0} → (W → State → Record × W) → ℕ → W → Trace → State → Trace × Bool
recording serve zero w t s = (t, false)
recording serve (suc n) w t s = recording_at (recording serve n) t s (ready serve w t s)

-- the world that they leave
abbrev pub world_more : {W : Type 0} → (State → W) → W → Outcome → W
world_more rest w (Next r u) = rest u
world_more rest w (Halt why) = w

abbrev pub world_at : {W : Type 0} → (W → Trace → State → W) → W → State → Option (W × Trace) → W
world_at rest old s (Some m) = world_more (rest m.0 m.1) m.0 (step_of m.1 s)
world_at rest old s None = old

unfoldable pub world_after : {W : Type 0} → (W → State → Record × W) → ℕ → W → Trace → State → W
world_after serve zero w t s = w
world_after serve (suc n) w t s = world_at (world_after serve n) w s (ready serve w t s)

-- the record that the closed world gives of a call in a state, and the world after it
abbrev pub serve : WorldState → State → Record × WorldState
serve w s = served w s.icnt s.pc s.reads.regs s.reads.bytes

-- a recorder after up to n steps: it has served each call of theirs that found no record
abbrev pub recorder_after : ℕ → RecorderState → State → RecorderState
recorder_after n old s = record { world = world_after serve n old.world old.trace s; trace = (recording serve n old.world old.trace s).0 }

-- ---- answers

-- what the next step does is a call for which no record is left
abbrev pub is_end_of_trace : Peek → Bool
is_end_of_trace (peek.Plain i) = false
is_end_of_trace (peek.Call note) = false
is_end_of_trace (peek.Stop why) = is_trace_end why

-- whatever the first n steps write lies in pages that are reserved, and each call of theirs has its record
abbrev pub AreRecorded : Trace → Pages → ℕ → State → Type 0
AreRecorded trace pages n s = (k : ℕ) → k < n → TakesNoMemory trace pages (step_of trace (after trace k s)) × (wants_record (step_of trace (after trace k s)) ≡ false)

-- a recorder is ready for the next step; or its trace is full, or memory is wanting, which it is for a
-- record alone, and then world and trace are as before
abbrev pub Prepares : RecorderState → RecorderState → State → Result Bool OutOfMemory → Type 0
Prepares old new s (Ok true) = ready serve old.world old.trace s ≡ Some (new.world, new.trace)
Prepares old new s (Ok false) = (ready serve old.world old.trace s ≡ None) × (new ≡ old)
Prepares old new s (Err _) = (new ≡ old) × (wants_record (step_of old.trace s) ≡ true)

-- what a run that was given up did is a front of the recorded run: its records and items are the first
-- ones, and its state is one on the way
pub record RecordsFront (whole part : Trace) (n done : ℕ) (s t : State) : Type 0 where
  pub records : (rest : List Record) × (whole ≡ with_more part rest)
  pub more : List Item
  pub items : items_of whole n s ≡ items_of part done s ++ more
  pub state : t ≡ after whole done s

-- a recorder has served the calls of the steps that were done
abbrev pub HasServed : ℕ → RecorderState → State → RecorderState → Type 0
HasServed done old s new = new ≡ recorder_after done old s

-- so it has, and perhaps the call of the next step, in a state in which that wasn't done
abbrev pub HasServedOrNext : ℕ → RecorderState → State → RecorderState → State → Type 0
HasServedOrNext done old s new t = HasServed done old s new ⊎ Prepares (recorder_after done old s) new t (Ok true)

-- a step that the observer refused was done, one that found no memory wasn't
abbrev pub RecorderLeft : {F : Type 0} → ℕ → RecorderState → State → RecorderState → State → RunFault F → Type 0
RecorderLeft done old s new t (faults.Watch f) = HasServed done old s new
RecorderLeft done old s new t faults.OutOfMemory = HasServedOrNext done old s new t

-- the trace that was made and whether it was full, and the world after it; a run that was given up did a
-- front of that run, and the recorder is as the steps that were done leave it
abbrev pub Records : {F : Type 0} → ℕ → RecorderState → State → RecorderState → State → Result RecordEnd (RunFault F) → Type 0
Records n old s new t (Ok (record_ends.Run e)) = (recording serve n old.world old.trace s ≡ (new.trace, false)) × HasServed n old s new
Records n old s new t (Ok record_ends.Full) = (recording serve n old.world old.trace s ≡ (new.trace, true)) × HasServed n old s new
Records n old s new t (Err f) = RecordsFront (recording serve n old.world old.trace s).0 new.trace n (t.icnt - s.icnt) s t × RecorderLeft (t.icnt - s.icnt) old s new t f

-- the state and the end, which are those of the run over the trace that was made; where that was full,
-- the run over it stops at a call for which no record is left
abbrev pub RecordState : {F : Type 0} → Trace → ℕ → State → State → Result RecordEnd (RunFault F) → Type 0
RecordState trace n s t (Ok (record_ends.Run e)) = (t ≡ after trace n s) × (e ≡ end_of trace n s)
RecordState trace n s t (Ok record_ends.Full) = (t ≡ after trace n s) × (used : ℕ) × (end_of trace n s ≡ ends.Stop (cause.TraceEnd used))
RecordState trace n s t (Err (faults.Watch f)) = (t ≡ after trace (t.icnt - s.icnt) s) × (t.icnt - s.icnt ≤ n) × (s.icnt < t.icnt)
RecordState trace n s t (Err faults.OutOfMemory) = (t ≡ after trace (t.icnt - s.icnt) s) × (t.icnt - s.icnt ≤ n)
