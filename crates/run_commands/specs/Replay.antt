-- What a recording leaves to sim-safe: a trace over which it does the run again.
use Rattle.std.specs.Prelude.{◌≡◌, ◌≤◌, ℕ, Bool, true, false, List, [], ◌∷◌, length, Option, Some, None, Result, Ok, Err}
use Rattle.ecoff_load.specs.declared.image.Image.{Image}
use Rattle.pisa_step.specs.declared.cause.Cause.TheVariants as cause
use Rattle.event_trace.specs.declared.trace.Trace.{Trace}
use Rattle.event_trace.specs.Reading.{checked}
use Rattle.event_trace.specs.World.{WorldState}
use Rattle.sim_safe.specs.declared.observer.RunEnd.TheVariants as ends
use Rattle.sim_safe.specs.State.{State, start_state}
use Rattle.sim_safe.specs.Run.{items_of, after}
use Rattle.cut_run.specs.Plan.{limited}
use Rattle.sim_opts.specs.Request.{Run}
use Rattle.journal.specs.declared.loading.Found.{Found}
use Rattle.journal.specs.declared.loading.Found.TheVariants as found
use Rattle.journal.specs.Write.{output_of, report_of}
use Rattle.journal.specs.Outcome.{Outcome}
use Rattle.answers.specs.declared.answer.Answer.{Answer}
use Rattle.answers.specs.declared.answer.Answer.TheVariants as answer
use Rattle.run_commands.specs.Program.{trace_limit}
use Rattle.run_commands.specs.Outcome.{JudgesRecording, SimSafeOutcome, asked_of, ran, recorded, end_report, trace_made, trace_text}

-- how a replay ends: as its recording did, with the same report; where the trace was full, the recording
-- ended at its budget, and the replay stops after the same steps, which both reports count, since its next
-- call finds no record
abbrev pub EndsAgain : Bool → Trace → ℕ → State → Outcome Answer → Outcome Answer → Type 0
EndsAgain false trace n s o p = (p.ending ≡ o.ending) × (report_of p.writes ≡ report_of o.writes)
EndsAgain true trace n s o p =
    (o.ending ≡ answer.Budget) × (report_of o.writes ≡ end_report 0 (items_of trace n s) ends.Limit (after trace n s)) × (used : ℕ)
    × (p.ending ≡ answer.Stopped (cause.TraceEnd used) (after trace n s).pc (after trace n s).icnt) × (report_of p.writes ≡ end_report 0 (items_of trace n s) (ends.Stop (cause.TraceEnd used)) (after trace n s))

-- the trace that a program with arguments makes in a world, and whether it was full
abbrev pub made_by : Image → WorldState → ℕ → List (List ℕ) → Trace × Bool
made_by image world max_inst args = trace_made world image.text.big (limited (start_state image args) max_inst) (start_state image args)

-- sim-safe over a trace, with the object, arguments and limit of a recording and any commit file
abbrev pub replay_of : (out : List ℕ) (max_inst : ℕ) (object : List ℕ) (args : List (List ℕ)) (commits : Option (List ℕ)) → Run
replay_of out max_inst object args commits = record { object = object; args = args; trace = Some out; restart = None; skip = 0; most = max_inst; commits = commits; point = None }

-- what that run comes to from the program's start
abbrev pub replayed_by : (made : Trace) (out : List ℕ) (max_inst : ℕ) (object : List ℕ) (args : List (List ℕ)) (image : Image) (commits : Option (List ℕ)) → Outcome Answer
replayed_by made out max_inst object args image commits = ran made (asked_of (replay_of out max_inst object args commits)) (start_state image args)

-- the bytes of a trace that a program made fit a trace file and are read as this trace, and sim-safe over it,
-- with the same object, arguments and limit and with any commit file, does the run over it, which is the
-- recorded run: the same steps from the same state, so the same records and output
pub record IsReplayed (out : List ℕ) (max_inst : ℕ) (object : List ℕ) (args : List (List ℕ)) (program : List ℕ) (image : Image) (world : WorldState) (made : Trace × Bool) : Type 0 where
  pub size : length (trace_text made.0) ≤ trace_limit
  pub reads : checked (trace_text made.0) ≡ Ok made.0
  pub replayed : (commits : Option (List ℕ)) → SimSafeOutcome (replay_of out max_inst object args commits) (found.Whole program ∷ found.Whole (trace_text made.0) ∷ []) (replayed_by made.0 out max_inst object args image commits)
  pub output : (commits : Option (List ℕ)) → output_of (replayed_by made.0 out max_inst object args image commits).writes ≡ output_of (recorded world image.text.big max_inst (start_state image args) out).writes
  pub ends : (commits : Option (List ℕ)) → EndsAgain made.1 made.0 (limited (start_state image args) max_inst) (start_state image args)
      (recorded world image.text.big max_inst (start_state image args) out) (replayed_by made.0 out max_inst object args image commits)

-- a recording of a program in a world, which is replayed where it answers
abbrev pub IsRecorded : {F : Type 0} (out : List ℕ) (max_inst : ℕ) (object : List ℕ) (args : List (List ℕ)) → Result Answer F → Outcome Answer → List ℕ → Image → WorldState → Type 0
IsRecorded out max_inst object args (Ok a) o program image world =
    (o ≡ recorded world image.text.big max_inst (start_state image args) out) × IsReplayed out max_inst object args program image world (made_by image world max_inst args)
IsRecorded out max_inst object args (Err f) o program image world = o ≡ recorded world image.text.big max_inst (start_state image args) out

-- what comes of a recording that answers so: its outcome, which is replayed where it isn't refused and answers
abbrev pub RecordingOutcome : {F : Type 0} (out : List ℕ) (given : Option (List ℕ)) (files : List (List ℕ)) (max_inst : ℕ) (object : List ℕ) (args : List (List ℕ)) → Result Answer F → List Found → Outcome Answer → Type 0
RecordingOutcome out given files max_inst object args result loaded o =
    JudgesRecording given files object loaded o (λ program image world. IsRecorded out max_inst object args result o program image world)
