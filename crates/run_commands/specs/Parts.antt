-- What the parts of the commands say of each other.
use Rattle.std.specs.Prelude.{ℕ, Bool, List, [], ◌∷◌, map, string_bytes, option_copied, unwrap_or, Result}
use Rattle.ecoff_load.specs.declared.image.Image.{Image}
use Rattle.event_trace.specs.declared.trace.Trace.{Trace}
use Rattle.event_trace.specs.World.{File}
use Rattle.sim_safe.specs.declared.observer.RunEnd.{RunEnd}
use Rattle.sim_safe.specs.declared.observer.RunEnd.TheVariants as ends
use Rattle.sim_safe.specs.declared.recording.RecordEnd.{RecordEnd}
use Rattle.sim_safe.specs.declared.recording.RecordEnd.TheVariants as record_ends
use Rattle.sim_safe.specs.State.{State, start_state}
use Rattle.cut_run.specs.Plan.{Asked, cut_journal}
use Rattle.sim_opts.specs.declared.request.Record.{Record}
use Rattle.journal.specs.declared.loading.Found.{Found}
use Rattle.journal.specs.Write.{Report}
use Rattle.journal.specs.Load.{Input}
use Rattle.journal.specs.Outcome.{Outcome}
use Rattle.answers.specs.declared.answer.Answer.{Answer}
use Rattle.answers.specs.Answer.{answered}
use Rattle.answers.specs.Judging.{LoadsEach, LoadsNamed, JudgesObject}
use Rattle.run_commands.specs.declared.world.Enclosed.{Enclosed}
use Rattle.run_commands.specs.Outcome.{ran_answer, ran_report, recorded, record_inputs, world_of}
use Rattle.run_commands.specs.Replay.{IsRecorded, RecordingOutcome, made_by}

-- ---- requests

abbrev pub names_in : Record → List (List ℕ)
names_in r = map (λ name. name.now) r.files.items

abbrev pub record_inputs_of : Record → List Input
record_inputs_of r = record_inputs (option_copied r.input) (names_in r) r.object.now

abbrev pub RecordingOutcomeOf : {F : Type 0} → Record → Result Answer F → List Found → Outcome Answer → Type 0
RecordingOutcomeOf r result loaded o = RecordingOutcome r.out.now (option_copied r.input) (names_in r) r.max_inst r.object.now (map string_bytes r.args.now) result loaded o

-- ---- what is run

-- a run whose files were made empty
abbrev pub ran_behind : Trace → Asked → State → Outcome Answer
ran_behind trace asked s = answered (ran_answer trace asked s) (Report (ran_report trace asked s) ∷ cut_journal trace s asked)

-- ---- what is recorded

-- a program in the world of its input and of the files that it can open
abbrev pub enclosed : List ℕ → List File → Image → Enclosed
enclosed given files image = record { image = image; world = world_of given files image }

-- the recorded run that a request asks for
abbrev pub recorded_of : Record → Enclosed → Outcome Answer
recorded_of r p = recorded p.world p.image.text.big r.max_inst (start_state p.image (map string_bytes r.args.now)) r.out.now

-- the trace of that run, and whether it is full
abbrev pub made_for : Record → Enclosed → Trace × Bool
made_for r p = made_by p.image p.world r.max_inst (map string_bytes r.args.now)

-- what comes of a recording where all files are loaded; where the object and the input are; and where the
-- object is
abbrev pub LoadedRecords : {F : Type 0} → Record → List ℕ → List ℕ → List File → Result Answer F → Outcome Answer → Type 0
LoadedRecords r program given files result o =
    JudgesObject program o (λ image. IsRecorded r.out.now r.max_inst r.object.now (map string_bytes r.args.now) result o program image (world_of given files image))

abbrev pub GivenRecords : {F : Type 0} → Record → List ℕ → List ℕ → Result Answer F → List Found → Outcome Answer → Type 0
GivenRecords r program given result loaded o = LoadsEach (names_in r) loaded o (λ files _. LoadedRecords r program given files result o)

abbrev pub ObjectRecords : {F : Type 0} → Record → List ℕ → Result Answer F → List Found → Outcome Answer → Type 0
ObjectRecords r program result loaded o = LoadsNamed (option_copied r.input) loaded o (λ bytes others. GivenRecords r program (unwrap_or bytes []) result others o)

-- a full trace ends a run as its budget does
abbrev pub run_end : RecordEnd → RunEnd
run_end (record_ends.Run e) = e
run_end record_ends.Full = ends.Limit
