-- The launch of a program, and what its parts say of each other.
use Rattle.std.specs.Prelude.{◌≡◌, ◌≤◌, ◌^◌, ℕ, List, [], Option, Result, Ok, Err}
use Rattle.ecoff_load.specs.declared.image.Image.{Image}
use Rattle.ecoff_load.specs.Object.{IsObject}
use Rattle.event_trace.specs.declared.trace.Trace.{Trace}
use Rattle.sim_safe.specs.State.{State, Storage, state_of}
use Rattle.sim_safe.specs.Record.{IsRunTrace}
use Rattle.sim_opts.specs.Request.{Run}
use Rattle.journal.specs.declared.fault.Fault.{Fault}
use Rattle.journal.specs.declared.loading.Found.{Found}
use Rattle.journal.specs.Write.{Journal}
use Rattle.journal.specs.Load.{Input}
use Rattle.journal.specs.View.{View}
use Rattle.journal.specs.Outcome.{Outcome, Comes}
use Rattle.answers.specs.declared.answer.Answer.{Answer}
use Rattle.answers.specs.declared.refusal.Refusal.{Refusal}
use Rattle.answers.specs.Answer.{answered}
use Rattle.answers.specs.Judging.{LoadsNamed, JudgesObject, JudgesStart, JudgesGiven, IsStart, IsGiven, Judges}
use Rattle.run_commands.specs.declared.judging.Program.{Program}
use Rattle.run_commands.specs.declared.launching.Launched.{Launched}
use Rattle.run_commands.specs.declared.launching.Launched.TheVariants as launches
use Rattle.run_commands.specs.Program.{program_inputs, ProgramOutcome}

-- ---- what is launched

-- at most 10^15 instructions are done
abbrev pub WithinCount : Storage → Type 0
WithinCount a = a.icnt ≤ 10 ^ 15

-- a program can be run
pub record CanRun (p : Program) : Type 0 where
  pub count : p.arch.icnt ≤ 10 ^ 15
  pub trace : IsRunTrace p.trace

abbrev pub IsReady : Result Launched Fault → Type 0
IsReady (Ok (launches.Ready p)) = CanRun p
IsReady (Ok (launches.Refused a)) = Unit {0}
IsReady (Err f) = Unit {0}

-- what comes next has this trace and this state
abbrev pub HasProgram : Trace → State → Trace → State → Type 0
HasProgram trace s t u = (t ≡ trace) × (u ≡ s)

-- files stand for a program, and nothing is written; or one of them is refused
abbrev pub LaunchHas : (Outcome Answer → (Trace → State → Type 0) → Type 0) → Launched → Journal → Type 0
LaunchHas Judged (launches.Ready p) writes = (writes ≡ []) × ((o : Outcome Answer) → Judged o (HasProgram p.trace (state_of p.arch)))
LaunchHas Judged (launches.Refused x) writes = Judged (answered x writes) (λ _ _. ⊥)

-- files are loaded, and then judged so
abbrev pub LaunchesBy : {O : Type 0} → View O → O → List Input → (List Found → Outcome Answer → (Trace → State → Type 0) → Type 0) → O → Result Launched Fault → Type 0
LaunchesBy v a inputs Judged b result = Comes v a inputs (λ fs o. LaunchHas (Judged fs) o.ending o.writes) b result

-- so are those of a run
abbrev pub Launches : {O : Type 0} → View O → O → Run → O → Result Launched Fault → Type 0
Launches v a r b result = LaunchesBy v a (program_inputs r) (ProgramOutcome r) b result

-- ---- parts

-- a refusal that was written, or wasn't
abbrev pub refused_launch : Result Answer Fault → Result Launched Fault
refused_launch (Ok x) = Ok (launches.Refused x)
refused_launch (Err f) = Err f

-- what comes of a program where all files are loaded; where the object and the point are; and where the object is
abbrev pub LoadedProgram : List ℕ → Option (List ℕ) → Option (List ℕ) → List (List ℕ) → Outcome Answer → (Trace → State → Type 0) → Type 0
LoadedProgram program point calls args o Next = JudgesObject program o (λ image. JudgesStart point image args o (λ s. JudgesGiven calls image.text.big o (λ given. Next given s)))

abbrev pub BesideProgram : Run → List ℕ → Option (List ℕ) → List Found → Outcome Answer → (Trace → State → Type 0) → Type 0
BesideProgram r program point loaded o Next = LoadsNamed r.trace loaded o (λ calls _. LoadedProgram program point calls r.args o Next)

abbrev pub ObjectProgram : Run → List ℕ → List Found → Outcome Answer → (Trace → State → Type 0) → Type 0
ObjectProgram r program loaded o Next = LoadsNamed r.restart loaded o (λ point more. BesideProgram r program point more o Next)

-- a program that loaded files stand for
pub record IsProgram (object : List ℕ) (point calls : Option (List ℕ)) (args : List (List ℕ)) (p : Program) : Type 0 where
  pub image : Image
  pub is : IsObject object image
  pub start : IsStart point image args (state_of p.arch)
  pub given : IsGiven calls image.text.big p.trace

abbrev pub JudgesProgram : List ℕ → Option (List ℕ) → Option (List ℕ) → List (List ℕ) → Result Program Refusal → Type 0
JudgesProgram object point calls args result = Judges result (IsProgram object point calls args) (λ o. LoadedProgram object point calls args o (λ _ _. ⊥))
