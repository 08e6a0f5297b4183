-- Outcomes as chains of judgements. Each takes one file or its bytes; it comes to a refusal, or else the next
-- judgement decides.
use Rattle.std.specs.Prelude.{◌≡◌, ◌≢◌, ◌⊎◌, ℕ, Bool, List, [], ◌∷◌, Option, Some, None, Result, Ok, Err, nat_eq, if◌then◌else◌}
use Rattle.ecoff_load.specs.declared.fault.ObjectFault.{ObjectFault}
use Rattle.ecoff_load.specs.declared.fault.ObjectFault.TheVariants as object_fault
use Rattle.ecoff_load.specs.declared.fault.Refusal.{Refusal as Misfit}
use Rattle.ecoff_load.specs.declared.image.Image.{Image}
use Rattle.ecoff_load.specs.declared.image.Text.{Text}
use Rattle.ecoff_load.specs.Object.{IsObject}
use Rattle.ecoff_load.specs.Checks.{refusal}
use Rattle.checkpoint.specs.declared.fault.PointFault.{PointFault}
use Rattle.checkpoint.specs.declared.fault.PointFault.TheVariants as point_fault
use Rattle.checkpoint.specs.State.{PointState}
use Rattle.checkpoint.specs.Held.{state_held, fit}
use Rattle.checkpoint.specs.Reading.{checked as checked_point}
use Rattle.sim_safe.specs.State.{State, start_state}
use Rattle.event_trace.specs.declared.fault.TraceFault.{TraceFault}
use Rattle.event_trace.specs.declared.fault.TraceFault.TheVariants as trace_fault
use Rattle.event_trace.specs.declared.fault.TraceWhy.TheVariants as why
use Rattle.event_trace.specs.declared.trace.Trace.{Trace}
use Rattle.event_trace.specs.Grammar.{absent_trace}
use Rattle.event_trace.specs.Reading.{checked}
use Rattle.event_trace.specs.World.{File}
use Rattle.ss_base.specs.declared.text_fault.AsmFault.{AsmFault}
use Rattle.ss_base.specs.declared.text_fault.AsmFault.TheVariants as text_fault
use Rattle.sim_opts.specs.declared.asked.WordFault.{WordFault}
use Rattle.sim_opts.specs.declared.asked.WordFault.TheVariants as word_fault
use Rattle.journal.specs.declared.fault.Fault.{Fault}
use Rattle.journal.specs.declared.fault.Fault.TheVariants as fault
use Rattle.journal.specs.declared.loading.Found.{Found}
use Rattle.journal.specs.declared.loading.Found.TheVariants as found
use Rattle.journal.specs.View.{View, Wrote}
use Rattle.journal.specs.Outcome.{Outcome, Ends}
use Rattle.answers.specs.declared.answer.Answer.{Answer}
use Rattle.answers.specs.declared.answer.Answer.TheVariants as answer
use Rattle.answers.specs.declared.refusal.Refusal.{Refusal}
use Rattle.answers.specs.declared.refusal.Refusal.TheVariants as refusals
use Rattle.answers.specs.Answer.{refused}

-- ---- files that were loaded

-- the next of the loaded files is refused where it is too long
abbrev pub LoadsFile : List ℕ → List Found → Outcome Answer → (List ℕ → List Found → Type 0) → Type 0
LoadsFile name [] o Next = ⊥
LoadsFile name (found.TooLong ∷ others) o Next = o ≡ refused (answer.TooLong name)
LoadsFile name (found.Whole bytes ∷ others) o Next = Next bytes others

-- the same of a file that may be named
abbrev pub LoadsNamed : Option (List ℕ) → List Found → Outcome Answer → (Option (List ℕ) → List Found → Type 0) → Type 0
LoadsNamed None loaded o Next = Next None loaded
LoadsNamed (Some name) loaded o Next = LoadsFile name loaded o (λ bytes others. Next (Some bytes) others)

-- the same of files one after the other; what comes next has each with its name
abbrev pub LoadsEach : List (List ℕ) → List Found → Outcome Answer → (List File → List Found → Type 0) → Type 0
LoadsEach [] loaded o Next = Next [] loaded
LoadsEach (name ∷ names) loaded o Next = LoadsFile name loaded o (λ bytes others. LoadsEach names others o (λ files rest. Next (record { name = name; bytes = bytes } ∷ files) rest))

-- ---- what their bytes stand for

-- an object is refused where a check fails, and else is that of an image
abbrev pub JudgesObject : List ℕ → Outcome Answer → (Image → Type 0) → Type 0
JudgesObject bytes o Next =
    ((bad : Misfit) × (refusal bytes ≡ Some bad) × (o ≡ refused (answer.Object bad.at bad.why)))
    ⊎ ((image : Image) × IsObject bytes image × Next image)

-- the state that a point which was read holds beside a text, unless a check with the text fails
abbrev pub held_beside : Result (Unit {0}) PointFault → PointState → Text → Result State PointFault
held_beside (Ok x) p text = Ok (state_held p text)
held_beside (Err e) p text = Err e

abbrev pub held_by : Result PointState PointFault → Text → Result State PointFault
held_by (Ok p) text = held_beside (fit p text) p text
held_by (Err e) text = Err e

-- the state that the bytes of a point hold beside a text, or the first check that fails: those of the bytes come first
abbrev pub state_at : List ℕ → Text → Result State PointFault
state_at bytes text = held_by (checked_point bytes) text

-- a point is refused where a check fails, and else has a state
abbrev pub JudgesHeld : Result State PointFault → Outcome Answer → (State → Type 0) → Type 0
JudgesHeld (Ok s) o Next = Next s
JudgesHeld (Err (point_fault.Bad at reason)) o Next = o ≡ refused (answer.Point at reason)
JudgesHeld (Err point_fault.OutOfMemory) o Next = ⊥

abbrev pub JudgesPoint : List ℕ → Image → Outcome Answer → (State → Type 0) → Type 0
JudgesPoint bytes image o Next = JudgesHeld (state_at bytes image.text) o Next

-- a run begins where its program starts with arguments, or with a point
abbrev pub JudgesStart : Option (List ℕ) → Image → List (List ℕ) → Outcome Answer → (State → Type 0) → Type 0
JudgesStart None image args o Next = Next (start_state image args)
JudgesStart (Some bytes) image args o Next = JudgesPoint bytes image o Next

-- the state that it begins with
abbrev pub IsStart : Option (List ℕ) → Image → List (List ℕ) → State → Type 0
IsStart None image args s = s ≡ start_state image args
IsStart (Some bytes) image args s = state_at bytes image.text ≡ Ok s

-- where a trace names its byte order; version 1 has none, and is told at its start
abbrev pub order_place : Trace → ℕ
order_place trace = if nat_eq trace.version 2 then 12 else 0

-- a trace is of the object's byte order, or is refused
abbrev pub JudgesOrder : Trace → Bool → Outcome Answer → (Trace → Type 0) → Type 0
JudgesOrder trace big o Next =
    ((trace.big ≢ big) × (o ≡ refused (answer.Trace (order_place trace) why.OtherOrder))) ⊎ ((trace.big ≡ big) × Next trace)

-- a trace is refused where a check fails, and else is judged beside the object
abbrev pub JudgesRead : Result Trace TraceFault → Bool → Outcome Answer → (Trace → Type 0) → Type 0
JudgesRead (Err (trace_fault.Bad at reason)) big o Next = o ≡ refused (answer.Trace at reason)
JudgesRead (Err trace_fault.OutOfMemory) big o Next = ⊥
JudgesRead (Ok trace) big o Next = JudgesOrder trace big o Next

abbrev pub JudgesTrace : List ℕ → Bool → Outcome Answer → (Trace → Type 0) → Type 0
JudgesTrace bytes big o Next = JudgesRead (checked bytes) big o Next

-- the same where there may be no trace
abbrev pub JudgesGiven : Option (List ℕ) → Bool → Outcome Answer → (Trace → Type 0) → Type 0
JudgesGiven None big o Next = Next absent_trace
JudgesGiven (Some bytes) big o Next = JudgesTrace bytes big o Next

-- the trace that bytes stand for, of a byte order
abbrev pub IsTraceOf : List ℕ → Bool → Trace → Type 0
IsTraceOf bytes big trace = (checked bytes ≡ Ok trace) × (trace.big ≡ big)

-- the same where there may be none
abbrev pub IsGiven : Option (List ℕ) → Bool → Trace → Type 0
IsGiven None big trace = trace ≡ absent_trace
IsGiven (Some bytes) big trace = IsTraceOf bytes big trace

-- ---- calls that judge

-- the refusal of a fault of a reader
abbrev pub word_refusal : WordFault → Refusal
word_refusal (word_fault.Bad at reason) = refusals.Answer (answer.Words at reason)
word_refusal word_fault.OutOfMemory = refusals.OutOfMemory

abbrev pub object_refusal : ObjectFault → Refusal
object_refusal (object_fault.Bad at reason) = refusals.Answer (answer.Object at reason)
object_refusal object_fault.OutOfMemory = refusals.OutOfMemory

abbrev pub point_refusal : PointFault → Refusal
point_refusal (point_fault.Bad at reason) = refusals.Answer (answer.Point at reason)
point_refusal point_fault.OutOfMemory = refusals.OutOfMemory

abbrev pub trace_refusal : TraceFault → Refusal
trace_refusal (trace_fault.Bad at reason) = refusals.Answer (answer.Trace at reason)
trace_refusal trace_fault.OutOfMemory = refusals.OutOfMemory

abbrev pub text_refusal : AsmFault → Refusal
text_refusal (text_fault.Bad line reason) = refusals.Answer (answer.Text line reason)
text_refusal text_fault.OutOfMemory = refusals.OutOfMemory

-- a refusal comes to this outcome, unless memory was wanted
abbrev pub RefusesBy : Refusal → (Outcome Answer → Type 0) → Type 0
RefusesBy (refusals.Answer a) Refused = Refused (refused a)
RefusesBy refusals.OutOfMemory Refused = Unit {0}

-- a judgement comes to a value of which a fact holds, or to a refusal of which another one does
abbrev pub Judges : {X : Type 0} → Result X Refusal → (X → Type 0) → (Outcome Answer → Type 0) → Type 0
Judges (Ok x) Good Refused = Good x
Judges (Err r) Good Refused = RefusesBy r Refused

-- a refusal is answered, with its line; or memory was wanted, and nothing is written
abbrev pub Refuses : {O : Type 0} → View O → O → Refusal → O → Result Answer Fault → Type 0
Refuses v a (refusals.Answer x) b r = Ends v a (refused x) b r
Refuses v a refusals.OutOfMemory b r = (r ≡ Err fault.OutOfMemory) × Wrote v a [] b
