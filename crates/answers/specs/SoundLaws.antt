-- Laws by which every outcome of a chain of judgements is seen to be sound.
use Rattle.std.proofs.Common.{◌≡◌, ℕ, suc, arith, Bool, List, [], ◌∷◌, Option, Some, None, Result, Ok, Err, refl, sym, subst, inl, inr}
use Rattle.std.specs.Prelude.{Contains}
use Rattle.ecoff_load.specs.declared.fault.Refusal.{Refusal as Misfit}
use Rattle.ecoff_load.specs.declared.image.Image.{Image}
use Rattle.checkpoint.specs.declared.fault.PointFault.{PointFault}
use Rattle.checkpoint.specs.declared.fault.PointFault.TheVariants as point_fault
use Rattle.checkpoint.specs.declared.fault.PointWhy.{PointWhy}
use Rattle.sim_safe.specs.State.{State, start_state}
use Rattle.event_trace.specs.declared.fault.TraceFault.{TraceFault}
use Rattle.event_trace.specs.declared.fault.TraceFault.TheVariants as trace_fault
use Rattle.event_trace.specs.declared.fault.TraceWhy.{TraceWhy}
use Rattle.event_trace.specs.declared.trace.Trace.{Trace}
use Rattle.event_trace.specs.Grammar.{absent_trace}
use Rattle.event_trace.specs.Reading.{checked}
use Rattle.event_trace.specs.World.{File}
use Rattle.sim_safe.specs.declared.observer.RunEnd.{RunEnd}
use Rattle.sim_safe.specs.declared.observer.RunEnd.TheVariants as ends
use Rattle.pisa_step.specs.declared.cause.Cause.TheVariants as cause
use Rattle.journal.specs.declared.loading.Found.{Found}
use Rattle.journal.specs.declared.loading.Found.TheVariants as found
use Rattle.journal.specs.declared.fault.Fault.TheVariants as fault
use Rattle.journal.specs.Write.{Journal, Report, Lacks}
use Rattle.journal.specs.Load.{Input}
use Rattle.journal.specs.Outcome.{Outcome}
use Rattle.answers.specs.declared.answer.Answer.{Answer}
use Rattle.answers.specs.declared.answer.Answer.TheVariants as answer
use Rattle.answers.specs.Answer.{answered, refused, run_answer}
use Rattle.answers.specs.Report.{fault_line}
use Rattle.answers.specs.Judging.{state_at, LoadsFile, LoadsNamed, LoadsEach, JudgesObject, JudgesHeld, JudgesStart, JudgesRead, JudgesGiven}
use Rattle.answers.specs.Sound.{IsQuiet, NamesLong, IsBuilt, IsSound, names_of, with_point}

-- ---- refusals

-- an answer that refuses one of these files
abbrev pub Refuses : List (List ℕ) → Answer → Type 0
Refuses names (answer.TooLong name) = Contains names name
Refuses names (answer.Object at why) = Unit {0}
Refuses names (answer.Point at why) = Unit {0}
Refuses names (answer.Trace at why) = Unit {0}
Refuses names (answer.Text line why) = Unit {0}
Refuses names (answer.Words at why) = ⊥
Refuses names answer.Made = ⊥
Refuses names (answer.NotBuilt what) = ⊥
Refuses names (answer.Exited code) = ⊥
Refuses names (answer.Stopped why pc icnt) = ⊥
Refuses names answer.Budget = ⊥

-- ---- names of files

pub first_named : (name : List ℕ) (names : List (List ℕ)) → Contains (name ∷ names) name
first_named name names = (0, omega (arith), refl)

pub later_named : (first name : List ℕ) (names : List (List ℕ)) → Contains names name → Contains (first ∷ names) name
later_named first name names c = (suc c.0, omega (arith, c.1), c.2)

-- a loaded file is one that is named beside a point, too
beside_point : (point : Option (List ℕ)) (names : List (List ℕ)) (name : List ℕ) → Contains names name → Contains (with_point point names) name
beside_point None names name c = c
beside_point (Some file) names name c = later_named file name names c

-- ---- refusals

refused_with : (inputs : List Input) (point : Option (List ℕ)) (a : Answer) → ((line : List ℕ) → IsQuiet point a (Report line ∷ [])) → NamesLong (with_point point (names_of inputs)) a → IsBuilt a → IsSound inputs point (refused a)
refused_with inputs point a quiet names built = record { quiet = quiet (fault_line a); names = names; built = built }

pub refused_sound : (inputs : List Input) (point : Option (List ℕ)) (a : Answer) → Refuses (names_of inputs) a → IsSound inputs point (refused a)
refused_sound inputs point (answer.TooLong name) r = refused_with inputs point (answer.TooLong name) (λ line. inr (λ e. cc, tt)) (beside_point point (names_of inputs) name r) tt
refused_sound inputs point (answer.Object at why) r = refused_with inputs point (answer.Object at why) (λ line. (λ e. cc, tt)) tt tt
refused_sound inputs point (answer.Point at why) r = refused_with inputs point (answer.Point at why) (λ line. (λ e. cc, tt)) tt tt
refused_sound inputs point (answer.Trace at why) r = refused_with inputs point (answer.Trace at why) (λ line. (λ e. cc, tt)) tt tt
refused_sound inputs point (answer.Text line why) r = refused_with inputs point (answer.Text line why) (λ line. (λ e. cc, tt)) tt tt
refused_sound inputs point (answer.Words at why) r = absurd r
refused_sound inputs point answer.Made r = absurd r
refused_sound inputs point (answer.NotBuilt what) r = absurd r
refused_sound inputs point (answer.Exited code) r = absurd r
refused_sound inputs point (answer.Stopped why pc icnt) r = absurd r
refused_sound inputs point answer.Budget r = absurd r

-- a run whose point has too many pages ends there, and its output stays
pub large_sound : (inputs : List Input) (name : List ℕ) (h : Journal) → IsSound inputs (Some name) (answered (answer.TooLong name) h)
large_sound inputs name h = record { quiet = inl refl; names = first_named name (names_of inputs); built = tt }

-- ---- what was made, and runs

pub made_sound : (inputs : List Input) (point : Option (List ℕ)) (h : Journal) → Lacks fault.Stat h → IsSound inputs point (answered answer.Made h)
made_sound inputs point h quiet = record { quiet = quiet; names = tt; built = tt }

-- the answer of a run is none of a refusal
pub run_sound : (inputs : List Input) (point : Option (List ℕ)) (end : RunEnd) (pc icnt : ℕ) (h : Journal) → IsSound inputs point (answered (run_answer end pc icnt) h)
run_sound inputs point ends.Limit pc icnt h = record { quiet = tt; names = tt; built = tt }
run_sound inputs point (ends.Stop (cause.Exited code)) pc icnt h = record { quiet = tt; names = tt; built = tt }
run_sound inputs point (ends.Stop _) pc icnt h = record { quiet = tt; names = tt; built = tt }

-- ---- a fact of every outcome of a chain

pub file_all : (P : Outcome Answer → Type 0) (name : List ℕ) (loaded : List Found) (o : Outcome Answer) (N : List ℕ → List Found → Type 0)
    → P (refused (answer.TooLong name)) → ((bytes : List ℕ) (others : List Found) → N bytes others → P o) → LoadsFile name loaded o N → P o
file_all P name [] o N long next x = absurd x
file_all P name (found.TooLong ∷ others) o N long next x = subst P (sym x) long
file_all P name (found.Whole bytes ∷ others) o N long next x = next bytes others x

pub named_all : (P : Outcome Answer → Type 0) (name : Option (List ℕ)) (loaded : List Found) (o : Outcome Answer) (N : Option (List ℕ) → List Found → Type 0)
    → ((n : List ℕ) → name ≡ Some n → P (refused (answer.TooLong n))) → ((bytes : Option (List ℕ)) (others : List Found) → N bytes others → P o) → LoadsNamed name loaded o N → P o
named_all P None loaded o N long next x = next None loaded x
named_all P (Some name) loaded o N long next x = file_all P name loaded o (λ bytes others. N (Some bytes) others) (long name refl) (λ bytes others. next (Some bytes) others) x

-- each of these names
abbrev pub EachOf : List (List ℕ) → (List ℕ → Type 0) → Type 0
EachOf [] P = Unit {0}
EachOf (name ∷ names) P = P name × EachOf names P

pub each_all : (P : Outcome Answer → Type 0) (names : List (List ℕ)) (loaded : List Found) (o : Outcome Answer) (N : List File → List Found → Type 0)
    → EachOf names (λ n. P (refused (answer.TooLong n))) → ((files : List File) (others : List Found) → N files others → P o) → LoadsEach names loaded o N → P o
each_all P [] loaded o N long next x = next [] loaded x
each_all P (name ∷ names) loaded o N long next x =
    let first : List ℕ → List File → List File = λ bytes files. record { name = name; bytes = bytes } ∷ files in
    file_all P name loaded o (λ bytes others. LoadsEach names others o (λ files rest. N (first bytes files) rest)) long.0
    (λ bytes others y. each_all P names others o (λ files rest. N (first bytes files) rest) long.1 (λ files rest z. next (first bytes files) rest z) y)
    x

pub object_all : (P : Outcome Answer → Type 0) (bytes : List ℕ) (o : Outcome Answer) (N : Image → Type 0)
    → ((bad : Misfit) → P (refused (answer.Object bad.at bad.why))) → ((image : Image) → N image → P o) → JudgesObject bytes o N → P o
object_all P bytes o N bad next (inl x) = subst P (sym x.2) (bad x.0)
object_all P bytes o N bad next (inr x) = next x.0 x.2

held_all : (P : Outcome Answer → Type 0) (held : Result State PointFault) (o : Outcome Answer) (N : State → Type 0)
    → ((at : ℕ) (why : PointWhy) → P (refused (answer.Point at why))) → ((s : State) → N s → P o) → JudgesHeld held o N → P o
held_all P (Ok s) o N bad next x = next s x
held_all P (Err (point_fault.Bad at reason)) o N bad next x = subst P (sym x) (bad at reason)
held_all P (Err point_fault.OutOfMemory) o N bad next x = absurd x

pub start_all : (P : Outcome Answer → Type 0) (point : Option (List ℕ)) (image : Image) (args : List (List ℕ)) (o : Outcome Answer) (N : State → Type 0)
    → ((at : ℕ) (why : PointWhy) → P (refused (answer.Point at why))) → ((s : State) → N s → P o) → JudgesStart point image args o N → P o
start_all P None image args o N bad next x = next (start_state image args) x
start_all P (Some bytes) image args o N bad next x = held_all P (state_at bytes image.text) o N bad next x

read_all : (P : Outcome Answer → Type 0) (read : Result Trace TraceFault) (big : Bool) (o : Outcome Answer) (N : Trace → Type 0)
    → ((at : ℕ) (why : TraceWhy) → P (refused (answer.Trace at why))) → ((trace : Trace) → N trace → P o) → JudgesRead read big o N → P o
read_all P (Err (trace_fault.Bad at reason)) big o N bad next x = subst P (sym x) (bad at reason)
read_all P (Err trace_fault.OutOfMemory) big o N bad next x = absurd x
read_all P (Ok trace) big o N bad next (inl x) = subst P (sym x.1) (bad _ _)
read_all P (Ok trace) big o N bad next (inr x) = next trace x.1

pub given_all : (P : Outcome Answer → Type 0) (calls : Option (List ℕ)) (big : Bool) (o : Outcome Answer) (N : Trace → Type 0)
    → ((at : ℕ) (why : TraceWhy) → P (refused (answer.Trace at why))) → ((trace : Trace) → N trace → P o) → JudgesGiven calls big o N → P o
given_all P None big o N bad next x = next absent_trace x
given_all P (Some bytes) big o N bad next x = read_all P (checked bytes) big o N bad next x

-- ---- names of several files

-- each of some names is among them, and among more
each_later : (first : List ℕ) (names all : List (List ℕ)) → EachOf names (Contains all) → EachOf names (Contains (first ∷ all))
each_later first [] all e = tt
each_later first (name ∷ names) all e = (later_named first name all e.0, each_later first names all e.1)

pub each_named : (names : List (List ℕ)) → EachOf names (Contains names)
each_named [] = tt
each_named (name ∷ names) = (first_named name names, each_later name names names (each_named names))

pub each_map_of : (names : List (List ℕ)) (P Q : List ℕ → Type 0) → ((name : List ℕ) → P name → Q name) → EachOf names P → EachOf names Q
each_map_of [] P Q f e = tt
each_map_of (name ∷ names) P Q f e = (f name e.0, each_map_of names P Q f e.1)
