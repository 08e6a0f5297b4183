-- What comes of the files of a program, by what was found and judged.
use Rattle.std.proofs.Common.{◌≡◌, ℕ, List, [], ◌∷◌, Option, Some, None, Result, Ok, Err, refl, sym, ap, ◌∙◌, subst}
use Rattle.event_trace.specs.declared.trace.Trace.{Trace}
use Rattle.sim_safe.specs.State.{State, state_of}
use Rattle.journal.specs.declared.fault.Fault.{Fault}
use Rattle.journal.specs.declared.fault.Fault.TheVariants as fault
use Rattle.journal.specs.declared.loading.Found.{Found}
use Rattle.journal.specs.declared.loading.Found.TheVariants as found
use Rattle.journal.specs.View.{View}
use Rattle.journal.specs.Load.{Input, input, Finds}
use Rattle.journal.specs.Write.{Report}
use Rattle.journal.specs.Laws.{wrote_none}
use Rattle.journal.specs.Outcome.{Outcome, Ends, Comes}
use Rattle.journal.specs.Loading.{comes_after, comes_too_long, comes_unloaded, comes_now, comes_wanting}
use Rattle.answers.specs.declared.answer.Answer.{Answer}
use Rattle.answers.specs.declared.answer.Answer.TheVariants as answer
use Rattle.answers.specs.declared.refusal.Refusal.{Refusal}
use Rattle.answers.specs.declared.refusal.Refusal.TheVariants as refusals
use Rattle.answers.specs.Answer.{refused}
use Rattle.answers.specs.Judging.{LoadsFile, LoadsNamed, JudgesStart, JudgesGiven, Refuses}
use Rattle.answers.specs.JudgingLaws.{object_judged, start_judged, given_judged}
use Rattle.run_commands.specs.declared.judging.Program.{Program}
use Rattle.run_commands.specs.declared.launching.Launched.{Launched}
use Rattle.run_commands.specs.declared.launching.Launched.TheVariants as launches
use Rattle.run_commands.specs.Program.{named_input}
use Rattle.run_commands.specs.Launching.{HasProgram, IsProgram, LaunchHas, LaunchesBy, LoadedProgram, JudgesProgram, refused_launch}

-- the outcome of a launch that is refused so
refused_outcome : Answer → Outcome Launched
refused_outcome x = record { ending = launches.Refused x; writes = (refused x).writes }

launch_ends : {O : Type 0} (v : View O) (a b : O) (x : Answer) (r : Result Answer Fault) → Ends v a (refused x) b r → Ends v a (refused_outcome x) b (refused_launch r)
unfolding refused_outcome
launch_ends v a b x (Ok y) q = (ap launches.Refused q.0, q.1)
launch_ends v a b x (Err f) q = q

-- ---- files that are judged

-- what loaded files stand for
pub program_is : (object : List ℕ) (point calls : Option (List ℕ)) (args : List (List ℕ)) (p : Program) → IsProgram object point calls args p → (o : Outcome Answer) → LoadedProgram object point calls args o (HasProgram p.trace (state_of p.arch))
program_is object point calls args p is o =
    let s : State = state_of p.arch in
    object_judged object o (λ image. JudgesStart point image args o (λ u. JudgesGiven calls image.text.big o (λ given. HasProgram p.trace s given u))) is.image is.is
    (start_judged point is.image args o (λ u. JudgesGiven calls is.image.text.big o (λ given. HasProgram p.trace s given u)) s is.start
    (given_judged calls is.image.text.big o (λ given. HasProgram p.trace s given s) p.trace is.given (refl, refl)))

pub loaded_ready : {O : Type 0} (v : View O) (a : O) (object : List ℕ) (point calls : Option (List ℕ)) (args : List (List ℕ)) (p : Program) → IsProgram object point calls args p
    → LaunchesBy v a [] (λ _. LoadedProgram object point calls args) a (Ok (launches.Ready p))
loaded_ready v a object point calls args p is =
    let o : Outcome Launched = record { ending = launches.Ready p; writes = [] } in
    comes_now v a [] a (λ fs x. LaunchHas (LoadedProgram object point calls args) x.ending x.writes) o (Ok (launches.Ready p)) (λ fs. (refl, program_is object point calls args p is)) (refl, wrote_none v a)

pub loaded_refused : {O : Type 0} (v : View O) (a b : O) (object : List ℕ) (point calls : Option (List ℕ)) (args : List (List ℕ)) (x : Refusal) (w : Result Answer Fault) (r : Result Launched Fault)
    → JudgesProgram object point calls args (Err x) → r ≡ refused_launch w → Refuses v a x b w → LaunchesBy v a [] (λ _. LoadedProgram object point calls args) b r
unfolding refused_outcome
loaded_refused v a b object point calls args (refusals.Answer x) w r judged e q =
    let Has : List Found → Outcome Launched → Type 0 = λ fs o. LaunchHas (LoadedProgram object point calls args) o.ending o.writes in
    subst (λ (z : Result Launched Fault). Comes v a [] Has b z) (sym e) (comes_now v a [] b Has (refused_outcome x) (refused_launch w) (λ fs. judged) (launch_ends v a b x w q))
loaded_refused v a b object point calls args refusals.OutOfMemory w r judged e q =
    let Has : List Found → Outcome Launched → Type 0 = λ fs o. LaunchHas (LoadedProgram object point calls args) o.ending o.writes in
    comes_wanting v a [] b Has r (e ∙ ap refused_launch q.0) q.1

-- ---- files that are loaded

-- a chain of judgements of the files that are found
abbrev pub Chain : Type 1
Chain = List Found → Outcome Answer → (Trace → State → Type 0) → Type 0

-- the first file was found
pub launch_found : {O : Type 0} (v : View O) (a b c : O) (limit : ℕ) (name bytes : List ℕ) (others : List Input) (J : List ℕ → Chain) (r : Result Launched Fault)
    → Finds v a (input name limit) b (Ok (found.Whole bytes)) → LaunchesBy v b others (J bytes) c r → LaunchesBy v a (input name limit ∷ others) (λ fs o N. LoadsFile name fs o (λ x rest. J x rest o N)) c r
launch_found v a b c limit name bytes others J r finds rest =
    comes_after v a b c (input name limit) others bytes (λ fs o. LaunchHas (λ y N. LoadsFile name fs y (λ x more. J x more y N)) o.ending o.writes) r finds rest

-- or it is too long
pub launch_long : {O : Type 0} (v : View O) (a b c : O) (limit : ℕ) (name : List ℕ) (others : List Input) (J : List ℕ → Chain) (w : Result Answer Fault) (r : Result Launched Fault) → r ≡ refused_launch w
    → Finds v a (input name limit) b (Ok found.TooLong) → Ends v b (refused (answer.TooLong name)) c w → LaunchesBy v a (input name limit ∷ others) (λ fs o N. LoadsFile name fs o (λ x rest. J x rest o N)) c r
unfolding refused_outcome
launch_long v a b c limit name others J w r e finds rest =
    let Has : List Found → Outcome Launched → Type 0 = λ fs o. LaunchHas (λ y N. LoadsFile name fs y (λ x more. J x more y N)) o.ending o.writes in
    subst (λ (z : Result Launched Fault). Comes v a (input name limit ∷ others) Has c z) (sym e)
    (comes_too_long v a b c (input name limit) others Has (refused_outcome (answer.TooLong name)) (refused_launch w) finds (λ fs. refl) (launch_ends v b c (answer.TooLong name) w rest))

-- or it wasn't loaded
pub launch_unloaded : {O : Type 0} (v : View O) (a b : O) (limit : ℕ) (name : List ℕ) (others : List Input) (J : List ℕ → Chain) (f : Fault)
    → Finds v a (input name limit) b (Err f) → LaunchesBy v a (input name limit ∷ others) (λ fs o N. LoadsFile name fs o (λ x rest. J x rest o N)) b (Err f)
launch_unloaded v a b limit name others J f finds =
    comes_unloaded v a b (input name limit) others (λ fs o. LaunchHas (λ y N. LoadsFile name fs y (λ x more. J x more y N)) o.ending o.writes) f finds

-- the same of a file that is named
pub named_launch : {O : Type 0} (v : View O) (a c : O) (limit : ℕ) (t : Option (List ℕ)) (name : List ℕ) (others : List Input) (J : Option (List ℕ) → Chain) (r : Result Launched Fault) → t ≡ Some name
    → LaunchesBy v a (input name limit ∷ others) (λ fs o N. LoadsFile name fs o (λ x rest. J (Some x) rest o N)) c r
    → LaunchesBy v a (named_input limit t others) (λ fs o N. LoadsNamed t fs o (λ x rest. J x rest o N)) c r
named_launch v a c limit t name others J r e q =
    let P : Option (List ℕ) → Type 0 = λ y. LaunchesBy v a (named_input limit y others) (λ fs o N. LoadsNamed y fs o (λ x rest. J x rest o N)) c r in
    subst P (sym e) q

-- or isn't
pub unnamed_launch : {O : Type 0} (v : View O) (a c : O) (limit : ℕ) (t : Option (List ℕ)) (others : List Input) (J : Option (List ℕ) → Chain) (r : Result Launched Fault) → t ≡ None
    → LaunchesBy v a others (J None) c r → LaunchesBy v a (named_input limit t others) (λ fs o N. LoadsNamed t fs o (λ x rest. J x rest o N)) c r
unnamed_launch v a c limit t others J r e q =
    let P : Option (List ℕ) → Type 0 = λ y. LaunchesBy v a (named_input limit y others) (λ fs o N. LoadsNamed y fs o (λ x rest. J x rest o N)) c r in
    subst P (sym e) q
