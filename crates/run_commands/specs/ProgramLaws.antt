-- Laws of programs that are run, whatever is done with them.
use Rattle.std.proofs.Common.{◌≡◌, ℕ, List, [], ◌∷◌, Option, Some, None, sym, subst}
use Rattle.std.specs.Prelude.{Contains}
use Rattle.event_trace.specs.declared.trace.Trace.{Trace}
use Rattle.ss_base.specs.Outside.{Files}
use Rattle.ecoff_load.specs.declared.image.Image.{Image}
use Rattle.sim_safe.specs.State.{State}
use Rattle.sim_opts.specs.Request.{Run}
use Rattle.journal.specs.declared.loading.Found.{Found}
use Rattle.journal.specs.Load.{Input, input, AreFound}
use Rattle.journal.specs.Outcome.{Outcome}
use Rattle.answers.specs.declared.answer.Answer.{Answer}
use Rattle.answers.specs.declared.answer.Answer.TheVariants as answer
use Rattle.answers.specs.Answer.{refused}
use Rattle.answers.specs.Judging.{LoadsNamed, JudgesObject, JudgesStart, JudgesGiven}
use Rattle.answers.specs.JudgingLaws.{file_map, named_map, object_map, start_map, given_map, file_once, named_once, object_once, start_once, given_once, FoundBytes, SomeOutcome, file_some, object_some, start_some, given_some}
use Rattle.answers.specs.Sound.{names_of}
use Rattle.answers.specs.SoundLaws.{Refuses, first_named, later_named, file_all, named_all, object_all, start_all, given_all}
use Rattle.run_commands.specs.Program.{named_input, point_limit, trace_limit, program_inputs, ProgramOutcome}

-- ---- the names of its files

named_among : (limit : ℕ) (name : Option (List ℕ)) (n : List ℕ) (others : List Input) → name ≡ Some n → Contains (names_of (named_input limit name others)) n
named_among limit name n others e = subst (λ (x : Option (List ℕ)). Contains (names_of (named_input limit x others)) n) (sym e) (first_named n (names_of others))

among_behind : (limit : ℕ) (name : Option (List ℕ)) (n : List ℕ) (others : List Input) → Contains (names_of others) n → Contains (names_of (named_input limit name others)) n
among_behind limit None n others c = c
among_behind limit (Some first) n others c = later_named first n (names_of others) c

object_named : (r : Run) → Contains (names_of (program_inputs r)) r.object
object_named r = first_named r.object (names_of (named_input point_limit r.restart (named_input trace_limit r.trace [])))

point_named : (r : Run) (n : List ℕ) → r.restart ≡ Some n → Contains (names_of (program_inputs r)) n
point_named r n e =
    let others = named_input trace_limit r.trace [] in
    later_named r.object n (names_of (named_input point_limit r.restart others)) (named_among point_limit r.restart n others e)

trace_named : (r : Run) (n : List ℕ) → r.trace ≡ Some n → Contains (names_of (program_inputs r)) n
trace_named r n e =
    let others = named_input trace_limit r.trace [] in
    later_named r.object n (names_of (named_input point_limit r.restart others)) (among_behind point_limit r.restart n others (named_among trace_limit r.trace n [] e))

-- ---- a file that may be named

pub named_some : (limit : ℕ) (name : Option (List ℕ)) (is : List Input) (Told : Type 0) (files : Files) (loaded : List Found) (N : Outcome Answer → Option (List ℕ) → List Found → Type 0)
    → AreFound Told files (named_input limit name is) loaded → FoundBytes loaded → ((bytes : Option (List ℕ)) (others : List Found) → AreFound Told files is others → FoundBytes others → SomeOutcome (λ o. N o bytes others))
    → SomeOutcome (λ o. LoadsNamed name loaded o (N o))
named_some limit None is Told files loaded N are bytes some = some None loaded are bytes
named_some limit (Some name) is Told files [] N are bytes some = absurd are
named_some limit (Some name) is Told files (f ∷ fs) N are bytes some = file_some name f fs (λ o b others. N o (Some b) others) bytes (λ b _ rest. some (Some b) fs are.1 rest)

-- ---- programs

module _ (r : Run) where
  -- what is judged where all files are loaded, with what comes next
  abbrev Starts : (Trace → State → Type 0) → Option (List ℕ) → Option (List ℕ) → Outcome Answer → Image → Type 0
  Starts N point calls o image = JudgesStart point image r.args o (λ s. JudgesGiven calls image.text.big o (λ given. N given s))

  abbrev Reads : (Trace → State → Type 0) → List ℕ → Option (List ℕ) → Outcome Answer → Option (List ℕ) → Type 0
  Reads N program point o calls = JudgesObject program o (λ image. Starts N point calls o image)

  abbrev Loads : (Trace → State → Type 0) → List ℕ → Outcome Answer → Option (List ℕ) → List Found → Type 0
  Loads N program o point more = LoadsNamed r.trace more o (λ calls _. Reads N program point o calls)

  -- what comes next may be said otherwise
  pub program_map : (loaded : List Found) (o : Outcome Answer) (N M : Trace → State → Type 0) → ((t : Trace) (s : State) → N t s → M t s) → ProgramOutcome r loaded o N → ProgramOutcome r loaded o M
  program_map loaded o N M f x =
      file_map r.object loaded o (λ program others. LoadsNamed r.restart others o (Loads N program o)) (λ program others. LoadsNamed r.restart others o (Loads M program o))
      (λ program others. named_map r.restart others o (Loads N program o) (Loads M program o)
      (λ point more. named_map r.trace more o (λ calls _. Reads N program point o calls) (λ calls _. Reads M program point o calls)
      (λ calls _. object_map program o (Starts N point calls o) (Starts M point calls o)
      (λ image. start_map point image r.args o (λ s. JudgesGiven calls image.text.big o (λ given. N given s)) (λ s. JudgesGiven calls image.text.big o (λ given. M given s))
      (λ s. given_map calls image.text.big o (λ given. N given s) (λ given. M given s) (λ given. f given s))))))
      x

  -- a fact of each refusal and of what comes next is one of the outcome
  pub program_all : (P : Outcome Answer → Type 0) (loaded : List Found) (o : Outcome Answer) (N : Trace → State → Type 0)
      → ((a : Answer) → Refuses (names_of (program_inputs r)) a → P (refused a)) → ((t : Trace) (s : State) → N t s → P o) → ProgramOutcome r loaded o N → P o
  program_all P loaded o N refuses next x =
      file_all P r.object loaded o (λ program others. LoadsNamed r.restart others o (Loads N program o)) (refuses (answer.TooLong r.object) (object_named r))
      (λ program others. named_all P r.restart others o (Loads N program o) (λ n e. refuses (answer.TooLong n) (point_named r n e))
      (λ point more. named_all P r.trace more o (λ calls _. Reads N program point o calls) (λ n e. refuses (answer.TooLong n) (trace_named r n e))
      (λ calls _. object_all P program o (Starts N point calls o) (λ bad. refuses (answer.Object bad.at bad.why) tt)
      (λ image. start_all P point image r.args o (λ s. JudgesGiven calls image.text.big o (λ given. N given s)) (λ at why. refuses (answer.Point at why) tt)
      (λ s. given_all P calls image.text.big o (λ given. N given s) (λ at why. refuses (answer.Trace at why) tt) (λ given. next given s))))))
      x

  -- of the same files there is at most one outcome
  pub program_once : (loaded : List Found) (o p : Outcome Answer) (N M : Trace → State → Type 0) → ((t : Trace) (s : State) → N t s → M t s → o ≡ p) → ProgramOutcome r loaded o N → ProgramOutcome r loaded p M → o ≡ p
  program_once loaded o p N M f x y =
      file_once r.object loaded o p (λ program others. LoadsNamed r.restart others o (Loads N program o)) (λ program others. LoadsNamed r.restart others p (Loads M program p))
      (λ program others. named_once r.restart others o p (Loads N program o) (Loads M program p)
      (λ point more. named_once r.trace more o p (λ calls _. Reads N program point o calls) (λ calls _. Reads M program point p calls)
      (λ calls _. object_once program o p (Starts N point calls o) (Starts M point calls p)
      (λ image. start_once point image r.args o p (λ s. JudgesGiven calls image.text.big o (λ given. N given s)) (λ s. JudgesGiven calls image.text.big p (λ given. M given s))
      (λ s. given_once calls image.text.big o p (λ given. N given s) (λ given. M given s) (λ given. f given s))))))
      x y

  -- whatever is found, there is an outcome
  pub program_some : (Told : Type 0) (files : Files) (loaded : List Found) (N : Outcome Answer → Trace → State → Type 0) → AreFound Told files (program_inputs r) loaded → FoundBytes loaded
      → ((t : Trace) (s : State) → SomeOutcome (λ o. N o t s)) → SomeOutcome (λ o. ProgramOutcome r loaded o (N o))
  program_some Told files [] N are bytes some = absurd are
  program_some Told files (f ∷ fs) N are bytes some =
      let behind = named_input trace_limit r.trace [] in
      file_some r.object f fs (λ o program others. LoadsNamed r.restart others o (Loads (N o) program o)) bytes
      (λ program all rest. named_some point_limit r.restart behind Told files fs (λ o point more. Loads (N o) program o point more) are.1 rest
      (λ point more found held. named_some trace_limit r.trace [] Told files more (λ o calls _. Reads (N o) program point o calls) found held
      (λ calls others _ _. object_some program (λ o image. Starts (N o) point calls o image) all
      (λ image _. start_some point image r.args (λ o s. JudgesGiven calls image.text.big o (λ given. N o given s))
      (λ s. given_some calls image.text.big (λ o given. N o given s) (λ given. some given s))))))
