-- What holds of the answer of every command, beside what it writes.
use Rattle.std.specs.Prelude.{◌≡◌, ◌⊎◌, ℕ, List, [], ◌∷◌, map, Contains, Option, Some, None}
use Rattle.journal.specs.declared.fault.Fault.TheVariants as fault
use Rattle.journal.specs.Write.{Journal, Lacks}
use Rattle.journal.specs.Load.{Input}
use Rattle.journal.specs.Outcome.{Outcome}
use Rattle.answers.specs.declared.answer.Answer.{Answer}
use Rattle.answers.specs.declared.answer.Answer.TheVariants as answer

-- what was made has no report, a refusal has no output, and what isn't built writes nothing; the file of a point that a run leaves may be
-- too long behind output
abbrev pub IsQuiet : Option (List ℕ) → Answer → Journal → Type 0
IsQuiet point answer.Made h = Lacks fault.Stat h
IsQuiet point (answer.Words at why) h = Lacks fault.Prog h
IsQuiet point (answer.Object at why) h = Lacks fault.Prog h
IsQuiet point (answer.Point at why) h = Lacks fault.Prog h
IsQuiet point (answer.Trace at why) h = Lacks fault.Prog h
IsQuiet point (answer.Text line why) h = Lacks fault.Prog h
IsQuiet point (answer.TooLong name) h = (point ≡ Some name) ⊎ Lacks fault.Prog h
IsQuiet point (answer.NotBuilt what) h = h ≡ []
IsQuiet point (answer.Exited code) h = Unit {0}
IsQuiet point (answer.Stopped why pc icnt) h = Unit {0}
IsQuiet point answer.Budget h = Unit {0}

-- a file that is too long is one of these
abbrev pub NamesLong : List (List ℕ) → Answer → Type 0
NamesLong names (answer.TooLong name) = Contains names name
NamesLong names answer.Made = Unit {0}
NamesLong names (answer.Words at why) = Unit {0}
NamesLong names (answer.Object at why) = Unit {0}
NamesLong names (answer.Point at why) = Unit {0}
NamesLong names (answer.Trace at why) = Unit {0}
NamesLong names (answer.Text line why) = Unit {0}
NamesLong names (answer.NotBuilt what) = Unit {0}
NamesLong names (answer.Exited code) = Unit {0}
NamesLong names (answer.Stopped why pc icnt) = Unit {0}
NamesLong names answer.Budget = Unit {0}

-- the names of files that are loaded
abbrev pub names_of : List Input → List (List ℕ)
names_of inputs = map (λ i. i.name) inputs

-- an answer of a command that words ask for: it tells neither that words are wrong nor that something isn't built
abbrev pub IsBuilt : Answer → Type 0
IsBuilt (answer.Words at why) = ⊥
IsBuilt (answer.NotBuilt what) = ⊥
IsBuilt answer.Made = Unit {0}
IsBuilt (answer.Object at why) = Unit {0}
IsBuilt (answer.Point at why) = Unit {0}
IsBuilt (answer.Trace at why) = Unit {0}
IsBuilt (answer.Text line why) = Unit {0}
IsBuilt (answer.TooLong name) = Unit {0}
IsBuilt (answer.Exited code) = Unit {0}
IsBuilt (answer.Stopped why pc icnt) = Unit {0}
IsBuilt answer.Budget = Unit {0}

-- with the file of a point that a run leaves, if it leaves one
abbrev pub with_point : Option (List ℕ) → List (List ℕ) → List (List ℕ)
with_point None names = names
with_point (Some file) names = file ∷ names

-- an outcome of a command that loads these files and leaves a point in such a file is quiet, names none but these files, and is built
pub record IsSound (inputs : List Input) (point : Option (List ℕ)) (o : Outcome Answer) : Type 0 where
  pub quiet : IsQuiet point o.ending o.writes
  pub names : NamesLong (with_point point (names_of inputs)) o.ending
  pub built : IsBuilt o.ending
