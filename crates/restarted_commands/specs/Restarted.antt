-- Commands that go on from a point that an earlier one left: the whole run, its front up to that point, and its rest.
use Rattle.std.specs.Prelude.{◌≡◌, ◌≢◌, ◌⊎◌, ◌+◌, ◌++◌, ℕ, List, [], ◌∷◌, min, Option, Some, None}
use Rattle.std.specs.List.{AllByRecursion}
use Rattle.sim_opts.specs.Request.{Run, StartsRun}
use Rattle.journal.specs.declared.loading.Found.{Found}
use Rattle.journal.specs.declared.loading.Found.TheVariants as found
use Rattle.journal.specs.Write.{output_of}
use Rattle.journal.specs.Texts.{text_in}
use Rattle.journal.specs.Outcome.{Outcome}
use Rattle.answers.specs.declared.answer.Answer.{Answer}
use Rattle.answers.specs.declared.answer.Answer.TheVariants as answer
use Rattle.answers.specs.JudgingLaws.{AreBytes, FoundBytes}
use Rattle.run_commands.specs.Outcome.{SimSafeOutcome, AreApart}

-- ---- what is found

-- files that are found behind the point that a command begins with, if it begins with one
abbrev pub behind_point : Option (List ℕ) → List Found → List Found
behind_point None others = others
behind_point (Some name) [] = []
behind_point (Some name) (point ∷ others) = others

-- what a command finds that goes on from a point of this text: the object and the trace that the earlier one found, and the
-- text between them
abbrev pub restart_files : Option (List ℕ) → List ℕ → List Found → List Found
restart_files own text [] = []
restart_files own text (object ∷ others) = object ∷ found.Whole text ∷ behind_point own others

-- ---- commands

-- a command can begin with what it finds: its start block fits, and its words and files are bytes
pub record CanBegin (r : Run) (loaded : List Found) : Type 0 where
  pub block : StartsRun r.restart r.args
  pub words : AllByRecursion AreBytes r.args
  pub files : FoundBytes loaded

-- the answers of runs that were done as was asked
abbrev pub IsDone : Answer → Type 0
IsDone (answer.Exited code) = Unit {0}
IsDone (answer.Stopped why pc icnt) = Unit {0}
IsDone answer.Budget = Unit {0}
IsDone answer.Made = ⊥
IsDone (answer.Words at reason) = ⊥
IsDone (answer.Object at reason) = ⊥
IsDone (answer.Point at reason) = ⊥
IsDone (answer.Trace at reason) = ⊥
IsDone (answer.Text line reason) = ⊥
IsDone (answer.TooLong name) = ⊥
IsDone (answer.NotBuilt what) = ⊥

-- a command does its run: none of its files is refused and its point isn't too long; its commit text and its point go to two files
pub record Does (r : Run) (loaded : List Found) (o : Outcome Answer) : Type 0 where
  pub outcome : SimSafeOutcome r loaded o
  pub done : IsDone o.ending
  pub apart : AreApart r.commits r.point

-- a command does what another one does up to k instructions: neither skips any
pub record IsFront (whole front : Run) (k : ℕ) : Type 0 where
  pub object : front.object ≡ whole.object
  pub args : front.args ≡ whole.args
  pub trace : front.trace ≡ whole.trace
  pub restart : front.restart ≡ whole.restart
  pub whole_skip : whole.skip ≡ 0
  pub front_skip : front.skip ≡ 0
  pub most : front.most ≡ min k whole.most

-- a command goes on from the point that another one, with this outcome, left behind k instructions, and skips none
pub record GoesOnFrom (first rest : Run) (loaded others : List Found) (o : Outcome Answer) (k : ℕ) : Type 0 where
  pub file : List ℕ
  pub point : first.point ≡ Some (file, k)
  pub restart : rest.restart ≡ Some file
  pub object : rest.object ≡ first.object
  pub trace : rest.trace ≡ first.trace
  pub skip : rest.skip ≡ 0
  pub text : List ℕ
  pub left : text_in o.writes file ≡ Some text
  pub found : others ≡ restart_files first.restart text loaded

-- the rest may do as many instructions as the whole has left behind k, or neither run ends at its budget
abbrev pub SharesBudget : (whole rest : Run) (w r : Outcome Answer) → ℕ → Type 0
SharesBudget whole rest w r k = (rest.most + k ≡ whole.most) ⊎ ((w.ending ≢ answer.Budget) × (r.ending ≢ answer.Budget))

-- a whole run, its front up to k instructions, and its rest, which goes on from the point that one of the two left there
pub record InPieces (whole front rest : Run) (loaded others : List Found) (w f r : Outcome Answer) (k : ℕ) : Type 0 where
  pub begins : CanBegin whole loaded
  pub does_whole : Does whole loaded w
  pub does_front : Does front loaded f
  pub does_rest : Does rest others r
  pub is_front : IsFront whole front k
  pub is_rest : GoesOnFrom whole rest loaded others w k ⊎ GoesOnFrom front rest loaded others f k
  pub budget : SharesBudget whole rest w r k

-- ---- what they come to

-- one file has the text of another one, and then that of a third
pub record HoldsBoth (both one two : Option (List ℕ)) : Type 0 where
  pub first : List ℕ
  pub second : List ℕ
  pub is_first : one ≡ Some first
  pub is_second : two ≡ Some second
  pub is_both : both ≡ Some (first ++ second)

-- the whole writes the commit text of the front and then that of the rest, and puts out what both put out; it answers as the
-- rest does, unless the rest did nothing behind a front that ended by itself
pub record IsJoined (whole front rest : Run) (w f r : Outcome Answer) : Type 0 where
  pub text : (a b c : List ℕ) → whole.commits ≡ Some a → front.commits ≡ Some b → rest.commits ≡ Some c → HoldsBoth (text_in w.writes a) (text_in f.writes b) (text_in r.writes c)
  pub output : output_of w.writes ≡ output_of f.writes ++ output_of r.writes
  pub answer : (f.ending ≡ answer.Budget) ⊎ (r.ending ≢ answer.Budget) → w.ending ≡ r.ending
