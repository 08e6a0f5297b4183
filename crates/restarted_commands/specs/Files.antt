-- Three command lines over files: a whole run, its front up to a point, and its rest, which goes on from the point that one of the two
-- left in a file.
use Rattle.std.specs.Prelude.{◌≡◌, ◌⊎◌, ℕ, List, map, Option, Some, None}
use Rattle.std.specs.List.{AllByRecursion}
use Rattle.ss_base.specs.Outside.{Files}
use Rattle.sim_opts.specs.Request.{Run, SimSafe, StartsRun}
use Rattle.journal.specs.Loading.{found_in}
use Rattle.journal.specs.Texts.{text_in}
use Rattle.journal.specs.Outcome.{Outcome}
use Rattle.answers.specs.declared.answer.Answer.{Answer}
use Rattle.answers.specs.JudgingLaws.{AreBytes}
use Rattle.sim_main.specs.Outcome.{Asks, asked_in, inputs_in, OutcomeIn, HoldBytes}
use Rattle.restarted_commands.specs.Restarted.{IsDone, IsFront, SharesBudget}

-- words ask for a run over files, and that is done with this outcome
pub record DoesOver (words : List (List ℕ)) (files : Files) (r : Run) (o : Outcome Answer) : Type 0 where
  pub asks : asked_in words files ≡ Asks (SimSafe r)
  pub outcome : OutcomeIn words files (map (found_in files) (inputs_in words files)) o
  pub done : IsDone o.ending

-- a file that may be named holds the same
abbrev pub HoldsSame : Option (List ℕ) → Files → Files → Type 0
HoldsSame None files later = Unit {0}
HoldsSame (Some name) files later = later name ≡ files name

-- a run goes on over later files from the point that another one, with this outcome, left behind k instructions: the point's file has
-- what was written to it, and object and trace are as they were
pub record GoesOnOver (left rest : Run) (o : Outcome Answer) (files later : Files) (k : ℕ) : Type 0 where
  pub file : List ℕ
  pub point : left.point ≡ Some (file, k)
  pub restart : rest.restart ≡ Some file
  pub object : rest.object ≡ left.object
  pub trace : rest.trace ≡ left.trace
  pub skip : rest.skip ≡ 0
  pub text : List ℕ
  pub written : text_in o.writes file ≡ Some text
  pub point_file : later file ≡ Some text
  pub object_file : later left.object ≡ files left.object
  pub trace_file : HoldsSame left.trace files later

-- three command lines, with the runs that they ask for and their outcomes
pub record WordsInPieces (whole front rest : List (List ℕ)) (files later : Files) (w f r : Run) (x y z : Outcome Answer) (k : ℕ) : Type 0 where
  pub does_whole : DoesOver whole files w x
  pub does_front : DoesOver front files f y
  pub does_rest : DoesOver rest later r z
  -- the start block fits, and arguments and files are bytes
  pub block : StartsRun w.restart w.args
  pub words : AllByRecursion AreBytes w.args
  pub bytes : HoldBytes files
  pub is_front : IsFront w f k
  pub is_rest : GoesOnOver w r x files later k ⊎ GoesOnOver f r y files later k
  pub budget : SharesBudget w r x z k
