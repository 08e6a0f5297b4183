-- How far a command came that gave up.
use Rattle.std.specs.Prelude.{◌-◌, ◌≤◌, ◌++◌, ℕ, zero, suc, List, Option, Some, None}
use Rattle.ss_base.specs.Outside.{Files, BeginsWith}
use Rattle.sim_opts.specs.Request.{Run}
use Rattle.journal.specs.declared.loading.Found.{Found}
use Rattle.journal.specs.Write.{GotFront, output_of}
use Rattle.journal.specs.Texts.{FileFronts}
use Rattle.journal.specs.Outcome.{Outcome}
use Rattle.answers.specs.declared.answer.Answer.{Answer}
use Rattle.run_commands.specs.Outcome.{SimSafeOutcome}

-- each file is as before or holds a front of its text, and the first stream got a front of the output, of an
-- outcome of which a fact holds
pub record CameToFront (Has : Outcome Answer → Type 0) (old new : Files) (before now : List ℕ) : Type 0 where
  pub outcome : Outcome Answer
  pub has : Has outcome
  pub files : FileFronts outcome.writes old new
  pub output : GotFront before (output_of outcome.writes) now

-- a command of up to n instructions came as far as a limit, which is at most its own: each file is as before
-- or holds a front of its text, and the first stream got a front of the output, that the same command comes
-- to with this limit; and the stream holds all output of a limit one less
pub record CameToLimit (Has : ℕ → Outcome Answer → Type 0) (n : ℕ) (old new : Files) (before now : List ℕ) : Type 0 where
  pub limit : ℕ
  pub most : limit ≤ n
  pub outcome : Outcome Answer
  pub has : Has limit outcome
  pub files : FileFronts outcome.writes old new
  pub output : GotFront before (output_of outcome.writes) now
  pub less : Outcome Answer
  pub has_less : Has (limit - 1) less
  pub least : BeginsWith now (before ++ output_of less.writes)

-- the same run with another limit
abbrev pub with_most : Run → ℕ → Run
with_most r most = record { object = r.object; args = r.args; trace = r.trace; restart = r.restart; skip = r.skip; most = most; commits = r.commits; point = r.point }

-- a run that skips so many steps and leaves such a point came so far: one that does neither, to one number of instructions
abbrev pub RunCameBy : ℕ → Option (List ℕ × ℕ) → Run → List Found → Files → Files → List ℕ → List ℕ → Type 0
RunCameBy zero None r found old new before now = CameToLimit (λ limit o. SimSafeOutcome (with_most r limit) found o) r.most old new before now
RunCameBy zero (Some p) r found old new before now = CameToFront (SimSafeOutcome r found) old new before now
RunCameBy (suc n) p r found old new before now = CameToFront (SimSafeOutcome r found) old new before now

abbrev pub RunCame : Run → List Found → Files → Files → List ℕ → List ℕ → Type 0
RunCame r found old new before now = RunCameBy r.skip r.point r found old new before now
