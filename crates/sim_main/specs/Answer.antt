-- What the top call answers and leaves: one relation, and the facts that follow from it.
use Rattle.std.specs.Prelude.{◌≡◌, ◌⊎◌, ◌<◌, ℕ, List, true, Option, Some, Result, Ok}
use Rattle.ss_base.specs.Outside.{Files, SameFiles}
use Rattle.journal.specs.declared.fault.Fault.{Fault}
use Rattle.journal.specs.declared.loading.Found.{Found}
use Rattle.journal.specs.View.{View, Risen}
use Rattle.journal.specs.Load.{AreFound}
use Rattle.journal.specs.Outcome.{Outcome, Comes}
use Rattle.journal.specs.Clauses.{EndsBy, IfAnswered}
use Rattle.answers.specs.declared.answer.Answer.{Answer}
use Rattle.answers.specs.declared.answer.Answer.TheVariants as answer
use Rattle.answers.specs.declared.answer.Unbuilt.TheVariants as unbuilt
use Rattle.answers.specs.Sound.{NamesLong, IsBuilt, names_of, with_point}
use Rattle.run_commands.specs.Outcome.{RecordOutcome}
use Rattle.run_commands.specs.Far.{CameToFront, CameToLimit, RunCame}
use Rattle.sim_opts.specs.Words.{is_unbuilt}
use Rattle.sim_opts.specs.Request.{SimSafe, Record, Asm, Dis, Words, Text, NotBuilt, config_of}
use Rattle.sim_main.specs.declared.ending.Ending.{Ending}
use Rattle.sim_main.specs.declared.ending.Ending.TheVariants as ending
use Rattle.sim_main.specs.Ending.{ending_of, answer_of}
use Rattle.sim_main.specs.Outcome.{Asked, Asks, LongConfig, config_inputs, asked_with, inputs_for, left_point, HasOutcome, ComesFor, behind_config, asked_in, inputs_in}

-- ---- the one relation

-- words came to an answer or a fault: their configuration was looked for, if they name one, and with what was
-- found of it they loaded the files of what they ask for, and then wrote the outcome of what was found in these
pub record ComesByWords {O : Type 0} (v : View O) (a : O) (words : List (List ℕ)) (b : O) (came : Result Answer Fault) : Type 0 where
  pub config : List Found
  pub are : AreFound (v.tells a) (v.files a) (config_inputs words) config
  pub comes : Comes v a (inputs_for words (asked_with words config)) (ComesFor words (asked_with words config) came) b came

-- an ending is that of what words came to: from its first write to its last, or up to the write at which a fault
-- ended it
pub record CameBy {O : Type 0} (v : View O) (a : O) (words : List (List ℕ)) (b : O) (e : Ending) : Type 0 where
  pub came : Result Answer Fault
  pub ending : e ≡ ending_of came
  pub comes : ComesByWords v a words b came

-- ---- what is answered, whatever the files tell

-- an answer is an outcome of something that is found in the files, of which a fact holds
pub record AnswersBy (Told : Type 0) (files : Files) (words : List (List ℕ)) (a : Answer) (Holds : Outcome Answer → Type 0) : Type 0 where
  pub config : List Found
  pub are : AreFound Told files (config_inputs words) config
  pub ends : EndsBy Told files (inputs_for words (asked_with words config)) (ComesFor words (asked_with words config) (Ok a)) a Holds

-- an answer refuses words or their configuration, or tells that something isn't built, exactly where they ask for
-- nothing else
abbrev pub Tells : Asked → Answer → Type 0
Tells (Asks (SimSafe r)) a = IsBuilt a
Tells (Asks (Record out given files max_inst object args)) a = IsBuilt a
Tells (Asks (Asm source object)) a = IsBuilt a
Tells (Asks (Dis object)) a = IsBuilt a
Tells (Asks (Words place reason)) a = a ≡ answer.Words place reason
Tells (Asks (Text line reason)) a = a ≡ answer.Text line reason
Tells (Asks NotBuilt) a = a ≡ answer.NotBuilt unbuilt.Words
Tells (LongConfig name) a = a ≡ answer.TooLong name

-- a first word that names a command that isn't built decides alone; else an answer goes by what words ask for with
-- what was found of their configuration, and a file that is too long is one that the words or the configuration name, to load
-- it or to leave a point in it
pub record EndsByWords (Told : Type 0) (files : Files) (words : List (List ℕ)) (e : Ending) : Type 0 where
  pub unbuilt_first : is_unbuilt words ≡ true → e ≡ ending.NotBuilt unbuilt.Words
  pub config : List Found
  pub are : AreFound Told files (config_inputs words) config
  pub tells : IfAnswered (answer_of e) (Tells (asked_with words config))
  pub long : IfAnswered (answer_of e) (NamesLong (with_point (left_point (asked_with words config)) (names_of (inputs_for words (asked_with words config)))))

-- ---- how far a command came that gave up

-- of a run that skips nothing and leaves no point, one number of instructions says how far files and output came
abbrev pub CameFar : Asked → List Found → Files → Files → List ℕ → List ℕ → Type 0
CameFar (Asks (SimSafe r)) found old new before now = RunCame r found old new before now
CameFar (Asks (Record out given files max_inst object args)) found old new before now = CameToLimit (λ limit o. RecordOutcome out given files limit object args found o) max_inst old new before now
CameFar (Asks (Asm source object)) found old new before now = CameToFront (HasOutcome (Asks (Asm source object)) found) old new before now
CameFar (Asks (Dis object)) found old new before now = CameToFront (HasOutcome (Asks (Dis object)) found) old new before now
CameFar (Asks (Words place reason)) found old new before now = CameToFront (HasOutcome (Asks (Words place reason)) found) old new before now
CameFar (Asks (Text line reason)) found old new before now = CameToFront (HasOutcome (Asks (Text line reason)) found) old new before now
CameFar (Asks NotBuilt) found old new before now = CameToFront (HasOutcome (Asks NotBuilt) found) old new before now
CameFar (LongConfig name) found old new before now = CameToFront (HasOutcome (LongConfig name) found) old new before now

-- what was found in told files, and how far the command came with it
pub record CameTo (words : List (List ℕ)) (old new : Files) (before now : List ℕ) : Type 0 where
  pub found : List Found
  pub are : AreFound (Unit {0}) old (inputs_in words old) found
  pub far : CameFar (asked_in words old) (behind_config (config_of words) found) old new before now

-- it left all files and the first stream as they were, or came so far
abbrev pub ComesAsFar : List (List ℕ) → Files → Files → List ℕ → List ℕ → Type 0
ComesAsFar words old new before now = (SameFiles old new × (now ≡ before)) ⊎ CameTo words old new before now

-- ---- counts of faults

-- the counts of the shelf and of both streams: an answer says which of them rose, and that the others did not
abbrev pub Counts : ℕ × ℕ × ℕ → ℕ × ℕ × ℕ → Ending → Type 0
Counts before now ending.ShelfFault = Risen before.0 now.0 × (now.1 ≡ before.1) × (now.2 ≡ before.2)
Counts before now ending.SinkFault = (now.0 ≡ before.0) × ((Risen before.1 now.1 × (now.2 ≡ before.2)) ⊎ ((now.1 ≡ before.1) × Risen before.2 now.2))
Counts before now ending.OutOfMemory = now ≡ before
Counts before now (ending.Exited code) = now ≡ before
Counts before now ending.Made = now ≡ before
Counts before now (ending.Words at why) = now ≡ before
Counts before now (ending.Text line why) = now ≡ before
Counts before now (ending.Object at why) = now ≡ before
Counts before now (ending.Trace at why) = now ≡ before
Counts before now (ending.Point at why) = now ≡ before
Counts before now (ending.Stopped why pc icnt) = now ≡ before
Counts before now ending.Budget = now ≡ before
Counts before now (ending.TooLong name) = now ≡ before
Counts before now (ending.NotBuilt what) = now ≡ before

-- where a count grew, the answer is that fault
pub record TellsGrowth (before now : ℕ × ℕ × ℕ) (e : Ending) : Type 0 where
  pub shelf : before.0 < now.0 → e ≡ ending.ShelfFault
  pub prog : before.1 < now.1 → e ≡ ending.SinkFault
  pub stat : before.2 < now.2 → e ≡ ending.SinkFault

-- ---- streams that are left alone

-- nothing is put on the second stream after a fault of the shelf or of the first stream and where a command
-- made an object or a listing, and nothing on the first where words or a loaded file are refused; the numbers are the counts of
-- faults of the first stream, and the file is that of the point that a run leaves: it may be too long behind output
abbrev pub Quiet : {P R : Type 0} → (point : Option (List ℕ)) (before now : ℕ) → P → P → R → R → Ending → Type 0
Quiet point before now prog prog_now stat stat_now ending.ShelfFault = stat_now ≡ stat
Quiet point before now prog prog_now stat stat_now ending.SinkFault = before < now → stat_now ≡ stat
Quiet point before now prog prog_now stat stat_now ending.OutOfMemory = Unit {0}
Quiet point before now prog prog_now stat stat_now (ending.Exited code) = Unit {0}
Quiet point before now prog prog_now stat stat_now ending.Made = stat_now ≡ stat
Quiet point before now prog prog_now stat stat_now (ending.Words at why) = prog_now ≡ prog
Quiet point before now prog prog_now stat stat_now (ending.Text line why) = prog_now ≡ prog
Quiet point before now prog prog_now stat stat_now (ending.Object at why) = prog_now ≡ prog
Quiet point before now prog prog_now stat stat_now (ending.Trace at why) = prog_now ≡ prog
Quiet point before now prog prog_now stat stat_now (ending.Point at why) = prog_now ≡ prog
Quiet point before now prog prog_now stat stat_now (ending.Stopped why pc icnt) = Unit {0}
Quiet point before now prog prog_now stat stat_now ending.Budget = Unit {0}
Quiet point before now prog prog_now stat stat_now (ending.TooLong name) = (point ≡ Some name) ⊎ (prog_now ≡ prog)
Quiet point before now prog prog_now stat stat_now (ending.NotBuilt what) = (prog_now ≡ prog) × (stat_now ≡ stat)

-- a fact of the point that words ask for, with what was found of their configuration
pub record HoldsOfPoint (Told : Type 0) (files : Files) (words : List (List ℕ)) (Holds : Option (List ℕ) → Type 0) : Type 0 where
  pub config : List Found
  pub are : AreFound Told files (config_inputs words) config
  pub holds : Holds (left_point (asked_with words config))
