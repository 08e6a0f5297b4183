-- What comes of words: the files that are loaded for them, and the outcome of what is found in these.
use Rattle.std.specs.Prelude.{◌≡◌, ◌<◌, ℕ, List, [], ◌∷◌, map, Option, Some, None, unwrap_or, Result, slice_index}
use Rattle.ss_base.specs.Outside.{Files, bytes_at}
use Rattle.journal.specs.declared.fault.Fault.{Fault}
use Rattle.journal.specs.declared.loading.Found.{Found}
use Rattle.journal.specs.declared.loading.Found.TheVariants as found
use Rattle.journal.specs.Load.{Input, input, AreFound}
use Rattle.journal.specs.Loading.{found_in}
use Rattle.journal.specs.Outcome.{Outcome}
use Rattle.answers.specs.declared.answer.Answer.{Answer}
use Rattle.answers.specs.declared.answer.Answer.TheVariants as answer
use Rattle.answers.specs.declared.answer.Unbuilt.TheVariants as unbuilt
use Rattle.answers.specs.Answer.{answered, refused}
use Rattle.run_commands.specs.Program.{named_input, object_limit}
use Rattle.run_commands.specs.Outcome.{SimSafeOutcome, RecordOutcome, sim_safe_inputs, record_inputs, point_file}
use Rattle.run_commands.specs.Replay.{RecordingOutcome}
use Rattle.object_commands.specs.Outcome.{AsmOutcome, DisOutcome}
use Rattle.sim_opts.specs.Request.{Request, SimSafe, Record, Asm, Dis, Words, Text, NotBuilt, request_with, config_of}

-- what isn't built writes nothing
abbrev pub not_built : Outcome Answer
not_built = answered (answer.NotBuilt unbuilt.Words) []

-- ---- what words ask for

-- the most bytes of a configuration, and of a source
abbrev pub config_limit : ℕ
config_limit = 65536

abbrev pub source_limit : ℕ
source_limit = 4194304

-- what is asked for once the configuration was looked for, if one is named: a request, or nothing, since the
-- configuration is too long
pub data Asked : Type 0 where
  Asks : (request : Request) → Asked
  LongConfig : (name : List ℕ) → Asked

-- the configuration that words name is loaded before all other files
abbrev pub config_inputs : List (List ℕ) → List Input
config_inputs words = named_input config_limit (config_of words) []

-- what is asked for with a configuration of this name, by what was found of it
abbrev pub asked_by : Option (List ℕ) → (Option (List ℕ) → Request) → List Found → Asked
asked_by name request_of [] = Asks (request_of None)
asked_by name request_of (found.Whole text ∷ others) = Asks (request_of (Some text))
asked_by name request_of (found.TooLong ∷ others) = LongConfig (unwrap_or name [])

abbrev pub asked_with : List (List ℕ) → List Found → Asked
asked_with words config = asked_by (config_of words) (request_with words) config

-- ---- what comes of it

-- the files that are loaded for what is asked, in this order, each with the most bytes that it may have
abbrev pub inputs_of : Asked → List Input
inputs_of (Asks (SimSafe r)) = sim_safe_inputs r
inputs_of (Asks (Record out given files max_inst object args)) = record_inputs given files object
inputs_of (Asks (Asm source object)) = input source source_limit ∷ []
inputs_of (Asks (Dis object)) = input object object_limit ∷ []
inputs_of (Asks (Words place reason)) = []
inputs_of (Asks (Text line reason)) = []
inputs_of (Asks NotBuilt) = []
inputs_of (LongConfig name) = []

-- what comes of it, by what is found in these files
abbrev pub HasOutcome : Asked → List Found → Outcome Answer → Type 0
HasOutcome (Asks (SimSafe r)) found o = SimSafeOutcome r found o
HasOutcome (Asks (Record out given files max_inst object args)) found o = RecordOutcome out given files max_inst object args found o
HasOutcome (Asks (Asm source object)) found o = AsmOutcome source object found o
HasOutcome (Asks (Dis object)) found o = DisOutcome object found o
HasOutcome (Asks (Words place reason)) found o = o ≡ refused (answer.Words place reason)
HasOutcome (Asks (Text line reason)) found o = o ≡ refused (answer.Text line reason)
HasOutcome (Asks NotBuilt) found o = o ≡ not_built
HasOutcome (LongConfig name) found o = o ≡ refused (answer.TooLong name)

-- the same of a command that came to an answer or a fault; where a recording answers, it is replayed
abbrev pub ComesBy : Asked → Result Answer Fault → List Found → Outcome Answer → Type 0
ComesBy (Asks (SimSafe r)) came found o = SimSafeOutcome r found o
ComesBy (Asks (Record out given files max_inst object args)) came found o = RecordingOutcome out given files max_inst object args came found o
ComesBy (Asks (Asm source object)) came found o = AsmOutcome source object found o
ComesBy (Asks (Dis object)) came found o = DisOutcome object found o
ComesBy (Asks (Words place reason)) came found o = o ≡ refused (answer.Words place reason)
ComesBy (Asks (Text line reason)) came found o = o ≡ refused (answer.Text line reason)
ComesBy (Asks NotBuilt) came found o = o ≡ not_built
ComesBy (LongConfig name) came found o = o ≡ refused (answer.TooLong name)

-- the file of the point that a run leaves, if it leaves one
abbrev pub left_point : Asked → Option (List ℕ)
left_point (Asks (SimSafe r)) = point_file r.point
left_point (Asks (Record out given files max_inst object args)) = None
left_point (Asks (Asm source object)) = None
left_point (Asks (Dis object)) = None
left_point (Asks (Words place reason)) = None
left_point (Asks (Text line reason)) = None
left_point (Asks NotBuilt) = None
left_point (LongConfig name) = None

-- ---- what comes of words

-- all files that are loaded for words that ask for this
abbrev pub inputs_for : List (List ℕ) → Asked → List Input
inputs_for words asked = named_input config_limit (config_of words) (inputs_of asked)

-- what was found in the files behind the configuration
abbrev pub behind_config : Option (List ℕ) → List Found → List Found
behind_config None found = found
behind_config (Some name) [] = []
behind_config (Some name) (config ∷ others) = others

-- what comes of words that ask for this, by what is found in all these files
abbrev pub OutcomeFor : List (List ℕ) → Asked → List Found → Outcome Answer → Type 0
OutcomeFor words asked found o = HasOutcome asked (behind_config (config_of words) found) o

abbrev pub ComesFor : List (List ℕ) → Asked → Result Answer Fault → List Found → Outcome Answer → Type 0
ComesFor words asked came found o = ComesBy asked came (behind_config (config_of words) found) o

-- ---- where files are told

-- what words ask for where files hold this
abbrev pub asked_in : List (List ℕ) → Files → Asked
asked_in words files = asked_with words (map (found_in files) (config_inputs words))

-- the files that are loaded for them, and what comes of what is found in these
abbrev pub inputs_in : List (List ℕ) → Files → List Input
inputs_in words files = inputs_for words (asked_in words files)

abbrev pub OutcomeIn : List (List ℕ) → Files → List Found → Outcome Answer → Type 0
OutcomeIn words files found o = OutcomeFor words (asked_in words files) found o

abbrev pub ComesIn : List (List ℕ) → Files → Result Answer Fault → List Found → Outcome Answer → Type 0
ComesIn words files came found o = ComesFor words (asked_in words files) came found o

-- ---- exactly one outcome

-- files hold bytes
abbrev pub HoldBytes : Files → Type 0
HoldBytes files = (name : List ℕ) (k : ℕ) → slice_index (bytes_at files name) k < 256

-- what is found in files, and the one outcome of that
pub record ExactlyOne (words : List (List ℕ)) (files : Files) : Type 0 where
  pub found : List Found
  pub are : AreFound (Unit {0}) files (inputs_in words files) found
  pub outcome : Outcome Answer
  pub has : OutcomeIn words files found outcome
  pub only : (others : List Found) (o : Outcome Answer) → AreFound (Unit {0}) files (inputs_in words files) others → OutcomeIn words files others o → o ≡ outcome
