-- What words ask for, with what stands in the configuration that they name.
use Rattle.std.specs.Prelude.{◌≤◌, ◌-◌, ◌^◌, ℕ, Bool, List, [], length, min, Option, Some, None, Result, Ok, Err, unwrap_or, if◌then◌else◌}
use Rattle.ecoff_load.specs.Start.{block}
use Rattle.ss_base.specs.declared.text_fault.TextWhy.{TextWhy}
use Rattle.ss_base.specs.declared.text_fault.AsmFault.{AsmFault}
use Rattle.ss_base.specs.declared.text_fault.AsmFault.TheVariants as faults
use Rattle.sim_opts.specs.declared.table.Tool.{Tool}
use Rattle.sim_opts.specs.declared.table.Tool.TheVariants as tools
use Rattle.sim_opts.specs.declared.words.WordWhy.{WordWhy}
use Rattle.sim_opts.specs.declared.words.WordWhy.TheVariants as why
use Rattle.sim_opts.specs.declared.words.Wrong.{Wrong}
use Rattle.sim_opts.specs.Settings.{Setting}
use Rattle.sim_opts.specs.Words.{Asks, read, is_unbuilt}
use Rattle.sim_opts.specs.Options.{Said, said_by, clash}
use Rattle.sim_opts.specs.Configuration.{configuration, with_configuration}

-- a run of a program
pub record Run : Type 0 where
  -- the object, and the arguments from the object on
  pub object : List ℕ
  pub args : List (List ℕ)
  -- the files of its recorded calls, and of the point that it starts from in place of the program's start
  pub trace : Option (List ℕ)
  pub restart : Option (List ℕ)
  -- how many steps are skipped first, and the most that are done behind them
  pub skip : ℕ
  pub most : ℕ
  -- the file for the commit text
  pub commits : Option (List ℕ)
  -- the file for a point, and behind how many instructions it is taken
  pub point : Option (List ℕ × ℕ)

pub data Request : Type 0 where
  -- run an object
  SimSafe : Run → Request
  -- run an object and record its calls: the file for the trace, the file that is read as input, and the files that the program can open
  Record : (out : List ℕ) (input : Option (List ℕ)) (files : List (List ℕ)) (max_inst : ℕ) (object : List ℕ) (args : List (List ℕ)) → Request
  -- make an object of a source
  Asm : (source object : List ℕ) → Request
  -- print an object's instructions
  Dis : (object : List ℕ) → Request
  -- nothing: the words are wrong at a place
  Words : (place : ℕ) (reason : WordWhy) → Request
  -- nothing: the configuration is wrong at a line
  Text : (line : ℕ) (reason : TextWhy) → Request
  -- something that isn't built
  NotBuilt : Request

-- ---- options together

-- a place as it is told
abbrev pub told_place : ℕ → ℕ
told_place n = min n (2 ^ 32 - 1)

-- the run that is asked for
abbrev pub run_of : Said → Run
run_of a = record {
  object = a.object;
  args = a.args;
  trace = a.trace;
  restart = a.restart;
  skip = a.fastfwd;
  most = a.max_inst;
  commits = a.commits;
  point = a.chkpt;
}

-- what a command is asked for
abbrev pub command_of : Tool → Said → Request
command_of tools.SimSafe a = SimSafe (run_of a)
command_of tools.Record a = Record (unwrap_or a.out []) a.input a.files a.max_inst a.object a.args
command_of tools.Asm a = Asm (unwrap_or a.source []) a.object
command_of tools.Dis a = Dis a.object

-- what is asked for by options that so many words and their configuration say: where they clash, the words
-- are wrong at their end
unfoldable pub asked : ℕ → Said → Request
asked words a = if clash a then Words (told_place words) why.Clash else command_of a.tool a

-- ---- with a configuration

-- a configuration is read or wrong at a line; that memory is wanted isn't said by its definition
abbrev pub configured_by : ℕ → Said → Result (List Setting) AsmFault → Request
configured_by words a (Ok settings) = asked words (with_configuration a settings)
configured_by words a (Err (faults.Bad line reason)) = Text line reason
configured_by words a (Err faults.OutOfMemory) = NotBuilt

-- what is asked for by options that words say, with the text of a configuration if there is one
unfoldable pub configured : ℕ → Said → Option (List ℕ) → Request
configured words a None = asked words a
configured words a (Some text) = configured_by words a (configuration a.tool text)

-- ---- words

abbrev pub request_by : ℕ → Result Asks Wrong → Option (List ℕ) → Request
request_by words (Ok a) text = configured words (said_by a) text
request_by words (Err w) text = Words (told_place w.at) w.why

-- what words ask for, with the text of the configuration that they name, if they name one: words that name a
-- command that isn't built are nothing else
unfoldable pub request_with : List (List ℕ) → Option (List ℕ) → Request
request_with words text = if is_unbuilt words then NotBuilt else request_by (length words) (read words) text

abbrev pub config_by : Result Asks Wrong → Option (List ℕ)
config_by (Ok a) = (said_by a).config
config_by (Err w) = None

-- the configuration that words name, which is loaded before all other files
unfoldable pub config_of : List (List ℕ) → Option (List ℕ)
config_of words = if is_unbuilt words then None else config_by (read words)

-- ---- starts

-- a program can be started with these arguments: their start block has at most 16,384 bytes in either byte order
abbrev pub CanStart : List (List ℕ) → Type 0
CanStart args = (big : Bool) → length (block big args) ≤ 16384

-- a run from a point has no start block
abbrev pub StartsRun : Option (List ℕ) → List (List ℕ) → Type 0
StartsRun None args = CanStart args
StartsRun (Some point) args = Unit {0}

-- a program that is asked for can be started
abbrev pub Starts : Request → Type 0
Starts (SimSafe run) = StartsRun run.restart run.args
Starts (Record out input files max_inst object args) = CanStart args
Starts (Asm source object) = Unit {0}
Starts (Dis object) = Unit {0}
Starts (Words place reason) = Unit {0}
Starts (Text line reason) = Unit {0}
Starts NotBuilt = Unit {0}

-- what is said asks for a program that can be started, or for none
abbrev pub CanBegin : Said → Type 0
CanBegin a = Starts (command_of a.tool a)
