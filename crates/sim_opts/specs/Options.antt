-- What options say: the fields of a command's options, from the settings that stand for them.
use Rattle.std.specs.Prelude.{◌≡◌, ◌-◌, ℕ, Bool, true, false, List, [], ◌∷◌, ◌++◌, length, map, filter, find, bytes_eq, Option, Some, None, Result, Ok, Err, ◌^◌, min, nat_eq, if◌then◌else◌, get_or, unwrap_or}
use Rattle.sim_opts.specs.declared.table.Tool.{Tool}
use Rattle.sim_opts.specs.declared.table.Tool.TheVariants.{SimSafe, Record, Asm, Dis}
use Rattle.sim_opts.specs.declared.options.Options.{Options}
use Rattle.sim_opts.specs.declared.asked.WordFault.{WordFault}
use Rattle.sim_opts.specs.declared.asked.WordFault.TheVariants as faults
use Rattle.sim_opts.specs.declared.words.Wrong.{Wrong}
use Rattle.sim_opts.specs.Word.{digits_of}
use Rattle.sim_opts.specs.Table.{Row, table}
use Rattle.sim_opts.specs.Settings.{Setting, is_given}
use Rattle.sim_opts.specs.Words.{Asks}

-- what the words and the configuration of a command say
pub record Said : Type 0 where
  pub tool : Tool
  pub object : List ℕ
  pub args : List (List ℕ)
  pub source : Option (List ℕ)
  pub config : Option (List ℕ)
  pub trace : Option (List ℕ)
  pub restart : Option (List ℕ)
  pub commits : Option (List ℕ)
  pub chkpt : Option (List ℕ × ℕ)
  pub out : Option (List ℕ)
  pub input : Option (List ℕ)
  pub files : List (List ℕ)
  pub max_inst : ℕ
  pub fastfwd : ℕ
  pub given : List ℕ

abbrev pub said_in : Options → Said
said_in o = record {
  tool = o.tool;
  object = o.object;
  args = o.args;
  source = o.source;
  config = o.config;
  trace = o.trace;
  restart = o.restart;
  commits = o.commits;
  chkpt = o.chkpt;
  out = o.out;
  input = o.input;
  files = o.files;
  max_inst = o.max_inst;
  fastfwd = o.fastfwd;
  given = o.given.items;
}

-- ---- options

-- a field that one option sets
abbrev pub set_by : {A : Type 0} → ℕ → ℕ → A → A → A
set_by n option new old = if nat_eq option n then new else old

-- what is said with one option more: its number, its first value, and the number that its last value
-- writes
abbrev pub said_with : ℕ → List ℕ → ℕ → Said → Said
said_with option word number a = record {
  tool = a.tool;
  object = a.object;
  args = a.args;
  source = a.source;
  given = a.given;
  config = set_by 0 option (Some word) a.config;
  trace = set_by 1 option (Some word) a.trace;
  restart = set_by 2 option (Some word) a.restart;
  commits = set_by 3 option (Some word) a.commits;
  chkpt = set_by 5 option (Some (word, number)) a.chkpt;
  max_inst = set_by 6 option number a.max_inst;
  fastfwd = set_by 8 option number a.fastfwd;
  out = set_by 9 option (Some word) a.out;
  input = set_by 10 option (Some word) a.input;
  files = set_by 11 option (a.files ++ word ∷ []) a.files;
}

-- the first value of an option, and the number that its last one writes
abbrev pub first_value : List (List ℕ) → List ℕ
first_value values = get_or values 0 []

abbrev pub last_number : List (List ℕ) → ℕ
last_number values = unwrap_or (digits_of (get_or values (length values - 1) [])) 0

abbrev pub with_setting : Said → Setting → Said
with_setting a s = said_with s.option.number (first_value s.values) (last_number s.values) a

abbrev pub with_settings : Said → List Setting → Said
with_settings a [] = a
with_settings a (s ∷ later) = with_settings (with_setting a s) later

-- the number that holds where an option is left out
abbrev pub default_in : Option Row → ℕ
default_in None = 0
default_in (Some r) = r.default

abbrev pub default_of : ℕ → ℕ
default_of n = default_in (find (λ r. nat_eq r.number n) table)

-- what is said where no word stands behind the command's name
abbrev pub nothing_said : Tool → Said
nothing_said t = record {
  tool = t;
  object = [];
  args = [];
  source = None;
  config = None;
  trace = None;
  restart = None;
  commits = None;
  chkpt = None;
  out = None;
  input = None;
  files = [];
  max_inst = default_of 6;
  fastfwd = default_of 8;
  given = [];
}

-- ---- the object and what stands behind it

-- the first word is the object, with all of them as its arguments; or a source, and then the object
abbrev pub said_behind : Tool → List (List ℕ) → Said → Said
said_behind SimSafe words a = record a { object = get_or words 0 []; args = words }
said_behind Record words a = record a { object = get_or words 0 []; args = words }
said_behind Asm words a = record a { source = Some (get_or words 0 []); object = get_or words 1 [] }
said_behind Dis words a = record a { object = get_or words 0 [] }

abbrev pub kept_if : Bool → ℕ → List ℕ
kept_if true n = n ∷ []
kept_if false n = []

-- the numbers of the options that stand among the words, rising
abbrev pub given_in : List Setting → List ℕ
given_in settings = map (λ r. r.number) (filter (λ r. is_given r.number settings) table)

-- what words say that ask for this
abbrev pub said_by : Asks → Said
said_by a = said_behind a.tool a.operands (with_settings (record (nothing_said a.tool) { given = given_in a.settings }) a.settings)

-- two files that are written have one name
abbrev pub same_file : Option (List ℕ) → Option (List ℕ × ℕ) → Bool
same_file (Some commits) (Some point) = bytes_eq commits point.0
same_file (Some commits) None = false
same_file None point = false

abbrev pub clash : Said → Bool
clash a = same_file a.commits a.chkpt

-- what reading words answers: what they say, or the first wrong place, unless memory ran out
abbrev pub Answers : Result Asks Wrong → Result Options WordFault → Type 0
Answers meaning (Err faults.OutOfMemory) = Unit {0}
Answers (Ok a) (Ok options) = said_in options ≡ said_by a
Answers (Ok a) (Err (faults.Bad place reason)) = ⊥
Answers (Err w) (Ok options) = ⊥
Answers (Err w) (Err (faults.Bad place reason)) = (place ≡ min w.at (2 ^ 32 - 1)) × (reason ≡ w.why)
