-- What a configuration says: its lines, the first one that is wrong, and what it leaves of the words.
use Rattle.std.specs.Prelude.{◌≡◌, ◌+◌, ◌||◌, ◌⊎◌, ℕ, Bool, true, false, not, List, [], ◌∷◌, ◌++◌, length, filter, find, nat_eq, nat_le, nat_lt, Option, Some, None, Result, Ok, Err}
use Rattle.std.specs.List.{list_all, list_any}
use Rattle.text_lines.specs.Lines.{lines_of, words_of, is_allowed}
use Rattle.ss_base.specs.declared.text_fault.TextWhy.{TextWhy}
use Rattle.ss_base.specs.declared.text_fault.TextWhy.TheVariants as why
use Rattle.ss_base.specs.declared.text_fault.AsmFault.{AsmFault}
use Rattle.ss_base.specs.declared.text_fault.AsmFault.TheVariants as faults
use Rattle.sim_opts.specs.declared.table.Slot.{Slot}
use Rattle.sim_opts.specs.declared.table.Tool.{Tool}
use Rattle.sim_opts.specs.declared.values.ValueWhy.{ValueWhy}
use Rattle.sim_opts.specs.declared.values.ValueWhy.TheVariants as value
use Rattle.sim_opts.specs.Table.{Row, row_named, most_of}
use Rattle.sim_opts.specs.Values.{value_fault}
use Rattle.sim_opts.specs.Settings.{Setting, count, IsSetting}
use Rattle.sim_opts.specs.Options.{Said, with_settings, given_in}

-- ---- what is wrong with a line

-- the reasons, of which the first that a line has is told
abbrev pub reasons : List TextWhy
reasons = why.Char ∷ why.Option ∷ why.NotHere ∷ why.Twice ∷ why.Missing ∷ why.Number ∷ why.Range ∷ why.Form ∷ why.Extra ∷ []

abbrev pub is_reason : ValueWhy → Option ValueWhy → Bool
is_reason reason None = false
is_reason value.Number (Some value.Number) = true
is_reason value.Range (Some value.Range) = true
is_reason value.Form (Some value.Form) = true
is_reason reason (Some other) = false

-- one of the values is wrong for this reason
abbrev pub some_value : ValueWhy → List Slot → List (List ℕ) → Bool
some_value reason [] words = false
some_value reason (slot ∷ slots) [] = false
some_value reason (slot ∷ slots) (word ∷ words) = is_reason reason (value_fault slot word) || some_value reason slots words

-- values are too few, wrong or too many
abbrev pub values_have : List Slot → List (List ℕ) → TextWhy → Bool
values_have slots words why.Missing = nat_lt (length words) (length slots)
values_have slots words why.Number = some_value value.Number slots words
values_have slots words why.Range = some_value value.Range slots words
values_have slots words why.Form = some_value value.Form slots words
values_have slots words why.Extra = nat_lt (length slots) (length words)
values_have slots words reason = false

-- an option that stood so often before isn't the command's, stands among words alone, or stands too
-- often, or its values are wrong
abbrev pub option_has : Tool → ℕ → Row → List (List ℕ) → TextWhy → Bool
option_has tool times row words why.NotHere = row.words_alone || nat_eq (most_of tool row) 0
option_has tool times row words why.Twice = nat_le (most_of tool row) times
option_has tool times row words reason = values_have row.slots words reason

abbrev pub is_unknown : TextWhy → Bool
is_unknown why.Option = true
is_unknown reason = false

abbrev pub named_has : Tool → List Setting → Option Row → List (List ℕ) → TextWhy → Bool
named_has tool before None words reason = is_unknown reason
named_has tool before (Some row) words reason = option_has tool (count row.number before) row words reason

-- the first word of a line has to be an option, which the others are the values of
abbrev pub words_have : Tool → List Setting → List (List ℕ) → TextWhy → Bool
words_have tool before [] reason = false
words_have tool before (word ∷ words) reason = named_has tool before (row_named word) words reason

-- a byte that may not stand there is wrong in a comment too
abbrev pub line_has : Tool → List Setting → List ℕ → TextWhy → Bool
line_has tool before line why.Char = not (list_all is_allowed line)
line_has tool before line reason = words_have tool before (words_of line) reason

-- why a line is wrong behind lines that say these options
abbrev pub line_fault : Tool → List Setting → List ℕ → Option TextWhy
line_fault tool before line = find (line_has tool before line) reasons

-- ---- the reading of one line after the other

abbrev pub setting_of : Option Row → List (List ℕ) → List Setting
setting_of None words = []
setting_of (Some row) words = record { option = row; values = words } ∷ []

abbrev pub words_settings : List (List ℕ) → List Setting
words_settings [] = []
words_settings (word ∷ words) = setting_of (row_named word) words

-- the option that a line says, if it says one
abbrev pub line_settings : List ℕ → List Setting
line_settings line = words_settings (words_of line)

abbrev pub line_or : {A : Type 0} → ℕ → Option TextWhy → Result A AsmFault → Result A AsmFault
line_or n None others = others
line_or n (Some reason) others = Err (faults.Bad n reason)

-- the options of the lines from a number on, behind those of the lines before
abbrev pub read_lines : Tool → ℕ → List Setting → List (List ℕ) → Result (List Setting) AsmFault
read_lines tool n before [] = Ok before
read_lines tool n before (line ∷ lines) = line_or n (line_fault tool before line) (read_lines tool (n + 1) (before ++ line_settings line) lines)

-- the options of a configuration, or its first wrong line and the reason
abbrev pub configuration : Tool → List ℕ → Result (List Setting) AsmFault
configuration tool text = read_lines tool 1 [] (lines_of text)

-- ---- words and a configuration together

-- an option's number isn't among these
abbrev pub is_left : List ℕ → Setting → Bool
is_left numbers s = not (list_any (λ n. nat_eq n s.option.number) numbers)

-- the options of words, and those of a configuration that don't stand among the words
abbrev pub together : List Setting → List Setting → List Setting
together words lines = words ++ filter (is_left (given_in words)) lines

-- what is said with a configuration: an option among the words wins
abbrev pub with_configuration : Said → List Setting → Said
with_configuration a settings = with_settings a (filter (is_left a.given) settings)

-- reading a configuration sets what its options say, or tells the first wrong line, unless memory ran
-- out; where it is refused, nothing is said of what is left
abbrev pub Configures : Result (List Setting) AsmFault → Said → Said → Result (Unit {0}) AsmFault → Type 0
Configures meaning old new (Err faults.OutOfMemory) = Unit {0}
Configures (Ok settings) old new (Ok done) = new ≡ with_configuration old settings
Configures (Ok settings) old new (Err (faults.Bad line reason)) = ⊥
Configures (Err fault) old new (Ok done) = ⊥
Configures (Err fault) old new (Err (faults.Bad line reason)) = fault ≡ faults.Bad line reason

-- ---- the grammar

-- a line without an option
pub record IsEmptyLine (line : List ℕ) : Type 0 where
  pub allowed : list_all is_allowed line ≡ true
  pub words : words_of line ≡ []

-- a line with an option that may stand there, and its values
pub record IsOptionLine (tool : Tool) (before : List Setting) (line : List ℕ) (s : Setting) : Type 0 where
  pub allowed : list_all is_allowed line ≡ true
  pub words : words_of line ≡ s.option.name ∷ s.values
  pub may_stand : IsSetting tool before s
  pub in_files : s.option.words_alone ≡ false

-- lines that say these options, behind lines that say others
abbrev pub AreLines : Tool → List Setting → List (List ℕ) → List Setting → Type 0
AreLines tool before [] settings = settings ≡ []
AreLines tool before (line ∷ lines) settings =
    (IsEmptyLine line × AreLines tool before lines settings)
    ⊎ ((s : Setting) × (later : List Setting) × (settings ≡ s ∷ later) × IsOptionLine tool before line s × AreLines tool (before ++ s ∷ []) lines later)

-- the first wrong line: all lines before it say options, and it has no reason before this one
pub record IsWrongLine (tool : Tool) (lines : List (List ℕ)) (number : ℕ) (reason : TextWhy) : Type 0 where
  pub front : List (List ℕ)
  pub line : List ℕ
  pub behind : List (List ℕ)
  pub settings : List Setting
  pub order : lines ≡ front ++ line ∷ behind
  pub right : AreLines tool [] front settings
  pub is_wrong : line_fault tool settings line ≡ Some reason
  pub place : number ≡ 1 + length front
