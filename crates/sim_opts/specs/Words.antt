-- What words ask for, and the first word that is wrong: the grammar, and the reading of words.
use Rattle.std.specs.Prelude.{◌≡◌, ◌+◌, ◌⊎◌, ℕ, zero, suc, Bool, false, List, [], ◌∷◌, ◌++◌, length, take, Option, Some, None, Result, Ok, Err, nat_eq, nat_le, if◌then◌else◌}
use Rattle.sim_opts.specs.declared.table.Slot.{Slot}
use Rattle.sim_opts.specs.declared.table.Tool.{Tool}
use Rattle.sim_opts.specs.declared.table.Tool.TheVariants.{SimSafe, Record, Asm, Dis}
use Rattle.sim_opts.specs.declared.values.ValueWhy.{ValueWhy}
use Rattle.sim_opts.specs.declared.values.ValueWhy.TheVariants as value
use Rattle.sim_opts.specs.declared.words.WordWhy.{WordWhy}
use Rattle.sim_opts.specs.declared.words.WordWhy.TheVariants as why
use Rattle.sim_opts.specs.declared.words.Wrong.{Wrong}
use Rattle.sim_opts.specs.Word.{is_file, fits_start_block, begins_with_dash}
use Rattle.sim_opts.specs.Table.{Row, row_named, most_of, tool_name, tool_named, is_unbuilt_name}
use Rattle.sim_opts.specs.Values.{value_fault}
use Rattle.sim_opts.specs.Settings.{Setting, count, is_given, written, AreSettings}

-- a place among words, and why the word there is wrong
abbrev pub wrong : ℕ → WordWhy → Wrong
wrong place reason = record { at = place; why = reason }

-- the same place, counted from so many words before
abbrev pub further : ℕ → Wrong → Wrong
further places w = wrong (places + w.at) w.why

abbrev pub further_on : ℕ → Option Wrong → Option Wrong
further_on places None = None
further_on places (Some w) = Some (further places w)

-- ---- one option

abbrev pub reason_of : ValueWhy → WordWhy
reason_of value.Number = why.Number
reason_of value.Range = why.Range
reason_of value.Form = why.Form

abbrev pub value_or : Option ValueWhy → Option Wrong → Option Wrong
value_or (Some reason) others = Some (wrong 0 (reason_of reason))
value_or None others = further_on 1 others

-- the first value that is wrong, or missing
abbrev pub values_fault : List Slot → List (List ℕ) → Option Wrong
values_fault [] words = None
values_fault (slot ∷ slots) [] = Some (wrong 0 why.Missing)
values_fault (slot ∷ slots) (word ∷ words) = value_or (value_fault slot word) (values_fault slots words)

-- why a known option can't stand behind those before it
abbrev pub row_fault : Tool → List Setting → Row → Option WordWhy
row_fault tool before row =
    if nat_eq (most_of tool row) 0 then Some why.NotHere else
    (if nat_le (most_of tool row) (count row.number before) then Some why.Twice else None)

abbrev pub set_to : Row → List (List ℕ) → Option Wrong → Result Setting Wrong
set_to row behind (Some w) = Err (further 1 w)
set_to row behind None = Ok (record { option = row; values = take (length row.slots) behind })

abbrev pub judged_by : Row → List (List ℕ) → Option WordWhy → Result Setting Wrong
judged_by row behind (Some reason) = Err (wrong 0 reason)
judged_by row behind None = set_to row behind (values_fault row.slots behind)

abbrev pub judged_row : Tool → List Setting → List (List ℕ) → Option Row → Result Setting Wrong
judged_row tool before behind None = Err (wrong 0 why.Option)
judged_row tool before behind (Some row) = judged_by row behind (row_fault tool before row)

-- a word in an option's place, with its values out of the words behind it, or what is wrong there
abbrev pub judged : Tool → List Setting → List ℕ → List (List ℕ) → Result Setting Wrong
judged tool before word behind = judged_row tool before behind (row_named word)

-- ---- the object and what stands behind it

-- so many files have names, and nothing stands behind them
abbrev pub names_fault : ℕ → List (List ℕ) → Option Wrong
names_fault zero [] = None
names_fault zero (word ∷ words) = Some (wrong 0 why.Extra)
names_fault (suc n) [] = Some (wrong 0 why.NoObject)
names_fault (suc n) (word ∷ words) = if is_file word then further_on 1 (names_fault n words) else Some (wrong 0 why.Form)

-- an object with a name, and arguments with which it can be started
abbrev pub start_fault : List (List ℕ) → Option Wrong
start_fault [] = Some (wrong 0 why.NoObject)
start_fault (object ∷ args) =
    if is_file object then (if fits_start_block (object ∷ args) then None else Some (wrong 0 why.TooLong))
    else Some (wrong 0 why.Form)

abbrev pub fault_or : Option Wrong → Option Wrong → Option Wrong
fault_or None other = other
fault_or (Some w) other = Some w

-- with -restart the object stands alone, and nothing is started
abbrev pub run_fault : List Setting → List (List ℕ) → Option Wrong
run_fault settings operands = if is_given 2 settings then names_fault 1 operands else start_fault operands

-- a recording has its -o
abbrev pub out_fault : List Setting → List (List ℕ) → Option Wrong
out_fault settings operands = if is_given 9 settings then None else Some (wrong (length operands) why.Missing)

-- the first wrong place of what stands behind the options
abbrev pub operands_fault : Tool → List Setting → List (List ℕ) → Option Wrong
operands_fault SimSafe settings operands = run_fault settings operands
operands_fault Record settings operands = fault_or (start_fault operands) (out_fault settings operands)
operands_fault Asm settings operands = names_fault 2 operands
operands_fault Dis settings operands = names_fault 1 operands

-- ---- the reading from left to right

-- options, the place behind them, and the words that stand there
pub record Walked : Type 0 where
  pub settings : List Setting
  pub place : ℕ
  pub behind : List (List ℕ)

abbrev pub walked : List Setting → ℕ → List (List ℕ) → Walked
walked before n words = record { settings = before; place = n; behind = words }

abbrev pub stepped : {A : Type 0} → ℕ → Result Setting Wrong → (Setting → Result A Wrong) → Result A Wrong
stepped place (Err w) go = Err (further place w)
stepped place (Ok s) go = go s

-- the options from a place on, behind so many values that belong to the option before
abbrev pub walk : Tool → List Setting → ℕ → ℕ → List (List ℕ) → Result Walked Wrong
walk tool before place values [] = Ok (walked before place [])
walk tool before place (suc values) (word ∷ words) = walk tool before (place + 1) values words
walk tool before place zero (word ∷ words) =
    if begins_with_dash word
    then stepped place (judged tool before word words) (λ s. walk tool (before ++ s ∷ []) (place + 1) (length s.values) words)
    else Ok (walked before place (word ∷ words))

-- what words ask for: a command, its options, and what stands behind them
pub record Asks : Type 0 where
  pub tool : Tool
  pub settings : List Setting
  pub operands : List (List ℕ)

abbrev pub asks : Tool → List Setting → List (List ℕ) → Asks
asks t options rest = record { tool = t; settings = options; operands = rest }

abbrev pub ended_by : Tool → Walked → Option Wrong → Result Asks Wrong
ended_by tool w None = Ok (asks tool w.settings w.behind)
ended_by tool w (Some fault) = Err (further w.place fault)

abbrev pub ended : Tool → Result Walked Wrong → Result Asks Wrong
ended tool (Err w) = Err w
ended tool (Ok w) = ended_by tool w (operands_fault tool w.settings w.behind)

abbrev pub read_by : Option Tool → List (List ℕ) → Result Asks Wrong
read_by None words = Err (wrong 0 why.Command)
read_by (Some tool) words = ended tool (walk tool [] 1 0 words)

-- what words ask for, or the place and the reason of the first wrong one
abbrev pub read : List (List ℕ) → Result Asks Wrong
read [] = Err (wrong 0 why.NoCommand)
read (command ∷ words) = read_by (tool_named command) words

-- the first word is the name of a command that isn't built
abbrev pub is_unbuilt : List (List ℕ) → Bool
is_unbuilt [] = false
is_unbuilt (command ∷ words) = is_unbuilt_name command

-- ---- the grammar

-- a word in an option's place begins with '-'
abbrev pub begins_with_option : List (List ℕ) → Bool
begins_with_option [] = false
begins_with_option (word ∷ words) = begins_with_dash word

-- words that ask for something: the command's name, its options in any order, each no more often than
-- it may stand, and behind them the object with what belongs to it, which begins with no option
pub record Ask (words : List (List ℕ)) (a : Asks) : Type 0 where
  pub order : words ≡ tool_name a.tool ∷ (written a.settings ++ a.operands)
  pub options : AreSettings a.tool [] a.settings
  pub behind : begins_with_option a.operands ≡ false
  pub operands : operands_fault a.tool a.settings a.operands ≡ None

-- what is wrong with the words behind right options: with an option that begins there, or else with
-- the object and what stands behind it
abbrev pub fault_of : Result Setting Wrong → Option Wrong
fault_of (Ok s) = None
fault_of (Err w) = Some w

abbrev pub rest_fault : Tool → List Setting → List (List ℕ) → Option Wrong
rest_fault tool before [] = operands_fault tool before []
rest_fault tool before (word ∷ words) =
    if begins_with_dash word then fault_of (judged tool before word words) else operands_fault tool before (word ∷ words)

-- the first wrong word behind a command's name: all options before it are right
pub record IsWrongBehind (words : List (List ℕ)) (w : Wrong) : Type 0 where
  pub tool : Tool
  pub settings : List Setting
  pub rest : List (List ℕ)
  pub fault : Wrong
  pub order : words ≡ tool_name tool ∷ (written settings ++ rest)
  pub options : AreSettings tool [] settings
  pub is_wrong : rest_fault tool settings rest ≡ Some fault
  pub place : w ≡ further (1 + length (written settings)) fault

-- the first wrong word, and why: there is none, or it is no command, or one behind a command
abbrev pub IsFirstWrong : List (List ℕ) → Wrong → Type 0
IsFirstWrong [] w = w ≡ wrong 0 why.NoCommand
IsFirstWrong (command ∷ words) w =
    ((tool_named command ≡ None) × (w ≡ wrong 0 why.Command)) ⊎ IsWrongBehind (command ∷ words) w
