-- What a program can be started with, as a test and as a fact, and that what is asked for can be started.
use Rattle.std.proofs.Common.{◌≡◌, ℕ, Bool, true, false, List, [], ◌∷◌, length, filter, Option, Some, None, Result, Ok, Err, if◌then◌else◌, refl, sym, subst, ap, ◌∙◌, arith}
use Rattle.std.specs.Prelude.{is_some, nat_eq, nat_le}
use Rattle.ecoff_load.specs.Start.{block}
use Rattle.ecoff_load.proofs.Block.{length-block}
use Rattle.ss_base.specs.declared.text_fault.AsmFault.{AsmFault}
use Rattle.sim_opts.specs.declared.table.Tool.{Tool}
use Rattle.sim_opts.specs.declared.table.Tool.TheVariants as tools
use Rattle.sim_opts.specs.declared.words.Wrong.{Wrong}
use Rattle.sim_opts.specs.declared.words.WordWhy.TheVariants as why
use Rattle.sim_opts.specs.declared.options.Options.{Options}
use Rattle.sim_opts.specs.declared.request.Request.{Request as Borrowed}
use Rattle.sim_opts.specs.Word.{is_file, start_block_length, fits_start_block}
use Rattle.sim_opts.specs.Settings.{Setting, of_option, is_given}
use Rattle.sim_opts.specs.Words.{Asks, wrong, read, names_fault, start_fault, out_fault, fault_or, operands_fault}
use Rattle.sim_opts.specs.Options.{Said, said_in, said_by, said_behind, nothing_said, given_in, first_value, with_setting, with_settings, clash, Answers}
use Rattle.sim_opts.specs.Configuration.{is_left, Configures}
use Rattle.sim_opts.specs.Request.{Request, Words, CanStart, StartsRun, Starts, CanBegin, told_place, command_of, asked}
use Rattle.sim_opts.specs.Borrowed.{request_in}
use Rattle.sim_opts.proofs.Grammar.{read_ask}
use Rattle.sim_opts.proofs.Saying.{tool_stays}

pub block_has_length : (big : Bool) (args : List (List ℕ)) → length (block big args) ≡ start_block_length args
block_has_length big args = length-block big args

pub can_start : (args : List (List ℕ)) → fits_start_block args ≡ true → CanStart args
can_start args h big = grind (arith, length-block big args)

-- ---- the arguments of words

fault_first : (first second : Option Wrong) → fault_or first second ≡ None → first ≡ None
fault_first None second h = refl
fault_first (Some w) second h = cc

start_if : (file fits : Bool) → (if file then (if fits then None else Some (wrong 0 why.TooLong)) else Some (wrong 0 why.Form)) ≡ None → fits ≡ true
start_if true true h = refl
start_if true false h = cc
start_if false fits h = cc

start_fits : (args : List (List ℕ)) → start_fault args ≡ None → fits_start_block args ≡ true
start_fits [] h = cc
start_fits (object ∷ args) h = start_if (is_file object) (fits_start_block (object ∷ args)) h

-- options leave the arguments as they are
pub args_stay : (a : Said) (settings : List Setting) → (with_settings a settings).args ≡ a.args
args_stay a [] = refl
args_stay a (s ∷ later) = args_stay (with_setting a s) later

-- ---- a point to start from

restart_next : (b : Bool) (word : List ℕ) (old : Option (List ℕ)) → is_some old ≡ true → is_some (if b then Some word else old) ≡ true
restart_next true word old h = refl
restart_next false word old h = h

-- one that is said stays said
restart_stays : (a : Said) (settings : List Setting) → is_some a.restart ≡ true → is_some (with_settings a settings).restart ≡ true
restart_stays a [] h = h
restart_stays a (s ∷ later) h = restart_stays (with_setting a s) later (restart_next (nat_eq s.option.number 2) (first_value s.values) a.restart h)

restart_here : (b : Bool) (a : Said) (s : Setting) (later : List Setting) → nat_eq s.option.number 2 ≡ b
    → (is_given 2 later ≡ true → is_some (with_settings (with_setting a s) later).restart ≡ true)
    → nat_le 1 (length (if b then s ∷ of_option 2 later else of_option 2 later)) ≡ true → is_some (with_settings (with_setting a s) later).restart ≡ true
restart_here true a s later e f h = restart_stays (with_setting a s) later (ap (λ (c : Bool). is_some (if c then Some (first_value s.values) else a.restart)) e)
restart_here false a s later e f h = f h

-- one that stands among the options is said
restart_given : (a : Said) (settings : List Setting) → is_given 2 settings ≡ true → is_some (with_settings a settings).restart ≡ true
restart_given a [] h = cc
restart_given a (s ∷ later) h = restart_here (nat_eq s.option.number 2) a s later refl (restart_given (with_setting a s) later) h

starts_from : (point : Option (List ℕ)) (args : List (List ℕ)) → is_some point ≡ true → StartsRun point args
starts_from None args h = cc
starts_from (Some point) args h = tt

starts_anew : (point : Option (List ℕ)) (args : List (List ℕ)) → CanStart args → StartsRun point args
starts_anew None args h = h
starts_anew (Some point) args h = tt

-- ---- what words say

-- what options say before what stands behind them
abbrev pub begun : Tool → List Setting → Said
begun t settings = with_settings (record (nothing_said t) { given = given_in settings }) settings

-- options and operands leave the command as it is
pub tool_behind : (t : Tool) (settings : List Setting) (operands : List (List ℕ)) → (said_behind t operands (begun t settings)).tool ≡ t
tool_behind tools.SimSafe settings operands = tool_stays (record (nothing_said tools.SimSafe) { given = given_in settings }) settings
tool_behind tools.Record settings operands = tool_stays (record (nothing_said tools.Record) { given = given_in settings }) settings
tool_behind tools.Asm settings operands = tool_stays (record (nothing_said tools.Asm) { given = given_in settings }) settings
tool_behind tools.Dis settings operands = tool_stays (record (nothing_said tools.Dis) { given = given_in settings }) settings

run_starts : (b : Bool) (settings : List Setting) (operands : List (List ℕ)) → is_given 2 settings ≡ b → (if b then names_fault 1 operands else start_fault operands) ≡ None
    → StartsRun (begun tools.SimSafe settings).restart operands
run_starts true settings operands e h = starts_from (begun tools.SimSafe settings).restart operands (restart_given (record (nothing_said tools.SimSafe) { given = given_in settings }) settings e)
run_starts false settings operands e h = starts_anew (begun tools.SimSafe settings).restart operands (can_start operands (start_fits operands h))

behind_starts : (t : Tool) (settings : List Setting) (operands : List (List ℕ)) → operands_fault t settings operands ≡ None → Starts (command_of t (said_behind t operands (begun t settings)))
behind_starts tools.SimSafe settings operands h = run_starts (is_given 2 settings) settings operands refl h
behind_starts tools.Record settings operands h = can_start operands (start_fits operands (fault_first (start_fault operands) (out_fault settings operands) h))
behind_starts tools.Asm settings operands h = tt
behind_starts tools.Dis settings operands h = tt

can_begin : (t : Tool) (a : Said) → a.tool ≡ t → Starts (command_of t a) → CanBegin a
can_begin t a e h = subst (λ (u : Tool). Starts (command_of u a)) (sym e) h

said_start : (meaning : Result Asks Wrong) (o : Options) → ((a : Asks) → meaning ≡ Ok a → CanBegin (said_by a)) → Answers meaning (Ok o) → CanBegin (said_in o)
said_start (Ok a) o f h = subst CanBegin (sym h) (f a refl)
said_start (Err w) o f h = absurd h

-- what words say can be started
pub said_starts : (words : List (List ℕ)) (o : Options) → Answers (read words) (Ok o) → CanBegin (said_in o)
said_starts words o h =
    said_start (read words) o
    (λ a e. can_begin a.tool (said_by a) (tool_behind a.tool a.settings a.operands) (behind_starts a.tool a.settings a.operands (read_ask words a e).operands)) h

-- ---- with a configuration

kept_run : (old new : Option (List ℕ)) (args args' : List (List ℕ)) → args' ≡ args → (is_some old ≡ true → is_some new ≡ true) → StartsRun old args → StartsRun new args'
kept_run None new args args' e f h = starts_anew new args' (subst CanStart (sym e) h)
kept_run (Some point) new args args' e f h = starts_from new args' (f refl)

command_stays : (t : Tool) (a : Said) (settings : List Setting) → Starts (command_of t a) → Starts (command_of t (with_settings a settings))
command_stays tools.SimSafe a settings h = kept_run a.restart (with_settings a settings).restart a.args (with_settings a settings).args (args_stay a settings) (restart_stays a settings) h
command_stays tools.Record a settings h = subst CanStart (sym (args_stay a settings)) h
command_stays tools.Asm a settings h = tt
command_stays tools.Dis a settings h = tt

settings_begin : (a : Said) (settings : List Setting) → CanBegin a → CanBegin (with_settings a settings)
settings_begin a settings h = can_begin a.tool (with_settings a settings) (tool_stays a settings) (command_stays a.tool a settings h)

-- a configuration leaves it so
pub configured_starts : (meaning : Result (List Setting) AsmFault) (old new : Said) → Configures meaning old new (Ok tt) → CanBegin old → CanBegin new
configured_starts (Ok settings) old new h start = subst CanBegin (sym h) (settings_begin old (filter (is_left old.given) settings) start)
configured_starts (Err fault) old new h start = absurd h

-- ---- what is asked for

starts_if : (clashes : Bool) (n : ℕ) (r : Request) → Starts r → Starts (if clashes then Words (told_place n) why.Clash else r)
starts_if true n r start = tt
starts_if false n r start = start

pub asked_starts : (n : ℕ) (a : Said) → CanBegin a → Starts (asked n a)
unfolding asked
asked_starts n a start = starts_if (clash a) n (command_of a.tool a) start

pub request_starts : (n : ℕ) (o : Options) (r : Borrowed) → request_in r ≡ asked n (said_in o) → CanBegin (said_in o) → Starts (request_in r)
request_starts n o r e start = subst Starts (sym e) (asked_starts n (said_in o) start)
