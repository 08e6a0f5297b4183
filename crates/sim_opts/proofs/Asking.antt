-- What words ask for, by the grammars of words and of configurations.
use Rattle.std.proofs.Common.{◌≡◌, ℕ, false, List, [], length, Option, Some, None, Result, Ok, Err, refl, ap, ◌∙◌}
use Rattle.text_lines.specs.Lines.{lines_of}
use Rattle.ss_base.specs.declared.text_fault.TextWhy.{TextWhy}
use Rattle.ss_base.specs.declared.text_fault.AsmFault.{AsmFault}
use Rattle.ss_base.specs.declared.text_fault.AsmFault.TheVariants as faults
use Rattle.sim_opts.specs.declared.table.Tool.{Tool}
use Rattle.sim_opts.specs.declared.table.Tool.TheVariants as tools
use Rattle.sim_opts.specs.declared.words.Wrong.{Wrong}
use Rattle.sim_opts.specs.Table.{tool_name, is_unbuilt_name}
use Rattle.sim_opts.specs.Settings.{Setting}
use Rattle.sim_opts.specs.Words.{Asks, Ask, IsFirstWrong, is_unbuilt}
use Rattle.sim_opts.specs.Options.{said_by}
use Rattle.sim_opts.specs.Configuration.{AreLines, IsWrongLine, read_lines, configuration, with_configuration}
use Rattle.sim_opts.specs.Request.{Words, Text, told_place, asked, configured, configured_by, request_by, request_with}
use Rattle.sim_opts.specs.RequestLaws.{built_asks, alone_asks}
use Rattle.sim_opts.proofs.Grammar.{ask_read, wrong_read}
use Rattle.sim_opts.proofs.LineGrammar.{lines_iff_read, wrong_iff_read}
use Rattle.sim_opts.proofs.Starts.{tool_behind}

built_tool : (t : Tool) → is_unbuilt_name (tool_name t) ≡ false
unfolding is_unbuilt_name
built_tool tools.SimSafe = refl
built_tool tools.Record = refl
built_tool tools.Asm = refl
built_tool tools.Dis = refl

-- words that ask for something name a command that is built
built_words : (words : List (List ℕ)) (a : Asks) → Ask words a → is_unbuilt words ≡ false
built_words words a k = ap is_unbuilt k.order ∙ built_tool a.tool

told_by : (words : List (List ℕ)) (text : Option (List ℕ)) (a : Asks) → Ask words a → request_with words text ≡ configured (length words) (said_by a) text
told_by words text a k = built_asks words text (built_words words a k) ∙ ap (λ (r : Result Asks Wrong). request_by (length words) r text) (ask_read words a k)

pub alone : (words : List (List ℕ)) (a : Asks) → Ask words a → request_with words None ≡ asked (length words) (said_by a)
alone words a k = told_by words None a k ∙ alone_asks (length words) (said_by a)

with_text : (words : List (List ℕ)) (text : List ℕ) (a : Asks) → Ask words a → request_with words (Some text) ≡ configured_by (length words) (said_by a) (configuration (said_by a).tool text)
unfolding configured
with_text words text a k = told_by words (Some text) a k

tool_said : (a : Asks) → (said_by a).tool ≡ a.tool
tool_said a = tool_behind a.tool a.settings a.operands

read_as : (words : List (List ℕ)) (text : List ℕ) (a : Asks) (meaning : Result (List Setting) AsmFault) → Ask words a → read_lines a.tool 1 [] (lines_of text) ≡ meaning
    → request_with words (Some text) ≡ configured_by (length words) (said_by a) meaning
read_as words text a meaning k e =
    with_text words text a k
    ∙ ap (λ (t : Tool). configured_by (length words) (said_by a) (configuration t text)) (tool_said a)
    ∙ ap (configured_by (length words) (said_by a)) e

pub together : (words : List (List ℕ)) (text : List ℕ) (a : Asks) (settings : List Setting) → Ask words a → AreLines a.tool [] (lines_of text) settings
    → request_with words (Some text) ≡ asked (length words) (with_configuration (said_by a) settings)
together words text a settings k lines = read_as words text a (Ok settings) k ((lines_iff_read a.tool (lines_of text) settings).0 lines)

pub wrong_line : (words : List (List ℕ)) (text : List ℕ) (a : Asks) (number : ℕ) (reason : TextWhy) → Ask words a → IsWrongLine a.tool (lines_of text) number reason
    → request_with words (Some text) ≡ Text number reason
wrong_line words text a number reason k lines = read_as words text a (Err (faults.Bad number reason)) k ((wrong_iff_read a.tool (lines_of text) number reason).0 lines)

pub wrong_word : (words : List (List ℕ)) (text : Option (List ℕ)) (w : Wrong) → is_unbuilt words ≡ false → IsFirstWrong words w → request_with words text ≡ Words (told_place w.at) w.why
wrong_word words text w built k = built_asks words text built ∙ ap (λ (r : Result Asks Wrong). request_by (length words) r text) (wrong_read words w k)
