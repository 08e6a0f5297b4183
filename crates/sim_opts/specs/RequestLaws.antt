-- Laws of what words ask for, by what their readers answer.
use Rattle.std.proofs.Common.{◌≡◌, ℕ, Bool, true, false, List, length, Option, Some, None, Result, Ok, Err, if◌then◌else◌, refl, sym, ap, ◌∙◌}
use Rattle.ss_base.specs.declared.text_fault.TextWhy.{TextWhy}
use Rattle.ss_base.specs.declared.text_fault.AsmFault.{AsmFault}
use Rattle.ss_base.specs.declared.text_fault.AsmFault.TheVariants as text_faults
use Rattle.sim_opts.specs.declared.words.WordWhy.{WordWhy}
use Rattle.sim_opts.specs.declared.words.Wrong.{Wrong}
use Rattle.sim_opts.specs.declared.options.Options.{Options}
use Rattle.sim_opts.specs.declared.asked.WordFault.TheVariants as faults
use Rattle.sim_opts.specs.Settings.{Setting}
use Rattle.sim_opts.specs.Words.{Asks, read, is_unbuilt}
use Rattle.sim_opts.specs.Options.{Said, said_in, Answers}
use Rattle.sim_opts.specs.Configuration.{configuration, Configures}
use Rattle.sim_opts.specs.Request.{Words, Text, NotBuilt, told_place, asked, configured, configured_by, request_by, request_with, config_by, config_of}

-- ---- words that name a command that isn't built

pub unbuilt_asks : (words : List (List ℕ)) (text : Option (List ℕ)) → is_unbuilt words ≡ true → request_with words text ≡ NotBuilt
unfolding request_with
unbuilt_asks words text e = ap (λ (b : Bool). if b then NotBuilt else request_by (length words) (read words) text) e

pub unbuilt_config : (words : List (List ℕ)) → is_unbuilt words ≡ true → config_of words ≡ None
unfolding config_of
unbuilt_config words e = ap (λ (b : Bool). if b then None else config_by (read words)) e

-- ---- words that are wrong

pub built_asks : (words : List (List ℕ)) (text : Option (List ℕ)) → is_unbuilt words ≡ false → request_with words text ≡ request_by (length words) (read words) text
unfolding request_with
built_asks words text e = ap (λ (b : Bool). if b then NotBuilt else request_by (length words) (read words) text) e

built_config : (words : List (List ℕ)) → is_unbuilt words ≡ false → config_of words ≡ config_by (read words)
unfolding config_of
built_config words e = ap (λ (b : Bool). if b then None else config_by (read words)) e

wrong_by : (n : ℕ) (meaning : Result Asks Wrong) (text : Option (List ℕ)) (place : ℕ) (reason : WordWhy)
    → Answers meaning (Err (faults.Bad place reason)) → request_by n meaning text ≡ Words place reason
wrong_by n (Ok a) text place reason h = absurd h
wrong_by n (Err w) text place reason h = sym (ap (λ (p : ℕ). Words p reason) h.0 ∙ ap (λ (why : WordWhy). Words (told_place w.at) why) h.1)

pub wrong_asks : (words : List (List ℕ)) (text : Option (List ℕ)) (place : ℕ) (reason : WordWhy) → is_unbuilt words ≡ false
    → Answers (read words) (Err (faults.Bad place reason)) → request_with words text ≡ Words place reason
wrong_asks words text place reason e h = built_asks words text e ∙ wrong_by (length words) (read words) text place reason h

wrong_config_by : (meaning : Result Asks Wrong) (place : ℕ) (reason : WordWhy) → Answers meaning (Err (faults.Bad place reason)) → config_by meaning ≡ None
wrong_config_by (Ok a) place reason h = absurd h
wrong_config_by (Err w) place reason h = refl

pub wrong_config : (words : List (List ℕ)) (place : ℕ) (reason : WordWhy) → is_unbuilt words ≡ false
    → Answers (read words) (Err (faults.Bad place reason)) → config_of words ≡ None
wrong_config words place reason e h = built_config words e ∙ wrong_config_by (read words) place reason h

-- ---- words that say options

said_asks_by : (n : ℕ) (meaning : Result Asks Wrong) (text : Option (List ℕ)) (o : Options) → Answers meaning (Ok o) → request_by n meaning text ≡ configured n (said_in o) text
said_asks_by n (Ok a) text o h = ap (λ (s : Said). configured n s text) (sym h)
said_asks_by n (Err w) text o h = absurd h

pub said_asks : (words : List (List ℕ)) (text : Option (List ℕ)) (n : ℕ) (o : Options) → is_unbuilt words ≡ false → n ≡ length words
    → Answers (read words) (Ok o) → request_with words text ≡ configured n (said_in o) text
said_asks words text n o e same h = built_asks words text e ∙ said_asks_by (length words) (read words) text o h ∙ ap (λ (m : ℕ). configured m (said_in o) text) (sym same)

said_config_by : (meaning : Result Asks Wrong) (o : Options) → Answers meaning (Ok o) → config_by meaning ≡ (said_in o).config
said_config_by (Ok a) o h = ap (λ (s : Said). s.config) (sym h)
said_config_by (Err w) o h = absurd h

pub said_config : (words : List (List ℕ)) (o : Options) → is_unbuilt words ≡ false → Answers (read words) (Ok o) → config_of words ≡ (said_in o).config
said_config words o e h = built_config words e ∙ said_config_by (read words) o h

-- ---- options, with a configuration and without

pub alone_asks : (n : ℕ) (a : Said) → configured n a None ≡ asked n a
unfolding configured
alone_asks n a = refl

configured_ok : (n : ℕ) (meaning : Result (List Setting) AsmFault) (old new : Said) → Configures meaning old new (Ok tt) → configured_by n old meaning ≡ asked n new
configured_ok n (Ok settings) old new h = ap (asked n) (sym h)
configured_ok n (Err (text_faults.Bad line reason)) old new h = absurd h
configured_ok n (Err text_faults.OutOfMemory) old new h = absurd h

-- a configuration that was read
pub configuration_asks : (n : ℕ) (text : List ℕ) (old new : Said) → Configures (configuration old.tool text) old new (Ok tt) → configured n old (Some text) ≡ asked n new
unfolding configured
configuration_asks n text old new h = configured_ok n (configuration old.tool text) old new h

configured_bad : (n : ℕ) (meaning : Result (List Setting) AsmFault) (old new : Said) (line : ℕ) (reason : TextWhy)
    → Configures meaning old new (Err (text_faults.Bad line reason)) → configured_by n old meaning ≡ Text line reason
configured_bad n (Ok settings) old new line reason h = absurd h
configured_bad n (Err fault) old new line reason h = ap (λ (f : AsmFault). configured_by n old (Err f)) h

-- a configuration that was refused
pub configuration_refused : (n : ℕ) (text : List ℕ) (old new : Said) (line : ℕ) (reason : TextWhy)
    → Configures (configuration old.tool text) old new (Err (text_faults.Bad line reason)) → configured n old (Some text) ≡ Text line reason
unfolding configured
configuration_refused n text old new line reason h = configured_bad n (configuration old.tool text) old new line reason h
