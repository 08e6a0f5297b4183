-- From what a configuration and its readers come to, to what words come to.
use Rattle.std.proofs.Common.{◌≡◌, ℕ, true, false, List, [], ◌∷◌, Option, Some, None, Result, Ok, Err, refl, sym, ap, subst}
use Rattle.std.specs.Prelude.{map}
use Rattle.ss_base.specs.declared.text_fault.TextWhy.{TextWhy}
use Rattle.ss_base.specs.declared.text_fault.AsmFault.{AsmFault}
use Rattle.ss_base.specs.declared.text_fault.AsmFault.TheVariants as text_faults
use Rattle.journal.specs.declared.fault.Fault.{Fault}
use Rattle.journal.specs.declared.fault.Fault.TheVariants as fault
use Rattle.journal.specs.declared.loading.Found.{Found}
use Rattle.journal.specs.declared.loading.Found.TheVariants as found
use Rattle.journal.specs.View.{View, Wrote}
use Rattle.journal.specs.Laws.{wrote_none}
use Rattle.journal.specs.Load.{input, Finds}
use Rattle.journal.specs.Loading.{found_in, are_there, comes_after, comes_now, comes_too_long, comes_unloaded, comes_wanting}
use Rattle.journal.specs.Outcome.{Ends, Comes}
use Rattle.answers.specs.declared.answer.Answer.{Answer}
use Rattle.answers.specs.declared.answer.Answer.TheVariants as answer
use Rattle.answers.specs.Answer.{refused}
use Rattle.answers.specs.Judging.{word_refusal, text_refusal, Refuses}
use Rattle.sim_opts.specs.declared.words.WordWhy.{WordWhy}
use Rattle.sim_opts.specs.declared.asked.WordFault.{WordFault}
use Rattle.sim_opts.specs.declared.asked.WordFault.TheVariants as word_faults
use Rattle.sim_opts.specs.Words.{read, is_unbuilt}
use Rattle.sim_opts.specs.Options.{Said, Answers}
use Rattle.sim_opts.specs.Configuration.{configuration, Configures}
use Rattle.sim_opts.specs.Request.{Request, Words, Text, NotBuilt, configured, request_with, config_of}
use Rattle.sim_opts.specs.RequestLaws.{unbuilt_asks, unbuilt_config, wrong_asks, wrong_config, configuration_refused}
use Rattle.sim_main.specs.Outcome.{Asked, Asks, not_built, config_limit, config_inputs, asked_by, asked_with, inputs_of, inputs_for, ComesBy, ComesFor, behind_config}
use Rattle.sim_main.specs.Answer.{ComesByWords}
use Rattle.sim_main.specs.Parts.{ComesByRequest, ComesOver}

-- ---- requests of which nothing is done

pub unbuilt_comes : {O : Type 0} (v : View O) (a : O) (x : Answer) → x ≡ not_built.ending → ComesByRequest v a NotBuilt a (Ok x)
unbuilt_comes v a x e = comes_now v a [] a (λ _ o. o ≡ not_built) not_built (Ok x) (λ _. refl) (e, wrote_none v a)

pub wrong_comes : {O : Type 0} (v : View O) (a b : O) (place : ℕ) (reason : WordWhy) (came : Result Answer Fault) → Ends v a (refused (answer.Words place reason)) b came → ComesByRequest v a (Words place reason) b came
wrong_comes v a b place reason came p = comes_now v a [] b (λ _ o. o ≡ refused (answer.Words place reason)) (refused (answer.Words place reason)) came (λ _. refl) p

bad_comes : {O : Type 0} (v : View O) (a b : O) (line : ℕ) (reason : TextWhy) (came : Result Answer Fault) → Ends v a (refused (answer.Text line reason)) b came → ComesByRequest v a (Text line reason) b came
bad_comes v a b line reason came p = comes_now v a [] b (λ _ o. o ≡ refused (answer.Text line reason)) (refused (answer.Text line reason)) came (λ _. refl) p

pub wanting_comes : {O : Type 0} (v : View O) (a b : O) (request : Request) (came : Result Answer Fault) → came ≡ Err fault.OutOfMemory → Wrote v a [] b → ComesByRequest v a request b came
wanting_comes v a b request came e w = comes_wanting v a (inputs_of (Asks request)) b (ComesBy (Asks request) came) came e w

-- a configuration that is refused
pub refused_text : {O : Type 0} (v : View O) (a b : O) (n : ℕ) (text : List ℕ) (old new : Said) (f : AsmFault) (came : Result Answer Fault)
    → Configures (configuration old.tool text) old new (Err f) → Refuses v a (text_refusal f) b came → ComesByRequest v a (configured n old (Some text)) b came
refused_text v a b n text old new (text_faults.Bad line reason) came h r =
    subst (λ (x : Request). ComesByRequest v a x b came) (sym (configuration_refused n text old new line reason h)) (bad_comes v a b line reason came r)
refused_text v a b n text old new text_faults.OutOfMemory came h r = wanting_comes v a b (configured n old (Some text)) came r.0 r.1

-- ---- the load of a configuration

-- none is named
pub alone_over : {O : Type 0} (v : View O) (a b : O) (name : Option (List ℕ)) (request_of : Option (List ℕ) → Request) (came : Result Answer Fault) → name ≡ None
    → ComesByRequest v a (request_of None) b came → ComesOver v a name request_of b came
alone_over v a b name request_of came e p = subst (λ (n : Option (List ℕ)). ComesOver v a n request_of b came) (sym e) (record { config = []; are = tt; comes = p })

-- it was found whole
pub found_over : {O : Type 0} (v : View O) (a b c : O) (name : Option (List ℕ)) (file text : List ℕ) (request_of : Option (List ℕ) → Request) (came : Result Answer Fault) → name ≡ Some file
    → Finds v a (input file config_limit) b (Ok (found.Whole text)) → ComesByRequest v b (request_of (Some text)) c came → ComesOver v a name request_of c came
found_over v a b c name file text request_of came e f p =
    subst (λ (n : Option (List ℕ)). ComesOver v a n request_of c came) (sym e)
    (record {
      config = found.Whole text ∷ [];
      are = (f.1, tt);
      comes = comes_after v a b c (input file config_limit) (inputs_of (Asks (request_of (Some text)))) text (λ fs o. ComesBy (Asks (request_of (Some text))) came (behind_config (Some file) fs) o) came f p;
    })

-- it is too long
pub long_over : {O : Type 0} (v : View O) (a b c : O) (name : Option (List ℕ)) (file : List ℕ) (request_of : Option (List ℕ) → Request) (came : Result Answer Fault) → name ≡ Some file
    → Finds v a (input file config_limit) b (Ok found.TooLong) → Ends v b (refused (answer.TooLong file)) c came → ComesOver v a name request_of c came
long_over v a b c name file request_of came e f p =
    subst (λ (n : Option (List ℕ)). ComesOver v a n request_of c came) (sym e)
    (record {
      config = found.TooLong ∷ [];
      are = (f.1, tt);
      comes = comes_too_long v a b c (input file config_limit) [] (λ _ o. o ≡ refused (answer.TooLong file)) (refused (answer.TooLong file)) came f (λ _. refl) p;
    })

-- it could not be loaded
pub unfound_over : {O : Type 0} (v : View O) (a b : O) (name : Option (List ℕ)) (file : List ℕ) (request_of : Option (List ℕ) → Request) (x : Fault) → name ≡ Some file
    → Finds v a (input file config_limit) b (Err x) → ComesOver v a name request_of b (Err x)
unfound_over v a b name file request_of x e f =
    let config = map (found_in (v.files a)) (input file config_limit ∷ []) in
    let asked = asked_by (Some file) request_of config in
    subst (λ (n : Option (List ℕ)). ComesOver v a n request_of b (Err x)) (sym e)
    (record {
      config = config;
      are = are_there (v.tells a) (v.files a) (input file config_limit ∷ []);
      comes = comes_unloaded v a b (input file config_limit) (inputs_of asked) (λ fs o. ComesBy asked (Err x) (behind_config (Some file) fs) o) x f;
    })

-- ---- words

same_asked : (name : Option (List ℕ)) (first second : Option (List ℕ) → Request) (config : List Found) → ((text : Option (List ℕ)) → first text ≡ second text) → asked_by name first config ≡ asked_by name second config
same_asked name first second [] h = ap (λ (r : Request). Asks r) (h None)
same_asked name first second (found.Whole text ∷ fs) h = ap (λ (r : Request). Asks r) (h (Some text))
same_asked name first second (found.TooLong ∷ fs) h = refl

-- words come to what is asked for with the configuration that they name
pub words_over : {O : Type 0} (v : View O) (a b : O) (words : List (List ℕ)) (name : Option (List ℕ)) (request_of : Option (List ℕ) → Request) (came : Result Answer Fault)
    → config_of words ≡ name → ((text : Option (List ℕ)) → request_with words text ≡ request_of text) → ComesOver v a name request_of b came → ComesByWords v a words b came
words_over v a b words name request_of came e h p =
    let q : ComesOver v a (config_of words) request_of b came = subst (λ (n : Option (List ℕ)). ComesOver v a n request_of b came) (sym e) p in
    record {
      config = q.config;
      are = q.are;
      comes = subst (λ (asked : Asked). Comes v a (inputs_for words asked) (ComesFor words asked came) b came) (sym (same_asked (config_of words) (request_with words) request_of q.config h)) q.comes;
    }

-- so they do where memory is wanted
pub wanting_words : {O : Type 0} (v : View O) (a b : O) (words : List (List ℕ)) (came : Result Answer Fault) → came ≡ Err fault.OutOfMemory → Wrote v a [] b → ComesByWords v a words b came
wanting_words v a b words came e w =
    let config = map (found_in (v.files a)) (config_inputs words) in
    let asked = asked_with words config in
    record {
      config = config;
      are = are_there (v.tells a) (v.files a) (config_inputs words);
      comes = comes_wanting v a (inputs_for words asked) b (ComesFor words asked came) came e w;
    }

-- where they name a command that isn't built
pub unbuilt_words : {O : Type 0} (v : View O) (a : O) (words : List (List ℕ)) (x : Answer) → is_unbuilt words ≡ true → x ≡ not_built.ending → ComesByWords v a words a (Ok x)
unbuilt_words v a words x e h =
    words_over v a a words None (λ _. NotBuilt) (Ok x) (unbuilt_config words e) (λ text. unbuilt_asks words text e) (alone_over v a a None (λ _. NotBuilt) (Ok x) refl (unbuilt_comes v a x h))

-- and where they are refused
pub refused_words : {O : Type 0} (v : View O) (a b : O) (words : List (List ℕ)) (f : WordFault) (came : Result Answer Fault) → is_unbuilt words ≡ false
    → Answers (read words) (Err f) → Refuses v a (word_refusal f) b came → ComesByWords v a words b came
refused_words v a b words (word_faults.Bad place reason) came e h r =
    words_over v a b words None (λ _. Words place reason) came (wrong_config words place reason e h) (λ text. wrong_asks words text place reason e h)
    (alone_over v a b None (λ _. Words place reason) came refl (wrong_comes v a b place reason came r))
refused_words v a b words word_faults.OutOfMemory came e h r = wanting_words v a b words came r.0 r.1
