-- Laws of what comes of words, each by its command's own.
use Rattle.std.proofs.Common.{◌≡◌, ◌<◌, ℕ, zero, suc, List, [], ◌∷◌, length, Option, Some, None, Result, sym, ◌∙◌, subst, refl, ap, inr, arith}
use Rattle.std.specs.Prelude.{map, slice_index, slice_index_or, unwrap_or, Contains}
use Rattle.ss_base.specs.Outside.{Files}
use Rattle.journal.specs.declared.fault.Fault.{Fault}
use Rattle.journal.specs.declared.loading.Found.{Found}
use Rattle.journal.specs.declared.loading.Found.TheVariants as found
use Rattle.journal.specs.Write.{Report}
use Rattle.journal.specs.Load.{Input, input, AreFound}
use Rattle.journal.specs.Loading.{found_in, are_there, are_found_once}
use Rattle.journal.specs.Outcome.{Outcome}
use Rattle.journal.specs.Texts.{StartsFiles, ReportsLast, IsProper}
use Rattle.answers.specs.declared.answer.Answer.{Answer}
use Rattle.answers.specs.declared.answer.Answer.TheVariants as answer
use Rattle.answers.specs.Answer.{refused}
use Rattle.answers.specs.Report.{fault_line}
use Rattle.answers.specs.JudgingLaws.{FoundBytes, SomeOutcome}
use Rattle.answers.specs.Sound.{IsQuiet, NamesLong, names_of, with_point}
use Rattle.answers.specs.SoundLaws.{first_named, later_named}
use Rattle.object_commands.specs.OutcomeLaws.{asm_once, dis_once, asm_proper, dis_proper, asm_sound, dis_sound}
use Rattle.object_commands.specs.SomeLaws.{asm_some, dis_some}
use Rattle.run_commands.specs.OutcomeLaws.{sim_safe_proper, record_proper}
use Rattle.run_commands.specs.Program.{object_limit, named_input}
use Rattle.run_commands.specs.Outcome.{sim_safe_inputs, record_inputs, point_file}
use Rattle.sim_opts.specs.Request.{SimSafe, Record, Asm, Dis, Words, Text, NotBuilt, config_of}
use Rattle.sim_main.specs.Outcome.{Asked, Asks, LongConfig, not_built, config_limit, source_limit, config_inputs, asked_with, inputs_of, inputs_for, left_point, HasOutcome, ComesBy, OutcomeFor, behind_config, asked_in, inputs_in, OutcomeIn, HoldBytes, ExactlyOne}
use Rattle.sim_main.specs.Answer.{Tells}
use Rattle.sim_main.specs.Apart.{FilesApart}
use Rattle.sim_main.specs.RunLaws.{recording_outcome, sim_safe_once, record_once, sim_safe_sound, record_sound, sim_safe_some, record_some}

-- what a command comes to with an answer or a fault is its outcome
pub comes_has : (asked : Asked) (came : Result Answer Fault) (found : List Found) (o : Outcome Answer) → ComesBy asked came found o → HasOutcome asked found o
comes_has (Asks (SimSafe r)) came found o h = h
comes_has (Asks (Record out given files max_inst object args)) came found o h = recording_outcome out given files max_inst object args came found o h
comes_has (Asks (Asm source object)) came found o h = h
comes_has (Asks (Dis object)) came found o h = h
comes_has (Asks (Words place reason)) came found o h = h
comes_has (Asks (Text line reason)) came found o h = h
comes_has (Asks NotBuilt) came found o h = h
comes_has (LongConfig name) came found o h = h

-- of what is found there is at most one outcome
one_outcome_of : (asked : Asked) (found : List Found) (o p : Outcome Answer) → HasOutcome asked found o → HasOutcome asked found p → o ≡ p
one_outcome_of (Asks (SimSafe r)) found o p x y = sim_safe_once r found o p x y
one_outcome_of (Asks (Record out given files max_inst object args)) found o p x y = record_once out given files max_inst object args found o p x y
one_outcome_of (Asks (Asm source object)) found o p x y = asm_once source object found o p x y
one_outcome_of (Asks (Dis object)) found o p x y = dis_once object found o p x y
one_outcome_of (Asks (Words place reason)) found o p x y = x ∙ sym y
one_outcome_of (Asks (Text line reason)) found o p x y = x ∙ sym y
one_outcome_of (Asks NotBuilt) found o p x y = x ∙ sym y
one_outcome_of (LongConfig name) found o p x y = x ∙ sym y

pub one_outcome : (words : List (List ℕ)) (asked : Asked) (found : List Found) (o p : Outcome Answer) → OutcomeFor words asked found o → OutcomeFor words asked found p → o ≡ p
one_outcome words asked found o p x y = one_outcome_of asked (behind_config (config_of words) found) o p x y

-- ---- what is written

refused_proper : (a : Answer) (o : Outcome Answer) → o ≡ refused a → IsProper o.writes
refused_proper a o h = subst (λ (x : Outcome Answer). IsProper x.writes) (sym h) (record { starts = (tt, tt); last = tt })

none_proper : (o : Outcome Answer) → o ≡ not_built → IsProper o.writes
none_proper o h = subst (λ (x : Outcome Answer). IsProper x.writes) (sym h) (record { starts = tt; last = tt })

is_proper : (asked : Asked) (found : List Found) (o : Outcome Answer) → FilesApart asked → HasOutcome asked found o → IsProper o.writes
is_proper (Asks (SimSafe r)) found o apart h = sim_safe_proper r found o apart h
is_proper (Asks (Record out given files max_inst object args)) found o apart h = record_proper out given files max_inst object args found o h
is_proper (Asks (Asm source object)) found o apart h = asm_proper source object found o h
is_proper (Asks (Dis object)) found o apart h = dis_proper object found o h
is_proper (Asks (Words place reason)) found o apart h = refused_proper (answer.Words place reason) o h
is_proper (Asks (Text line reason)) found o apart h = refused_proper (answer.Text line reason) o h
is_proper (Asks NotBuilt) found o apart h = none_proper o h
is_proper (LongConfig name) found o apart h = refused_proper (answer.TooLong name) o h

pub starts_files_of : (asked : Asked) (found : List Found) (o : Outcome Answer) → FilesApart asked → HasOutcome asked found o → StartsFiles o.writes
starts_files_of asked found o apart h = (is_proper asked found o apart h).starts

pub starts_files : (words : List (List ℕ)) (asked : Asked) → FilesApart asked → (found : List Found) (o : Outcome Answer) → OutcomeFor words asked found o → StartsFiles o.writes
starts_files words asked apart found o h = (is_proper asked (behind_config (config_of words) found) o apart h).starts

pub reports_last : (words : List (List ℕ)) (asked : Asked) → FilesApart asked → (found : List Found) (o : Outcome Answer) → OutcomeFor words asked found o → ReportsLast o.writes
reports_last words asked apart found o h = (is_proper asked (behind_config (config_of words) found) o apart h).last

-- ---- what is answered

-- what was written by a refusal is no output
refused_quiet : (a : Answer) (o : Outcome Answer) → o ≡ refused a → IsQuiet None a (Report (fault_line a) ∷ []) → IsQuiet None o.ending o.writes
refused_quiet a o h q = subst (λ (x : Outcome Answer). IsQuiet None x.ending x.writes) (sym h) q

is_quiet : (asked : Asked) (found : List Found) (o : Outcome Answer) → HasOutcome asked found o → IsQuiet (left_point asked) o.ending o.writes
is_quiet (Asks (SimSafe r)) found o h = (sim_safe_sound r found o h).quiet
is_quiet (Asks (Record out given files max_inst object args)) found o h = (record_sound out given files max_inst object args found o h).quiet
is_quiet (Asks (Asm source object)) found o h = (asm_sound source object source_limit found o h).quiet
is_quiet (Asks (Dis object)) found o h = (dis_sound object object_limit found o h).quiet
is_quiet (Asks (Words place reason)) found o h = refused_quiet (answer.Words place reason) o h (λ e. cc, tt)
is_quiet (Asks (Text line reason)) found o h = refused_quiet (answer.Text line reason) o h (λ e. cc, tt)
is_quiet (Asks NotBuilt) found o h = subst (λ (x : Outcome Answer). IsQuiet None x.ending x.writes) (sym h) refl
is_quiet (LongConfig name) found o h = refused_quiet (answer.TooLong name) o h (inr (λ e. cc, tt))

-- the writes behind an answer
pub quiet_with : (words : List (List ℕ)) (asked : Asked) (a : Answer) (found : List Found) (o : Outcome Answer) → OutcomeFor words asked found o → a ≡ o.ending → IsQuiet (left_point asked) a o.writes
quiet_with words asked a found o h e = subst (λ (x : Answer). IsQuiet (left_point asked) x o.writes) (sym e) (is_quiet asked (behind_config (config_of words) found) o h)

-- an answer goes by what is asked
tells_of : (asked : Asked) (found : List Found) (o : Outcome Answer) → HasOutcome asked found o → Tells asked o.ending
tells_of (Asks (SimSafe r)) found o h = (sim_safe_sound r found o h).built
tells_of (Asks (Record out given files max_inst object args)) found o h = (record_sound out given files max_inst object args found o h).built
tells_of (Asks (Asm source object)) found o h = (asm_sound source object source_limit found o h).built
tells_of (Asks (Dis object)) found o h = (dis_sound object object_limit found o h).built
tells_of (Asks (Words place reason)) found o h = ap (λ (x : Outcome Answer). x.ending) h
tells_of (Asks (Text line reason)) found o h = ap (λ (x : Outcome Answer). x.ending) h
tells_of (Asks NotBuilt) found o h = ap (λ (x : Outcome Answer). x.ending) h
tells_of (LongConfig name) found o h = ap (λ (x : Outcome Answer). x.ending) h

pub tells_with : (words : List (List ℕ)) (asked : Asked) (a : Answer) (found : List Found) (o : Outcome Answer) → OutcomeFor words asked found o → a ≡ o.ending → Tells asked a
tells_with words asked a found o h e = subst (λ (x : Answer). Tells asked x) (sym e) (tells_of asked (behind_config (config_of words) found) o h)

-- ---- names of files that are too long

-- a configuration that is too long is the one that is named
abbrev pub IsNamed : Option (List ℕ) → Asked → Type 0
IsNamed config (Asks request) = Unit {0}
IsNamed config (LongConfig name) = config ≡ Some name

long_named : (config : Option (List ℕ)) (Told : Type 0) (files : Files) (fs : List Found) → AreFound Told files (named_input config_limit config []) (found.TooLong ∷ fs) → config ≡ Some (unwrap_or config [])
long_named None Told files fs are = absurd are
long_named (Some name) Told files fs are = refl

pub asked_named : (words : List (List ℕ)) (Told : Type 0) (files : Files) (config : List Found) → AreFound Told files (config_inputs words) config → IsNamed (config_of words) (asked_with words config)
asked_named words Told files [] are = tt
asked_named words Told files (found.Whole text ∷ fs) are = tt
asked_named words Told files (found.TooLong ∷ fs) are = long_named (config_of words) Told files fs are

-- a name among names is among more, also where the others stand behind a first one
inserted_at : (file first name : List ℕ) (names : List (List ℕ)) (k : ℕ) → k < length (file ∷ names) → slice_index_or (file ∷ names) k name ≡ name → Contains (file ∷ first ∷ names) name
inserted_at file first name names zero b e = (0, omega arith, e)
inserted_at file first name names (suc k) b e = (suc (suc k), omega (arith, b), e)

named_behind : (point : Option (List ℕ)) (first name : List ℕ) (names : List (List ℕ)) → Contains (with_point point names) name → Contains (with_point point (first ∷ names)) name
named_behind None first name names c = later_named first name names c
named_behind (Some file) first name names c = inserted_at file first name names c.0 c.1 c.2

names_later : (point : Option (List ℕ)) (first : List ℕ) (names : List (List ℕ)) (a : Answer) → NamesLong (with_point point names) a → NamesLong (with_point point (first ∷ names)) a
names_later point first names (answer.TooLong name) c = named_behind point first name names c
names_later point first names (answer.Words at why) c = tt
names_later point first names answer.Made c = tt
names_later point first names (answer.Object at why) c = tt
names_later point first names (answer.Point at why) c = tt
names_later point first names (answer.Trace at why) c = tt
names_later point first names (answer.Text line why) c = tt
names_later point first names (answer.NotBuilt what) c = tt
names_later point first names (answer.Exited code) c = tt
names_later point first names (answer.Stopped why pc icnt) c = tt
names_later point first names answer.Budget c = tt

names_behind : (config point : Option (List ℕ)) (is : List Input) (a : Answer) → NamesLong (with_point point (names_of is)) a → NamesLong (with_point point (names_of (named_input config_limit config is))) a
names_behind None point is a c = c
names_behind (Some name) point is a c = names_later point name (names_of is) a c

names_told : (names : List (List ℕ)) (a : Answer) (o : Outcome Answer) → o ≡ refused a → NamesLong names a → NamesLong names o.ending
names_told names a o h c = subst (λ (x : Outcome Answer). NamesLong names x.ending) (sym h) c

names_long : (config : Option (List ℕ)) (name : List ℕ) (o : Outcome Answer) → config ≡ Some name → o ≡ refused (answer.TooLong name) → NamesLong (names_of (named_input config_limit config [])) o.ending
names_long config name o e h =
    subst (λ (c : Option (List ℕ)). NamesLong (names_of (named_input config_limit c [])) o.ending) (sym e)
    (names_told (name ∷ []) (answer.TooLong name) o h (first_named name []))

-- the names that an answer to what is asked may tell
abbrev pub NamesOf : Option (List ℕ) → Asked → Answer → Type 0
NamesOf config asked a = NamesLong (with_point (left_point asked) (names_of (named_input config_limit config (inputs_of asked)))) a

names_of_asked : (config : Option (List ℕ)) (asked : Asked) (found : List Found) (o : Outcome Answer) → IsNamed config asked → HasOutcome asked found o → NamesOf config asked o.ending
names_of_asked config (Asks (SimSafe r)) found o n h = names_behind config (point_file r.point) (sim_safe_inputs r) o.ending (sim_safe_sound r found o h).names
names_of_asked config (Asks (Record out given files max_inst object args)) found o n h = names_behind config None (record_inputs given files object) o.ending (record_sound out given files max_inst object args found o h).names
names_of_asked config (Asks (Asm source object)) found o n h = names_behind config None (input source source_limit ∷ []) o.ending (asm_sound source object source_limit found o h).names
names_of_asked config (Asks (Dis object)) found o n h = names_behind config None (input object object_limit ∷ []) o.ending (dis_sound object object_limit found o h).names
names_of_asked config (Asks (Words place reason)) found o n h = names_behind config None [] o.ending (names_told [] (answer.Words place reason) o h tt)
names_of_asked config (Asks (Text line reason)) found o n h = names_behind config None [] o.ending (names_told [] (answer.Text line reason) o h tt)
names_of_asked config (Asks NotBuilt) found o n h = names_behind config None [] o.ending (subst (λ (x : Outcome Answer). NamesLong [] x.ending) (sym h) tt)
names_of_asked config (LongConfig name) found o n h = names_long config name o n h

pub names_with : (words : List (List ℕ)) (asked : Asked) (a : Answer) (found : List Found) (o : Outcome Answer) → IsNamed (config_of words) asked → OutcomeFor words asked found o → a ≡ o.ending → NamesOf (config_of words) asked a
names_with words asked a found o n h e = subst (λ (x : Answer). NamesOf (config_of words) asked x) (sym e) (names_of_asked (config_of words) asked (behind_config (config_of words) found) o n h)

-- ---- whatever files are held, there is an outcome

some_outcome : (asked : Asked) (files : Files) (found : List Found) → AreFound (Unit {0}) files (inputs_of asked) found → FoundBytes found → SomeOutcome (HasOutcome asked found)
some_outcome (Asks (SimSafe r)) files found are bytes = sim_safe_some r (Unit {0}) files found are bytes
some_outcome (Asks (Record out given opens max_inst object args)) files found are bytes = record_some out given opens max_inst object args (Unit {0}) files found are bytes
some_outcome (Asks (Asm source object)) files found are bytes = asm_some source object (input source source_limit) (Unit {0}) files found are bytes
some_outcome (Asks (Dis object)) files found are bytes = dis_some object (input object object_limit) (Unit {0}) files found are bytes
some_outcome (Asks (Words place reason)) files found are bytes = (refused (answer.Words place reason), refl)
some_outcome (Asks (Text line reason)) files found are bytes = (refused (answer.Text line reason), refl)
some_outcome (Asks NotBuilt) files found are bytes = (not_built, refl)
some_outcome (LongConfig name) files found are bytes = (refused (answer.TooLong name), refl)

-- what is found in files of bytes are bytes
found_bytes : (files : Files) (is : List Input) (found : List Found) → HoldBytes files → AreFound (Unit {0}) files is found → FoundBytes found
found_bytes files [] [] held are = tt
found_bytes files [] (f ∷ fs) held are = absurd are
found_bytes files (i ∷ is) [] held are = absurd are
found_bytes files (i ∷ is) (found.Whole bytes ∷ fs) held are = (λ k. subst (λ (x : List ℕ). slice_index x k < 256) (sym (are.0.1 tt)) (held i.name k), found_bytes files is fs held are.1)
found_bytes files (i ∷ is) (found.TooLong ∷ fs) held are = found_bytes files is fs held are.1

-- what held files have behind the configuration
behind_found : (config : Option (List ℕ)) (files : Files) (is : List Input) → behind_config config (map (found_in files) (named_input config_limit config is)) ≡ map (found_in files) is
behind_found None files is = refl
behind_found (Some name) files is = refl

some_in : (words : List (List ℕ)) (asked : Asked) (files : Files) → HoldBytes files → SomeOutcome (OutcomeFor words asked (map (found_in files) (inputs_for words asked)))
some_in words asked files held =
    let is = inputs_of asked in
    let are = are_there (Unit {0}) files is in
    subst (λ (fs : List Found). SomeOutcome (HasOutcome asked fs)) (sym (behind_found (config_of words) files is))
    (some_outcome asked files (map (found_in files) is) are (found_bytes files is (map (found_in files) is) held are))

pub exactly_one : (words : List (List ℕ)) (files : Files) → HoldBytes files → ExactlyOne words files
exactly_one words files held =
    let is = inputs_in words files in
    let fs = map (found_in files) is in
    let are = are_there (Unit {0}) files is in
    let some = some_in words (asked_in words files) files held in
    record {
      found = fs;
      are = are;
      outcome = some.0;
      has = some.1;
      only = λ gs o others has. one_outcome words (asked_in words files) gs o some.0 has (subst (λ (x : List Found). OutcomeIn words files x some.0) (are_found_once files is fs gs are others) some.1);
    }
