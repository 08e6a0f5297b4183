-- The files that a run writes have different names, since words that ask for one name twice clash.
use Rattle.std.specs.Prelude.{◌≡◌, ℕ, Bool, true, false, List, [], ◌∷◌, length, map, Option, Some, None, Result, Ok, Err, if◌then◌else◌}
use Rattle.std.proofs.Common.{refl}
use Rattle.ss_base.specs.Outside.{Files}
use Rattle.ss_base.specs.declared.text_fault.AsmFault.{AsmFault}
use Rattle.ss_base.specs.declared.text_fault.AsmFault.TheVariants as faults
use Rattle.journal.specs.declared.loading.Found.{Found}
use Rattle.journal.specs.declared.loading.Found.TheVariants as found
use Rattle.journal.specs.Loading.{found_in}
use Rattle.sim_opts.specs.declared.table.Tool.{Tool}
use Rattle.sim_opts.specs.declared.table.Tool.TheVariants as tools
use Rattle.sim_opts.specs.declared.words.WordWhy.TheVariants as why
use Rattle.sim_opts.specs.Settings.{Setting}
use Rattle.sim_opts.specs.Words.{Asks as Said_words, read, is_unbuilt}
use Rattle.sim_opts.specs.Options.{Said, said_by, same_file, clash}
use Rattle.sim_opts.specs.Configuration.{configuration, with_configuration}
use Rattle.sim_opts.specs.Request.{Request, SimSafe, Record, Asm, Dis, Words, Text, NotBuilt, told_place, command_of, asked, configured_by, configured, request_by, request_with, config_of}
use Rattle.run_commands.specs.Outcome.{AreApart}
use Rattle.sim_main.specs.Outcome.{Asked, Asks, LongConfig, config_inputs, asked_by, asked_with, asked_in}

abbrev pub FilesApart : Asked → Type 0
FilesApart (Asks (SimSafe r)) = AreApart r.commits r.point
FilesApart (Asks (Record out given files max_inst object args)) = Unit {0}
FilesApart (Asks (Asm source object)) = Unit {0}
FilesApart (Asks (Dis object)) = Unit {0}
FilesApart (Asks (Words place reason)) = Unit {0}
FilesApart (Asks (Text line reason)) = Unit {0}
FilesApart (Asks NotBuilt) = Unit {0}
FilesApart (LongConfig name) = Unit {0}

names_apart : (commits : Option (List ℕ)) (point : Option (List ℕ × ℕ)) → same_file commits point ≡ false → AreApart commits point
names_apart None point e = tt
names_apart (Some commits) None e = tt
names_apart (Some commits) (Some point) e = e

command_apart : (t : Tool) (a : Said) → clash a ≡ false → FilesApart (Asks (command_of t a))
command_apart tools.SimSafe a e = names_apart a.commits a.chkpt e
command_apart tools.Record a e = tt
command_apart tools.Asm a e = tt
command_apart tools.Dis a e = tt

apart_unless : (b : Bool) (n : ℕ) (a : Said) → clash a ≡ b → FilesApart (Asks (if b then Words (told_place n) why.Clash else command_of a.tool a))
apart_unless true n a e = tt
apart_unless false n a e = command_apart a.tool a e

said_apart : (n : ℕ) (a : Said) → FilesApart (Asks (asked n a))
unfolding asked
said_apart n a = apart_unless (clash a) n a refl

settings_apart : (n : ℕ) (a : Said) (meaning : Result (List Setting) AsmFault) → FilesApart (Asks (configured_by n a meaning))
settings_apart n a (Ok settings) = said_apart n (with_configuration a settings)
settings_apart n a (Err (faults.Bad line reason)) = tt
settings_apart n a (Err faults.OutOfMemory) = tt

configured_apart : (n : ℕ) (a : Said) (text : Option (List ℕ)) → FilesApart (Asks (configured n a text))
unfolding configured
configured_apart n a None = said_apart n a
configured_apart n a (Some text) = settings_apart n a (configuration a.tool text)

read_apart : (n : ℕ) (meaning : Result Said_words _) (text : Option (List ℕ)) → FilesApart (Asks (request_by n meaning text))
read_apart n (Ok a) text = configured_apart n (said_by a) text
read_apart n (Err w) text = tt

built_apart : (b : Bool) (words : List (List ℕ)) (text : Option (List ℕ)) → FilesApart (Asks (if b then NotBuilt else request_by (length words) (read words) text))
built_apart true words text = tt
built_apart false words text = read_apart (length words) (read words) text

request_apart : (words : List (List ℕ)) (text : Option (List ℕ)) → FilesApart (Asks (request_with words text))
unfolding request_with
request_apart words text = built_apart (is_unbuilt words) words text

apart_by : (name : Option (List ℕ)) (request_of : Option (List ℕ) → Request) (config : List Found) → ((text : Option (List ℕ)) → FilesApart (Asks (request_of text))) → FilesApart (asked_by name request_of config)
apart_by name request_of [] h = h None
apart_by name request_of (found.Whole text ∷ others) h = h (Some text)
apart_by name request_of (found.TooLong ∷ others) h = tt

pub apart_with : (words : List (List ℕ)) (config : List Found) → FilesApart (asked_with words config)
apart_with words config = apart_by (config_of words) (request_with words) config (request_apart words)

pub apart_in : (words : List (List ℕ)) (files : Files) → FilesApart (asked_in words files)
apart_in words files = apart_with words (map (found_in files) (config_inputs words))
