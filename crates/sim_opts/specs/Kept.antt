-- What the values that the code keeps stand for.
use Rattle.std.specs.Prelude.{◌≡◌, ◌≤◌, ◌+◌, ℕ, length, map, Result, Ok, Err, string_bytes}
use Rattle.sim_opts.specs.declared.words.Setting.{Setting as KeptSetting}
use Rattle.sim_opts.specs.declared.words.Walked.{Walked as KeptWalked}
use Rattle.sim_opts.specs.declared.words.Reading.{Reading}
use Rattle.sim_opts.specs.declared.words.Stop.{Stop}
use Rattle.sim_opts.specs.declared.words.Stop.TheVariants as stops
use Rattle.sim_opts.specs.declared.words.Wrong.{Wrong}
use Rattle.sim_opts.specs.Table.{row_in}
use Rattle.sim_opts.specs.Settings.{Setting}
use Rattle.sim_opts.specs.Words.{further, Walked, walked, Asks, asks}

abbrev pub setting_in : KeptSetting → Setting
setting_in s = record { option = row_in s.option; values = map string_bytes s.values.now }

abbrev pub judged_in : Result KeptSetting Wrong → Result Setting Wrong
judged_in (Ok s) = Ok (setting_in s)
judged_in (Err w) = Err w

-- the same answer, its place counted from so many words before
abbrev pub placed : {A : Type 0} → ℕ → Result A Wrong → Result A Wrong
placed places (Ok s) = Ok s
placed places (Err w) = Err (further places w)

-- a setting's values are among these words, and a wrong place is among them or right behind
abbrev pub IsAmong : ℕ → Result KeptSetting Wrong → Type 0
IsAmong words (Ok s) = length s.values.now ≤ words
IsAmong words (Err w) = Unit {0}

abbrev pub walked_in : KeptWalked → Walked
walked_in k = walked (map setting_in k.settings.items) k.at (map string_bytes k.rest.now)

-- options that were walked over, unless memory ran out
abbrev pub Walks : Result KeptWalked Stop → Result Walked Wrong → Type 0
Walks (Ok k) answer = answer ≡ Ok (walked_in k)
Walks (Err stops.NoMemory) answer = Unit {0}
Walks (Err (stops.Wrong w)) answer = answer ≡ Err w

abbrev pub IsWithin : ℕ → Result KeptWalked Stop → Type 0
IsWithin words (Ok k) = k.at + length k.rest.now ≡ words
IsWithin words (Err stop) = Unit {0}

abbrev pub asks_in : Reading → Asks
asks_in r = asks r.tool (map setting_in r.settings.items) (map string_bytes r.operands.now)

-- what words ask for, unless memory ran out
abbrev pub Reads : Result Reading Stop → Result Asks Wrong → Type 0
Reads (Ok r) answer = answer ≡ Ok (asks_in r)
Reads (Err stops.NoMemory) answer = Unit {0}
Reads (Err (stops.Wrong w)) answer = answer ≡ Err w
