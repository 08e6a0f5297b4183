-- What the code keeps of a configuration's lines.
use Rattle.std.specs.Prelude.{◌≡◌, ℕ, List, [], ◌∷◌, ◌++◌, map, find, filter, length, nat_eq, Some, None, Result, Ok, Err}
use Rattle.sim_opts.specs.declared.table.Tool.{Tool}
use Rattle.sim_opts.specs.declared.configuration.OnLine.{OnLine}
use Rattle.sim_opts.specs.declared.configuration.OnLine.TheVariants as on
use Rattle.sim_opts.specs.declared.configuration.LineStop.{LineStop}
use Rattle.sim_opts.specs.declared.configuration.LineStop.TheVariants as stops
use Rattle.ss_base.specs.declared.text_fault.AsmFault.{AsmFault}
use Rattle.ss_base.specs.declared.text_fault.AsmFault.TheVariants as faults
use Rattle.sim_opts.specs.Settings.{Setting}
use Rattle.sim_opts.specs.Kept.{setting_in}
use Rattle.sim_opts.specs.Options.{Said}
use Rattle.sim_opts.specs.Configuration.{reasons, words_have, words_settings, line_fault, line_settings, with_configuration}

-- the numbers of options
abbrev pub numbers : List Setting → List ℕ
numbers settings = map (λ s. s.option.number) settings

-- how often a number stands
abbrev pub times : ℕ → List ℕ → ℕ
times n stood = length (filter (λ m. nat_eq m n) stood)

-- what stands on a line
abbrev pub IsOn : Tool → List Setting → List (List ℕ) → OnLine → Type 0
IsOn tool before words on.Nothing = (find (words_have tool before words) reasons ≡ None) × (words_settings words ≡ [])
IsOn tool before words (on.Sets s) = (find (words_have tool before words) reasons ≡ None) × (words_settings words ≡ setting_in s ∷ [])
IsOn tool before words (on.Wrong reason) = find (words_have tool before words) reasons ≡ Some reason

-- what a line makes of what is said, and of the numbers that stood before, unless memory ran out
abbrev pub TakesLine : List Setting → List ℕ → Said → Said → List ℕ → Result (Unit {0}) LineStop → Type 0
TakesLine before line old new stood (Ok done) = (line_fault old.tool before line ≡ None) × (new ≡ with_configuration old (line_settings line)) × (stood ≡ numbers before ++ numbers (line_settings line))
TakesLine before line old new stood (Err stops.NoMemory) = Unit {0}
TakesLine before line old new stood (Err (stops.Wrong reason)) = line_fault old.tool before line ≡ Some reason

-- the fault of a line
abbrev pub fault_at : ℕ → LineStop → AsmFault
fault_at n stops.NoMemory = faults.OutOfMemory
fault_at n (stops.Wrong reason) = faults.Bad n reason
