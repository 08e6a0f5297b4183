-- Options as they stand, with their values.
use Rattle.std.specs.Prelude.{◌≡◌, ◌<◌, ℕ, Bool, List, [], ◌∷◌, ◌++◌, length, filter, Some, None, nat_eq, nat_le}
use Rattle.sim_opts.specs.declared.table.Slot.{Slot}
use Rattle.sim_opts.specs.declared.table.Tool.{Tool}
use Rattle.sim_opts.specs.Table.{Row, row_named, most_of}
use Rattle.sim_opts.specs.Values.{value_fault}

-- an option with its values
pub record Setting : Type 0 where
  pub option : Row
  pub values : List (List ℕ)

-- the settings of one option, in their order
abbrev pub of_option : ℕ → List Setting → List Setting
of_option n settings = filter (λ s. nat_eq s.option.number n) settings

-- how often an option stands
abbrev pub count : ℕ → List Setting → ℕ
count n settings = length (of_option n settings)

abbrev pub is_given : ℕ → List Setting → Bool
is_given n settings = nat_le 1 (count n settings)

-- the words of settings
abbrev pub written : List Setting → List (List ℕ)
written [] = []
written (s ∷ later) = s.option.name ∷ (s.values ++ written later)

-- there are as many values as there have to be, and each is right
abbrev pub AreValues : List Slot → List (List ℕ) → Type 0
AreValues [] [] = Unit {0}
AreValues [] (word ∷ words) = ⊥
AreValues (slot ∷ slots) [] = ⊥
AreValues (slot ∷ slots) (word ∷ words) = (value_fault slot word ≡ None) × AreValues slots words

-- an option of the command may stand once more, and its values are right
pub record IsSetting (tool : Tool) (before : List Setting) (s : Setting) : Type 0 where
  pub known : row_named s.option.name ≡ Some s.option
  pub often : count s.option.number before < most_of tool s.option
  pub values : AreValues s.option.slots s.values

-- each of them may stand behind those before it
abbrev pub AreSettings : Tool → List Setting → List Setting → Type 0
AreSettings tool before [] = Unit {0}
AreSettings tool before (s ∷ later) = IsSetting tool before s × AreSettings tool (before ++ s ∷ []) later
