-- Files and streams in memory, of which chosen calls fail.
use Rattle.std.specs.Prelude.{◌+◌, ◌-◌, ◌^◌, ◌≤◌, ℕ, List, Contains, Vec, String, min}
use Rattle.std.specs.Option.{option_map}
use Rattle.std.specs.BTreeMap.{BTreeMap, get_by_text}
use Rattle.ss_base.specs.Outside.{Files}

-- the files of a map from names to bytes
abbrev pub files_of : {A B : Type 0} → BTreeMap (String A) (Vec ℕ B) → Files
files_of files name = option_map (λ file. file.items) (get_by_text files name)

-- no call from this number on is listed to fail
pub record NoneListed (listed : List ℕ) (next : ℕ) : Type 0 where
  pub none : (n : ℕ) → next ≤ n → Contains listed n → ⊥

-- the number of the call after this one; a count stands still at its last value
abbrev pub number_after : ℕ → ℕ
number_after n = min (n + 1) (2 ^ 64 - 1)
