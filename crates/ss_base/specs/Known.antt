-- What a write of all bytes does to the bytes that a writer is known to hold, and what a read of all
-- bytes leaves of those that a reader is known to give.
use Rattle.std.specs.Prelude.{◌≡◌, ◌+◌, ◌<◌, ◌++◌, List, ℕ, Option, Some, None, Bool, true, false, Result, length}
use Rattle.ss_base.specs.declared.fault.LoadFault.{LoadFault}
use Rattle.ss_base.specs.Outside.{BeginsWith, Loads}

-- known bytes grow by all of these where the call succeeded, and by a front of them, which lacks at
-- least one, where it failed
abbrev pub WritesWhole : Option (List ℕ) → Option (List ℕ) → List ℕ → Bool → Type 0
WritesWhole None new bytes whole = Unit {0}
WritesWhole (Some old) None bytes whole = ⊥
WritesWhole (Some old) (Some new) bytes true = new ≡ old ++ bytes
WritesWhole (Some old) (Some new) bytes false = BeginsWith new old × BeginsWith (old ++ bytes) new × (length new < length old + length bytes)

-- of known bytes it leaves what a load of a file of these bytes leaves
abbrev pub ReadsWhole : {T : Type 0} → Option (List ℕ) → ℕ → List ℕ → Result T LoadFault → Type 0
ReadsWhole None limit into r = Unit {0}
ReadsWhole (Some bytes) limit into r = Loads bytes limit into r
