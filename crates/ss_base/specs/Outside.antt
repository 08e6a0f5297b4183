-- What files and streams hold, and what each call does to it.
use Rattle.std.specs.Prelude.{◌≡◌, ◌≢◌, ◌+◌, ◌-◌, ◌^◌, ◌≤◌, ◌<◌, ◌++◌, ◌⊎◌, ℕ, List, [], length, take, min, Option, Some, Result, Ok, Err, unwrap_or}
use Rattle.ss_base.specs.declared.fault.PutFault.{PutFault}
use Rattle.ss_base.specs.declared.fault.PutFault.TheVariants as put
use Rattle.ss_base.specs.declared.fault.LoadFault.{LoadFault}
use Rattle.ss_base.specs.declared.fault.LoadFault.TheVariants as load

-- the files by name: the bytes of each, or None where no such file is held
abbrev pub Files : Type 0
Files = List ℕ → Option (List ℕ)

-- the bytes of a file; a name that is not held counts as an empty file
abbrev pub bytes_at : Files → List ℕ → List ℕ
bytes_at files name = unwrap_or (files name) []

-- a count of faults rose, or stands at the last value of its counter
abbrev pub Rose : ℕ → ℕ → Type 0
Rose before now = min (before + 1) (2 ^ 64 - 1) ≤ now

-- these bytes begin with that front
abbrev pub BeginsWith : List ℕ → List ℕ → Type 0
BeginsWith bytes front = take (length front) bytes ≡ front

-- a write that failed raised the count of faults; every other answer leaves it
abbrev pub PutCounts : {T : Type 0} → ℕ → ℕ → Result T PutFault → Type 0
PutCounts before now (Ok _) = now ≡ before
PutCounts before now (Err put.Failed) = (before ≤ now) × Rose before now
PutCounts before now (Err put.OutOfMemory) = now ≡ before

-- the same of a load
abbrev pub LoadCounts : {T : Type 0} → ℕ → ℕ → Result T LoadFault → Type 0
LoadCounts before now (Ok _) = now ≡ before
LoadCounts before now (Err load.Failed) = (before ≤ now) × Rose before now
LoadCounts before now (Err load.TooLong) = now ≡ before
LoadCounts before now (Err load.OutOfMemory) = now ≡ before

-- what a stream holds after a put: the bytes at its end, a front of them after a failure, none
-- of them for want of memory
abbrev pub Adds : {T : Type 0} → List ℕ → List ℕ → List ℕ → Result T PutFault → Type 0
Adds old bytes new (Ok _) = new ≡ old ++ bytes
Adds old bytes new (Err put.Failed) = BeginsWith new old × BeginsWith (old ++ bytes) new
Adds old bytes new (Err put.OutOfMemory) = new ≡ old

-- each file but the named one is as before
abbrev pub OthersStay : Files → List ℕ → Files → Type 0
OthersStay old name new = (other : List ℕ) → other ≢ name → new other ≡ old other

-- each file is as before
abbrev pub SameFiles : Files → Files → Type 0
SameFiles old new = (name : List ℕ) → new name ≡ old name

-- the named file after a start
abbrev pub Starts : {T : Type 0} → Files → List ℕ → Files → Result T PutFault → Type 0
Starts old name new (Ok _) = new name ≡ Some []
Starts old name new (Err put.Failed) = (new name ≡ old name) ⊎ (new name ≡ Some [])
Starts old name new (Err put.OutOfMemory) = new name ≡ old name

-- the named file after an append
abbrev pub Appends : {T : Type 0} → Files → List ℕ → List ℕ → Files → Result T PutFault → Type 0
Appends old name bytes new (Ok _) = new name ≡ Some (bytes_at old name ++ bytes)
Appends old name bytes new (Err put.Failed) = BeginsWith (bytes_at new name) (bytes_at old name) × BeginsWith (bytes_at old name ++ bytes) (bytes_at new name)
Appends old name bytes new (Err put.OutOfMemory) = new name ≡ old name

-- what a load of a file leaves in its buffer
abbrev pub Loads : {T : Type 0} → List ℕ → ℕ → List ℕ → Result T LoadFault → Type 0
Loads file limit into (Ok _) = (into ≡ file) × (length file ≤ limit)
Loads file limit into (Err load.TooLong) = (into ≡ take (limit + 1) file) × (limit < length file)
Loads file limit into (Err load.Failed) = BeginsWith file into
Loads file limit into (Err load.OutOfMemory) = BeginsWith file into

-- how many bytes a load leaves in its buffer, whatever the file holds
abbrev pub HasLength : {T : Type 0} → ℕ → List ℕ → Result T LoadFault → Type 0
HasLength limit into (Ok _) = length into ≤ limit
HasLength limit into (Err load.TooLong) = length into ≡ limit + 1
HasLength limit into (Err load.Failed) = Unit {0}
HasLength limit into (Err load.OutOfMemory) = Unit {0}
