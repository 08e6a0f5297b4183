-- A step whose record is written in place.
use Rattle.std.specs.Prelude.{◌≡◌, ◌+◌}
use Rattle.sim_safe.specs.declared.record.CommitRecord.{CommitRecord}
use Rattle.sim_safe.specs.declared.record.Progress.{Progress}
use Rattle.sim_safe.specs.declared.record.Progress.TheVariants as progress
use Rattle.sim_safe.specs.State.{Storage, state_of}
use Rattle.sim_safe.specs.Step.{Outcome, Next, Halt}

-- what was done and what is left are this outcome, the record tells of it, and a stop leaves everything as it was
abbrev pub DoesInto : Outcome → Storage → Storage → CommitRecord → Progress → Type 0
DoesInto outcome old new r progress.Did = (Next r (state_of new) ≡ outcome) × (new.icnt ≡ old.icnt + 1)
DoesInto outcome old new r (progress.Stopped why) = (Halt why ≡ outcome) × (new ≡ old)
DoesInto outcome old new r progress.OutOfMemory = state_of new ≡ state_of old

-- memory was found
abbrev pub FoundMemory : Progress → Type 0
FoundMemory progress.Did = Unit {0}
FoundMemory (progress.Stopped why) = Unit {0}
FoundMemory progress.OutOfMemory = ⊥
