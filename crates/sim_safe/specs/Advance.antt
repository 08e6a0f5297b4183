-- One step of an observed run: what the parts of `run` say of each other.
use Rattle.std.specs.Prelude.{◌≡◌, ◌≢◌, ◌+◌, ℕ, List, ◌∷◌}
use Rattle.event_trace.specs.declared.trace.Trace.{Trace}
use Rattle.sim_safe.specs.declared.observer.Meaning.{Meaning}
use Rattle.sim_safe.specs.declared.observer.Meaning.TheVariants as meaning
use Rattle.sim_safe.specs.declared.observer.RunFault.TheVariants as faults
use Rattle.sim_safe.specs.declared.observer.Advance.{Advance}
use Rattle.sim_safe.specs.declared.observer.Advance.TheVariants as advance
use Rattle.sim_safe.specs.declared.record.CommitRecord.{CommitRecord}
use Rattle.sim_safe.specs.State.{State}
use Rattle.sim_safe.specs.Record.{Item, item_of}
use Rattle.sim_safe.specs.Step.{Next, Halt, step_of}
use Rattle.sim_safe.specs.Observed.{Faulted}

-- the state after it
abbrev pub AdvanceState : {F : Type 0} → Trace → State → State → Advance F → Type 0
AdvanceState trace s t advance.Going = (r : CommitRecord) × (Next r t ≡ step_of trace s) × (t.icnt ≡ s.icnt + 1)
AdvanceState trace s t (advance.Ended why) = (Halt why ≡ step_of trace s) × (t ≡ s)
AdvanceState trace s t (advance.Failed (faults.Watch f)) = (r : CommitRecord) × (Next r t ≡ step_of trace s) × (t.icnt ≡ s.icnt + 1)
AdvanceState trace s t (advance.Failed faults.OutOfMemory) = t ≡ s

-- what an observer has taken after it
abbrev pub AdvanceTook : {S F : Type 0} → (S → List Item → S → Type 0) → (S → List Item → S → Type 0) → Trace → State → State → S → List Item → S → Advance F → Type 0
AdvanceTook took cut trace s t start h now advance.Going = (r : CommitRecord) → Next r t ≡ step_of trace s → took start (item_of trace r ∷ h) now
AdvanceTook took cut trace s t start h now (advance.Ended why) = took start h now
AdvanceTook took cut trace s t start h now (advance.Failed (faults.Watch f)) = (r : CommitRecord) → Next r t ≡ step_of trace s → cut start (item_of trace r ∷ h) now
AdvanceTook took cut trace s t start h now (advance.Failed faults.OutOfMemory) = took start h now

-- the counts after it
abbrev pub AdvanceCounts : {F : Type 0} → (F → Meaning) → ℕ × ℕ → ℕ × ℕ → Advance F → Type 0
AdvanceCounts means before now advance.Going = now ≡ before
AdvanceCounts means before now (advance.Ended why) = now ≡ before
AdvanceCounts means before now (advance.Failed (faults.Watch f)) = Faulted (means f) before now
AdvanceCounts means before now (advance.Failed faults.OutOfMemory) = now ≡ before

-- what memory it wants
abbrev pub AdvanceMemory : {S F : Type 0} → (S → Type 0) → (F → Meaning) → Type 0 → S → S → Advance F → Type 0
AdvanceMemory takes_none means held before now advance.Going = takes_none before → takes_none now
AdvanceMemory takes_none means held before now (advance.Ended why) = takes_none before → takes_none now
AdvanceMemory takes_none means held before now (advance.Failed (faults.Watch f)) = takes_none before → takes_none now × (means f ≢ meaning.Memory)
AdvanceMemory takes_none means held before now (advance.Failed faults.OutOfMemory) = (takes_none before → takes_none now) × (held → ⊥)
