-- What an observer promises, and what a run that is observed does.
use Rattle.std.specs.Prelude.{◌≡◌, ◌≢◌, ◌-◌, ◌<◌, ◌≤◌, ℕ, List, Result, Ok, Err}
use Rattle.ss_base.specs.Outside.{Rose}
use Rattle.event_trace.specs.declared.trace.Trace.{Trace}
use Rattle.sim_safe.specs.declared.observer.Meaning.{Meaning}
use Rattle.sim_safe.specs.declared.observer.Meaning.TheVariants as meaning
use Rattle.sim_safe.specs.declared.observer.RunEnd.{RunEnd}
use Rattle.sim_safe.specs.declared.observer.RunFault.{RunFault}
use Rattle.sim_safe.specs.declared.observer.RunFault.TheVariants as faults
use Rattle.sim_safe.specs.State.{State}
use Rattle.sim_safe.specs.Record.{Item}
use Rattle.sim_safe.specs.Commit.{onto}
use Rattle.sim_safe.specs.Run.{items_of, after, end_of}

-- the two counts of faults, of the shelf and of the sinks, after a fault of this meaning
abbrev pub Faulted : Meaning → ℕ × ℕ → ℕ × ℕ → Type 0
Faulted meaning.Shelf before now = (before.0 ≤ now.0) × Rose before.0 now.0 × (now.1 ≡ before.1)
Faulted meaning.Sink before now = (now.0 ≡ before.0) × (before.1 ≤ now.1) × Rose before.1 now.1
Faulted meaning.Memory before now = now ≡ before

-- the counts after a call of an observer
abbrev pub SawCounts : {T F : Type 0} → (F → Meaning) → ℕ × ℕ → ℕ × ℕ → Result T F → Type 0
SawCounts means before now (Ok _) = now ≡ before
SawCounts means before now (Err f) = Faulted (means f) before now

-- an observer that had taken a list takes one more item, or is cut within it
abbrev pub Saw : {S T F : Type 0} → (S → List Item → S → Type 0) → (S → List Item → S → Type 0) → S → List Item → S → Result T F → Type 0
Saw took cut start h now (Ok _) = took start h now
Saw took cut start h now (Err f) = cut start h now

-- after a call of an observer that takes no memory: it takes none from now on, and a fault doesn't mean
-- memory
abbrev pub SawWithoutMemory : {S T F : Type 0} → (S → Type 0) → (F → Meaning) → S → Result T F → Type 0
SawWithoutMemory takes_none means now (Ok _) = takes_none now
SawWithoutMemory takes_none means now (Err f) = takes_none now × (means f ≢ meaning.Memory)

-- the counts after a run
abbrev pub RunCounts : {T F : Type 0} → (F → Meaning) → ℕ × ℕ → ℕ × ℕ → Result T (RunFault F) → Type 0
RunCounts means before now (Ok _) = now ≡ before
RunCounts means before now (Err (faults.Watch f)) = Faulted (means f) before now
RunCounts means before now (Err faults.OutOfMemory) = now ≡ before

-- what memory a run wants: over an observer that takes none, that takes none from then on, and a fault of
-- it doesn't mean memory; the run itself finds none only where its steps aren't held by what there is
abbrev pub RunMemory : {S T F : Type 0} → (S → Type 0) → (F → Meaning) → Type 0 → S → S → Result T (RunFault F) → Type 0
RunMemory takes_none means held before now (Ok e) = takes_none before → takes_none now
RunMemory takes_none means held before now (Err (faults.Watch f)) = takes_none before → takes_none now × (means f ≢ meaning.Memory)
RunMemory takes_none means held before now (Err faults.OutOfMemory) = (takes_none before → takes_none now) × (held → ⊥)

-- what an observer has taken after a run of up to n steps: the number of steps that were done is
-- the difference of the counts of instructions, and it was cut within the last one where it failed
abbrev pub RunTook : {S T F : Type 0} → (S → List Item → S → Type 0) → (S → List Item → S → Type 0) → Trace → ℕ → State → State → S → List Item → S → Result T (RunFault F) → Type 0
RunTook took cut trace n s t start h now (Ok e) = took start (onto (items_of trace n s) h) now
RunTook took cut trace n s t start h now (Err (faults.Watch f)) = cut start (onto (items_of trace (t.icnt - s.icnt) s) h) now
RunTook took cut trace n s t start h now (Err faults.OutOfMemory) = took start (onto (items_of trace (t.icnt - s.icnt) s) h) now

-- the state after a run of up to n steps, and how it ends; an observer fails at a step that was done
abbrev pub RunState : {F : Type 0} → Trace → ℕ → State → State → Result RunEnd (RunFault F) → Type 0
RunState trace n s t (Ok e) = (t ≡ after trace n s) × (e ≡ end_of trace n s)
RunState trace n s t (Err (faults.Watch f)) = (t ≡ after trace (t.icnt - s.icnt) s) × (t.icnt - s.icnt ≤ n) × (s.icnt < t.icnt)
RunState trace n s t (Err faults.OutOfMemory) = (t ≡ after trace (t.icnt - s.icnt) s) × (t.icnt - s.icnt ≤ n)
