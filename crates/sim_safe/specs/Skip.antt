-- Steps that are done without records of them.
use Rattle.std.specs.Prelude.{◌≡◌, ◌+◌, ◌-◌, ◌<◌, ◌≤◌, ℕ, length, Result, Ok, Err}
use Rattle.ss_base.specs.declared.fault.OutOfMemory.{OutOfMemory}
use Rattle.pisa_step.specs.declared.cause.Cause.{Cause}
use Rattle.event_trace.specs.declared.trace.Trace.{Trace}
use Rattle.sim_safe.specs.declared.record.CommitRecord.{CommitRecord}
use Rattle.sim_safe.specs.declared.record.Progress.{Progress}
use Rattle.sim_safe.specs.declared.record.Progress.TheVariants as progress
use Rattle.sim_safe.specs.declared.observer.RunEnd.TheVariants as ends
use Rattle.sim_safe.specs.State.{State, Storage, state_of}
use Rattle.sim_safe.specs.Step.{Outcome, Next, Halt, step_of}
use Rattle.sim_safe.specs.Run.{items_of, after, end_of, end_at_budget}

-- what is left is this outcome, whatever its record says, and a stop leaves everything as it was
abbrev pub Leaves : Outcome → Storage → Storage → Progress → Type 0
Leaves outcome old new progress.Did = (r : CommitRecord) × (Next r (state_of new) ≡ outcome) × (new.icnt ≡ old.icnt + 1)
Leaves outcome old new (progress.Stopped why) = (Halt why ≡ outcome) × (new ≡ old)
Leaves outcome old new progress.OutOfMemory = state_of new ≡ state_of old

-- the state after up to n steps, and how many were done; want of memory leaves the state after some of them
abbrev pub SkipState : Trace → ℕ → State → State → Result ℕ OutOfMemory → Type 0
SkipState trace n s t (Ok k) = (t ≡ after trace n s) × (k ≡ length (items_of trace n s)) × (t.icnt ≡ s.icnt + k)
SkipState trace n s t (Err _) = (t ≡ after trace (t.icnt - s.icnt) s) × (t.icnt - s.icnt ≤ n)

-- how up to n steps end of which k were done: where they are fewer, by the cause for which the next step
-- stops, and else as the state that they leave says
pub record SkipEnds (trace : Trace) (n : ℕ) (s t : State) (k : ℕ) : Type 0 where
  pub within : k ≤ n
  pub early : k < n → (why : Cause) × (step_of trace t ≡ Halt why) × (end_of trace n s ≡ ends.Stop why)
  pub whole : k ≡ n → 0 < n → end_of trace n s ≡ end_at_budget t.ended
