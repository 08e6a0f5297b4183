-- Laws of steps and of recordings.
use Rattle.std.specs.Prelude.{◌≡◌, ◌+◌, ◌++◌, ◌<◌, ◌≤◌, ℕ, List, length}
use Rattle.pisa_step.specs.declared.cause.Cause.TheVariants as cause
use Rattle.event_trace.specs.declared.trace.Record.{Record}
use Rattle.event_trace.specs.declared.trace.Trace.{Trace}
use Rattle.event_trace.specs.Recorder.{with_more}
use Rattle.sim_safe.specs.declared.observer.RunEnd.{RunEnd}
use Rattle.sim_safe.specs.declared.observer.RunEnd.TheVariants as ends
use Rattle.sim_safe.specs.State.{State}
use Rattle.sim_safe.specs.Step.{Outcome, Next, Halt}
use Rattle.sim_safe.specs.Run.{items_of, after, end_of}

-- what each step that is done keeps
pub record KeepsOn (s t : State) : Type 0 where
  -- one more instruction was done, in the same text and byte order
  pub icnt : t.icnt ≡ s.icnt + 1
  pub text : t.text ≡ s.text
  pub big : t.reads.big ≡ s.reads.big
  -- the number of used records doesn't fall
  pub used : s.used ≤ t.used
  -- no byte of text changes
  pub in_text : (a : ℕ) → s.text.start ≤ a → a < s.text.start + length s.text.bytes → t.reads.bytes a ≡ s.reads.bytes a
  -- register 0 stays 0
  pub zero : s.reads.regs 0 ≡ 0 → t.reads.regs 0 ≡ 0

abbrev pub StepKeeps : State → Outcome → Type 0
StepKeeps s (Next r t) = KeepsOn s t
StepKeeps s (Halt why) = Unit {0}

-- a trace is another one with further records at its end
abbrev pub IsGrown : Trace → Trace → Type 0
IsGrown t u = (more : List Record) × (u ≡ with_more t more)

-- a run ends since no record is left for a call
abbrev pub StopsForRecord : RunEnd → Type 0
StopsForRecord e = (used : ℕ) × (e ≡ ends.Stop (cause.TraceEnd used))

-- a run of k + n steps is one of k steps, and from the state that it leaves one of n
pub record GoesOn (trace : Trace) (k n : ℕ) (s : State) : Type 0 where
  pub items : items_of trace (k + n) s ≡ items_of trace k s ++ items_of trace n (after trace k s)
  pub state : after trace (k + n) s ≡ after trace n (after trace k s)
  -- with no further step the end is that of the first k
  pub end : 0 < n → end_of trace (k + n) s ≡ end_of trace n (after trace k s)
