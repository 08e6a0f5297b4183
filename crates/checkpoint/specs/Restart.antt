-- Runs that go on from a point.
use Rattle.std.specs.Prelude.{◌≡◌, ◌+◌, ◌++◌, ◌<◌, ℕ, Ok}
use Rattle.event_trace.specs.declared.trace.Trace.{Trace}
use Rattle.sim_safe.specs.State.{State}
use Rattle.sim_safe.specs.Run.{items_of, after, end_of}
use Rattle.sim_safe.specs.Commit.{text_of, outputs_of}
use Rattle.checkpoint.specs.State.{PointState}
use Rattle.checkpoint.specs.Held.{state_held, fit}

-- from a point that was taken k instructions behind a state, the run over the same trace is the rest of the
-- uninterrupted run from that state
pub record IsRest (trace : Trace) (k n : ℕ) (s : State) (p : PointState) : Type 0 where
  -- the point belongs to the program's object
  pub fits : fit p s.text ≡ Ok tt
  -- the numbers, addresses and all else of the records
  pub items : items_of trace (k + n) s ≡ items_of trace k s ++ items_of trace n (state_held p s.text)
  pub text : text_of (items_of trace (k + n) s) ≡ text_of (items_of trace k s) ++ text_of (items_of trace n (state_held p s.text))
  pub output : outputs_of (items_of trace (k + n) s) ≡ outputs_of (items_of trace k s) ++ outputs_of (items_of trace n (state_held p s.text))
  -- the state at the end
  pub state : after trace (k + n) s ≡ after trace n (state_held p s.text)
  -- and the ending, where the restarted run may do anything
  pub end : 0 < n → end_of trace (k + n) s ≡ end_of trace n (state_held p s.text)
