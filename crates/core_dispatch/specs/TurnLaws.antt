-- What stays at the answers of a turn that dispatch no row.
use Rattle.std.specs.Prelude.{◌≡◌, ℕ, Bool}
use Rattle.pisa_step.specs.declared.cause.Cause.{Cause}
use Rattle.event_trace.specs.declared.trace.Trace.{Trace}
use Rattle.core_parts.specs.declared.answers.Dispatched.TheVariants as turn
use Rattle.core_parts.specs.declared.parts.Parts.{Parts}
use Rattle.core_dispatch.specs.declared.verdict.Verdict.{Verdict}
use Rattle.core_dispatch.specs.declared.verdict.Verdict.TheVariants as verdict
use Rattle.core_dispatch.specs.Verdict.{verdict_of}
use Rattle.core_dispatch.specs.Turn.{StaysBefore, TurnBy, Turns}

module _ (trace : Trace) (c : ℕ) (old new : Parts) where
  over_by : (v : Verdict) → TurnBy v trace c old new turn.Over → new ≡ old
  over_by verdict.Stays t = t.1
  over_by (verdict.Stops why) t = t.1
  over_by verdict.Right t = absurd t
  over_by (verdict.Wrong act) t = absurd t

  stop_by : (why : Cause) (v : Verdict) → TurnBy v trace c old new (turn.Stops why) → new ≡ old
  stop_by why verdict.Stays t = t.1
  stop_by why (verdict.Stops w) t = t.1
  stop_by why verdict.Right t = absurd t
  stop_by why (verdict.Wrong act) t = absurd t

  other : turn.OutOfMemory ≡ turn.Over → ⊥
  other e = cc

  other_stop : (why : Cause) → turn.OutOfMemory ≡ turn.Stops why → ⊥
  other_stop why e = cc

  wanting_by : (v : Verdict) → TurnBy v trace c old new turn.OutOfMemory → StaysBefore old new
  wanting_by verdict.Stays t = absurd (other t.0)
  wanting_by (verdict.Stops why) t = absurd (other_stop why t.0)
  wanting_by verdict.Right t = t
  wanting_by (verdict.Wrong act) t = absurd t

  module _ (n : ℕ) (called : Bool) where
    -- where no row is dispatched any more, or the machine stops, all stays
    pub over_stays : Turns trace c n called old new turn.Over → new ≡ old
    over_stays t = over_by (verdict_of trace c n called old) t.turn

    pub stop_stays : (why : Cause) → Turns trace c n called old new (turn.Stops why) → new ≡ old
    stop_stays why t = stop_by why (verdict_of trace c n called old) t.turn

    -- where memory is wanted, the state and all other parts are as before
    pub wanting_stays : Turns trace c n called old new turn.OutOfMemory → StaysBefore old new
    wanting_stays t = wanting_by (verdict_of trace c n called old) t.turn
