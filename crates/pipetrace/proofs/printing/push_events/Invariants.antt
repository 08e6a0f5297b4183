-- the text so far and that of the events that are left are the text of all
use Rattle.std.proofs.Common.{◌≡◌, ◌++◌, None, drop}
use Rattle.pipetrace.specs.Text.{events_text}
use Rattle.pipetrace.proofs.printing.push_events.Given as goal

abbrev pub invariant-loop-e : goal.invariant-loop-e
invariant-loop-e l = l.into.items ++ events_text l.last (drop l.e-index l.events) ≡ l.fn.into.items ++ events_text None l.events
