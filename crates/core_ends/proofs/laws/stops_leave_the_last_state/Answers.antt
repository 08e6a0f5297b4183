use Rattle.core_ends.proofs.Ends.{over_at_stop}
use Rattle.core_ends.proofs.laws.stops_leave_the_last_state.Goals as goal

pub returns : goal.returns
returns c = over_at_stop
