use Rattle.core_ends.proofs.Ends.{has_state}
use Rattle.core_ends.proofs.laws.states_are_steps.Goals as goal

pub returns : goal.returns
returns c = has_state
