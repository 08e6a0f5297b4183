use Rattle.sim_refs.proofs.Predicting.{asks_nothing}
use Rattle.sim_refs.proofs.laws.other_instructions_ask_nothing.Goals as goal

pub returns : goal.returns
returns c = asks_nothing
