use Rattle.sim_refs.proofs.Predicting.{joins}
use Rattle.sim_refs.proofs.laws.parts_join.Goals as goal

pub returns : goal.returns
returns c = joins
