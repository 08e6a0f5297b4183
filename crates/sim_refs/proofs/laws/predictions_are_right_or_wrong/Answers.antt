use Rattle.sim_refs.proofs.Predicting.{right_or_wrong}
use Rattle.sim_refs.proofs.laws.predictions_are_right_or_wrong.Goals as goal

pub returns : goal.returns
returns c = right_or_wrong
