use Rattle.sim_refs.proofs.Predicting.{answers_alike}
use Rattle.sim_refs.proofs.laws.other_look_ups_change_nothing.Goals as goal

pub returns : goal.returns
returns c = answers_alike
