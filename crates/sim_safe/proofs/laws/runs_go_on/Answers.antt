use Rattle.sim_safe.proofs.GoingOn.{goes_on}
use Rattle.sim_safe.proofs.laws.runs_go_on.Goals as goal

pub returns : goal.returns
returns c = goes_on
