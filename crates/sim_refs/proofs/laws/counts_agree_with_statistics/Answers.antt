use Rattle.sim_refs.proofs.Steps.{agrees}
use Rattle.sim_refs.proofs.laws.counts_agree_with_statistics.Goals as goal

pub returns : goal.returns
returns c = agrees
