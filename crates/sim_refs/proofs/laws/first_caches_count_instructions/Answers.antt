use Rattle.sim_refs.proofs.Fronts.{fronts_count}
use Rattle.sim_refs.proofs.laws.first_caches_count_instructions.Goals as goal

pub returns : goal.returns
returns c = fronts_count
