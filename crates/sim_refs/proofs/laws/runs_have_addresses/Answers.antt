use Rattle.sim_refs.proofs.Steps.{run_has}
use Rattle.sim_refs.proofs.laws.runs_have_addresses.Goals as goal

pub returns : goal.returns
returns c = run_has
