use Rattle.sim_refs.proofs.Referring.{refers_once}
use Rattle.sim_refs.proofs.laws.references_are_of_instructions.Goals as goal

pub returns : goal.returns
returns c = refers_once
