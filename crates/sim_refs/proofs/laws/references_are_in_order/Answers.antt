use Rattle.sim_refs.proofs.Referring.{refers_in_order}
use Rattle.sim_refs.proofs.laws.references_are_in_order.Goals as goal

pub returns : goal.returns
returns c = refers_in_order
