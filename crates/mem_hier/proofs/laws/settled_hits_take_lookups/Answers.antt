use Rattle.mem_hier.proofs.LawProofs.{settled_lookups}
use Rattle.mem_hier.proofs.laws.settled_hits_take_lookups.Goals as goal

pub returns : goal.returns
returns c = settled_lookups
