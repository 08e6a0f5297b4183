use Rattle.mem_hier.proofs.LawProofs.{takes_lookups}
use Rattle.mem_hier.proofs.laws.bare_references_take_lookups.Goals as goal

pub returns : goal.returns
returns c = takes_lookups
