use Rattle.mem_hier.proofs.LawProofs.{first_misses}
use Rattle.mem_hier.proofs.laws.first_references_miss.Goals as goal

pub returns : goal.returns
returns c = first_misses
