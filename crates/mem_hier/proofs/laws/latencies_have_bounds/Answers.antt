use Rattle.mem_hier.proofs.LawProofs.{bounds}
use Rattle.mem_hier.proofs.laws.latencies_have_bounds.Goals as goal

pub returns : goal.returns
returns c = bounds
