use Rattle.mem_hier.proofs.Worked.{worked}
use Rattle.mem_hier.proofs.laws.worked_latencies.Goals as goal

pub returns : goal.returns
returns c = worked
