use Rattle.mem_hier.proofs.LawProofs.{waits_bounded}
use Rattle.mem_hier.proofs.laws.waiting_hits_are_bounded.Goals as goal

pub returns : goal.returns
returns c = waits_bounded
