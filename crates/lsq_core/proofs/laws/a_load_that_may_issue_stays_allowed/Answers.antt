use Rattle.lsq_core.proofs.LawProofs.{stays_allowed}
use Rattle.lsq_core.proofs.laws.a_load_that_may_issue_stays_allowed.Goals as goal

pub returns : goal.returns
returns c = stays_allowed
