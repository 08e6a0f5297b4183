use Rattle.ooo_table.proofs.MispredictedBranch.{shows}
use Rattle.ooo_table.proofs.worked_laws.mispredicted_branch.Goals as goal

pub returns : goal.returns
returns c = shows
