use Rattle.ruu_core.proofs.LawProofs.{completes_there}
use Rattle.ruu_core.proofs.laws.completions_are_where_they_are_said.Goals as goal

pub returns : goal.returns
returns c = completes_there
