use Rattle.core_statistics.proofs.Standing.{counts_stand}
use Rattle.core_statistics.proofs.laws.counts_stand.Goals as goal

pub returns : goal.returns
returns c = counts_stand
