use Rattle.core_statistics.proofs.Grow.{counts_grow}
use Rattle.core_statistics.proofs.laws.counts_grow.Goals as goal

pub returns : goal.returns
returns c = counts_grow
