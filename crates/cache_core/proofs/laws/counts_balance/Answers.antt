use Rattle.cache_core.proofs.LawProofs.{counts_kept}
use Rattle.cache_core.proofs.laws.counts_balance.Goals as goal

pub returns : goal.returns
returns c = counts_kept
