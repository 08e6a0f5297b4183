use Rattle.cache_core.proofs.LawProofs.{accesses_kept}
use Rattle.cache_core.proofs.laws.accesses_keep_contents.Goals as goal

pub returns : goal.returns
returns c = accesses_kept
