use Rattle.cache_core.proofs.LawProofs.{references_kept}
use Rattle.cache_core.proofs.laws.references_decide.Goals as goal

pub returns : goal.returns
returns c = references_kept
