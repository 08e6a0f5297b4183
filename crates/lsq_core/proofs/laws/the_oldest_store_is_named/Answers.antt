use Rattle.lsq_core.proofs.LawProofs.{names_the_oldest}
use Rattle.lsq_core.proofs.laws.the_oldest_store_is_named.Goals as goal

pub returns : goal.returns
returns c = names_the_oldest
