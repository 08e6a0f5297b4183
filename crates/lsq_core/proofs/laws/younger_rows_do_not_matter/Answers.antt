use Rattle.lsq_core.proofs.LawProofs.{ignores_younger}
use Rattle.lsq_core.proofs.laws.younger_rows_do_not_matter.Goals as goal

pub returns : goal.returns
returns c = ignores_younger
