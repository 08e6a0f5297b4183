use Rattle.lsq_core.proofs.LawProofs.{stands_at}
use Rattle.lsq_core.proofs.laws.numbers_name_entries.Goals as goal

pub returns : goal.returns
returns c = stands_at
