use Rattle.ruu_core.proofs.LawProofs.{stands_at}
use Rattle.ruu_core.proofs.laws.numbers_name_rows.Goals as goal

pub returns : goal.returns
returns c = stands_at
