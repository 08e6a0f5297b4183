use Rattle.ooo_table.proofs.AtEnds.{legal_at}
use Rattle.ooo_table.proofs.laws.every_end_is_legal.Goals as goal

pub returns : goal.returns
returns c = legal_at
