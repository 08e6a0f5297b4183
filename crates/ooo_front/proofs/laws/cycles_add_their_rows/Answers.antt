use Rattle.ooo_front.proofs.LawProofs.{adds_rows}
use Rattle.ooo_front.proofs.laws.cycles_add_their_rows.Goals as goal

pub returns : goal.returns
returns c = adds_rows
