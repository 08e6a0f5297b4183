use Rattle.ooo_table.proofs.TwoDivisions.{shows}
use Rattle.ooo_table.proofs.worked_laws.two_divisions.Goals as goal

pub returns : goal.returns
returns c = shows
