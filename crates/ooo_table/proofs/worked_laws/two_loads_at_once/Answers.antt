use Rattle.ooo_table.proofs.TwoLoadsAtOnce.{shows}
use Rattle.ooo_table.proofs.worked_laws.two_loads_at_once.Goals as goal

pub returns : goal.returns
returns c = shows
