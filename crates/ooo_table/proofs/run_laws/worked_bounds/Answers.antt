use Rattle.ooo_table.proofs.Timely.{worked_bounds}
use Rattle.ooo_table.proofs.run_laws.worked_bounds.Goals as goal

pub returns : goal.returns
returns c = worked_bounds
