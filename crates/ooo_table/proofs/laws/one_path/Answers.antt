use Rattle.ooo_table.proofs.Route.{one_path}
use Rattle.ooo_table.proofs.laws.one_path.Goals as goal

pub returns : goal.returns
returns c = one_path
