use Rattle.ooo_table.proofs.Ends.{ends_between}
use Rattle.ooo_table.proofs.laws.ends_lie_between.Goals as goal

pub returns : goal.returns
returns c = ends_between
