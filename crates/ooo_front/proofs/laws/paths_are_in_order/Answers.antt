use Rattle.ooo_front.proofs.Paths.{path_in_order}
use Rattle.ooo_front.proofs.laws.paths_are_in_order.Goals as goal

pub returns : goal.returns
returns c = path_in_order
