use Rattle.ooo_table.proofs.StoreAndLoadsInOrder.{shows}
use Rattle.ooo_table.proofs.worked_laws.store_and_loads_in_order.Goals as goal

pub returns : goal.returns
returns c = shows
