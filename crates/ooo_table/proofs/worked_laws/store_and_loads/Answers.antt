use Rattle.ooo_table.proofs.StoreAndLoads.{shows}
use Rattle.ooo_table.proofs.worked_laws.store_and_loads.Goals as goal

pub returns : goal.returns
returns c = shows
