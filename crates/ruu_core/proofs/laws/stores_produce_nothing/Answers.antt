use Rattle.ruu_core.proofs.LawProofs.{stores_write_nothing}
use Rattle.ruu_core.proofs.laws.stores_produce_nothing.Goals as goal

pub returns : goal.returns
returns c = stores_write_nothing
