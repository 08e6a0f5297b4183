use Rattle.ooo_table.proofs.FirstObject.{shows}
use Rattle.ooo_table.proofs.worked_laws.first_object.Goals as goal

pub returns : goal.returns
returns c = shows
