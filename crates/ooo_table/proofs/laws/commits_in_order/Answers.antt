use Rattle.ooo_table.proofs.RowFacts.{commits_in_order}
use Rattle.ooo_table.proofs.laws.commits_in_order.Goals as goal

pub returns : goal.returns
returns c = commits_in_order
