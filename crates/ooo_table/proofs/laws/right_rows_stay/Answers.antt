use Rattle.ooo_table.proofs.Recovered.{untouched_at}
use Rattle.ooo_table.proofs.laws.right_rows_stay.Goals as goal

pub returns : goal.returns
returns c = untouched_at
