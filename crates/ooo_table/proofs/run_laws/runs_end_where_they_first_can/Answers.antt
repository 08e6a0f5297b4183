use Rattle.ooo_table.proofs.Finishes.{first_end}
use Rattle.ooo_table.proofs.run_laws.runs_end_where_they_first_can.Goals as goal

pub returns : goal.returns
returns c = first_end
