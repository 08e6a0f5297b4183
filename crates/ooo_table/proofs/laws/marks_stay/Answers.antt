use Rattle.ooo_table.proofs.Marks.{table_grows}
use Rattle.ooo_table.proofs.laws.marks_stay.Goals as goal

pub returns : goal.returns
returns c = table_grows
