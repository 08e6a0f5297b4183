use Rattle.ooo_table.proofs.Ends.{happened_at}
use Rattle.ooo_table.proofs.laws.marks_have_happened.Goals as goal

pub returns : goal.returns
returns c = happened_at
