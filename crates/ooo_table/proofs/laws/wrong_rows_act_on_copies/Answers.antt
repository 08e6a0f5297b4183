use Rattle.ooo_table.proofs.WrongRows.{copies_at}
use Rattle.ooo_table.proofs.laws.wrong_rows_act_on_copies.Goals as goal

pub returns : goal.returns
returns c = copies_at
