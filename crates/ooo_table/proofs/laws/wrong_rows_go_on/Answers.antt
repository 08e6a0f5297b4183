use Rattle.ooo_table.proofs.WrongRows.{goes_on_at}
use Rattle.ooo_table.proofs.laws.wrong_rows_go_on.Goals as goal

pub returns : goal.returns
returns c = goes_on_at
