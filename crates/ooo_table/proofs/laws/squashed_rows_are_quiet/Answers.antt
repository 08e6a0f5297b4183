use Rattle.ooo_table.proofs.Quiet.{quiet_at}
use Rattle.ooo_table.proofs.laws.squashed_rows_are_quiet.Goals as goal

pub returns : goal.returns
returns c = quiet_at
