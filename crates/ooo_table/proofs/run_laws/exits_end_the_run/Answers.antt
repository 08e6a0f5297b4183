use Rattle.ooo_table.proofs.Run.{exit_at}
use Rattle.ooo_table.proofs.run_laws.exits_end_the_run.Goals as goal

pub returns : goal.returns
returns c = exit_at
