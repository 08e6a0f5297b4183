use Rattle.ooo_table.proofs.Run.{stop_at}
use Rattle.ooo_table.proofs.run_laws.stops_end_the_run.Goals as goal

pub returns : goal.returns
returns c = stop_at
