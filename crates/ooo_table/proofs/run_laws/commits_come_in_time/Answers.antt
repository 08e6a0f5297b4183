use Rattle.ooo_table.proofs.Timely.{timely}
use Rattle.ooo_table.proofs.run_laws.commits_come_in_time.Goals as goal

pub returns : goal.returns
returns c = timely
