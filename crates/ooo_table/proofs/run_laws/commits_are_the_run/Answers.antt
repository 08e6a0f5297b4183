use Rattle.ooo_table.proofs.Run.{run_at}
use Rattle.ooo_table.proofs.run_laws.commits_are_the_run.Goals as goal

pub returns : goal.returns
returns c = run_at
