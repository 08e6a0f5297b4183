use Rattle.ooo_table.proofs.Run.{steps_at}
use Rattle.ooo_table.proofs.run_laws.right_rows_are_steps.Goals as goal

pub returns : goal.returns
returns c = steps_at
