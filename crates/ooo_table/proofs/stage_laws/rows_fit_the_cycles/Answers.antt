use Rattle.ooo_table.proofs.Stages.{rows_fit}
use Rattle.ooo_table.proofs.stage_laws.rows_fit_the_cycles.Goals as goal

pub returns : goal.returns
returns c = rows_fit
