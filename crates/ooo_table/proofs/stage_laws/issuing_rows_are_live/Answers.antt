use Rattle.ooo_table.proofs.Stages.{issues_live}
use Rattle.ooo_table.proofs.stage_laws.issuing_rows_are_live.Goals as goal

pub returns : goal.returns
returns c = issues_live
