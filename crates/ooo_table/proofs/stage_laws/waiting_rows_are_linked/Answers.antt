use Rattle.ooo_table.proofs.Stages.{linked_stages}
use Rattle.ooo_table.proofs.stage_laws.waiting_rows_are_linked.Goals as goal

pub returns : goal.returns
returns c = linked_stages
