use Rattle.ooo_table.proofs.Stages.{facts_stages}
use Rattle.ooo_table.proofs.stage_laws.rows_keep_their_order.Goals as goal

pub returns : goal.returns
returns c = facts_stages
