use Rattle.ooo_table.proofs.Stages.{newest_stages}
use Rattle.ooo_table.proofs.stage_laws.waiting_rows_are_the_newest.Goals as goal

pub returns : goal.returns
returns c = newest_stages
