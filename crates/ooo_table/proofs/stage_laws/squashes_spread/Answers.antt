use Rattle.ooo_table.proofs.Stages.{squash_stages}
use Rattle.ooo_table.proofs.stage_laws.squashes_spread.Goals as goal

pub returns : goal.returns
returns c = squash_stages
