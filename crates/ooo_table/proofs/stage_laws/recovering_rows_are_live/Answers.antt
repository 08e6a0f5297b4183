use Rattle.ooo_table.proofs.CycleFacts.{live_one}
use Rattle.ooo_table.proofs.stage_laws.recovering_rows_are_live.Goals as goal

pub returns : goal.returns
returns c = λ set I M x limits. live_one set I M limits x
