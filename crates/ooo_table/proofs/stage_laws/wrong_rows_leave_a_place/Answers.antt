use Rattle.ooo_table.proofs.WrongLive.{wrong_fit}
use Rattle.ooo_table.proofs.stage_laws.wrong_rows_leave_a_place.Goals as goal

pub returns : goal.returns
returns c = λ set I M x limits. wrong_fit set I M limits x
