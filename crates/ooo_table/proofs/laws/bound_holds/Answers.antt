use Rattle.ooo_table.proofs.Idle.{bound_holds}
use Rattle.ooo_table.proofs.laws.bound_holds.Goals as goal

pub returns : goal.returns
returns c = λ set I M x limits running. bound_holds set I M limits x running
