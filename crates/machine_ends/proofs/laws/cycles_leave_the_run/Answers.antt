use Rattle.machine_ends.proofs.Ends.{leaves}
use Rattle.machine_ends.proofs.laws.cycles_leave_the_run.Goals as goal

pub returns : goal.returns
returns c l = λ g c most new counts result sound pos k. leaves g c most sound pos new counts result k
