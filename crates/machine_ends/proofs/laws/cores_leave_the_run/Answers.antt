use Rattle.machine_ends.proofs.Ends.{leaves_core}
use Rattle.machine_ends.proofs.laws.cores_leave_the_run.Goals as goal

pub returns : goal.returns
returns c l = λ trace most old new before now result pos k. leaves_core _ _ trace most old new before now result pos k
