use Rattle.machine_ends.proofs.Ends.{core_has_run}
use Rattle.machine_ends.proofs.laws.cores_stand_in_the_run.Goals as goal

pub returns : goal.returns
returns c = core_has_run
