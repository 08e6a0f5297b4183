use Rattle.cut_run.proofs.Restores.{point_holds}
use Rattle.cut_run.proofs.laws.points_hold_their_state.Goals as goal

pub returns : goal.returns
returns c = point_holds
