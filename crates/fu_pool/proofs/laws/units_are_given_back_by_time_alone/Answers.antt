use Rattle.fu_pool.proofs.Held.{held_falls}
use Rattle.fu_pool.proofs.laws.units_are_given_back_by_time_alone.Goals as goal

pub returns : goal.returns
returns c = held_falls
