use Rattle.fu_pool.proofs.Held.{suffices}
use Rattle.fu_pool.proofs.laws.units_suffice.Goals as goal

pub returns : goal.returns
returns c = suffices
