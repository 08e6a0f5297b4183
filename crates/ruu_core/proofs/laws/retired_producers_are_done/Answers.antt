use Rattle.ruu_core.proofs.LawProofs.{stays_produced}
use Rattle.ruu_core.proofs.laws.retired_producers_are_done.Goals as goal

pub returns : goal.returns
returns c = stays_produced
