use Rattle.ooo_front.proofs.LawProofs.{goes_on_there}
use Rattle.ooo_front.proofs.laws.redirected_fronts_go_on_there.Goals as goal

pub returns : goal.returns
returns c = goes_on_there
