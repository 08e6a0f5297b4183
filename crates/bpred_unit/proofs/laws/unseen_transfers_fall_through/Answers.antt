use Rattle.bpred_unit.proofs.LawProofs.{unseen}
use Rattle.bpred_unit.proofs.laws.unseen_transfers_fall_through.Goals as goal

pub returns : goal.returns
returns c = unseen
