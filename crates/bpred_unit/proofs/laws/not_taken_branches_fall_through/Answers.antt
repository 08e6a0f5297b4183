use Rattle.bpred_unit.proofs.LawProofs.{not_taken}
use Rattle.bpred_unit.proofs.laws.not_taken_branches_fall_through.Goals as goal

pub returns : goal.returns
returns c = not_taken
