use Rattle.bpred_unit.proofs.LawProofs.{put_back}
use Rattle.bpred_unit.proofs.laws.recoveries_put_tops_back.Goals as goal

pub returns : goal.returns
returns c = put_back
