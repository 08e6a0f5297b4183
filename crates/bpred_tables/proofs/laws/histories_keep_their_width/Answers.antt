use Rattle.bpred_tables.specs.Updates.{outcomes_at, fixed_place}
use Rattle.bpred_tables.proofs.Histories.{number_below}
use Rattle.bpred_tables.proofs.laws.histories_keep_their_width.Goals as goal

pub returns : goal.returns
returns c = λ l k updates. number_below l.width (outcomes_at (fixed_place l.first) k updates)
