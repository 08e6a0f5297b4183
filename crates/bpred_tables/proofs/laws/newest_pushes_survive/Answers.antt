use Rattle.bpred_tables.proofs.Rings.{popped_pushes, popped_round}
use Rattle.bpred_tables.proofs.laws.newest_pushes_survive.Goals as goal

pub returns-clause-last : goal.returns-clause-last
returns-clause-last c = λ n i values calls. popped_pushes n i values calls

pub returns-clause-round : goal.returns-clause-round
returns-clause-round c = λ n values calls. popped_round n values calls
