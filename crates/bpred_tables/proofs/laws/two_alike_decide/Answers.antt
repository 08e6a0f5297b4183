use Rattle.bpred_tables.proofs.Histories.{alike}
use Rattle.bpred_tables.proofs.laws.two_alike_decide.Goals as goal

pub returns : goal.returns
returns c = alike
