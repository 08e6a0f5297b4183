use Rattle.bpred_tables.proofs.Learning.{agreed}
use Rattle.bpred_tables.proofs.laws.agreement_leaves_choosers.Goals as goal

pub returns : goal.returns
returns c = λ p k u older e. agreed p k u older e
