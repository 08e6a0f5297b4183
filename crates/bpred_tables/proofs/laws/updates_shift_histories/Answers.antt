use Rattle.bpred_tables.proofs.Histories.{history_here}
use Rattle.bpred_tables.proofs.laws.updates_shift_histories.Goals as goal

pub returns-clause-here : goal.returns-clause-here
returns-clause-here c = λ l u older. history_here l u older
