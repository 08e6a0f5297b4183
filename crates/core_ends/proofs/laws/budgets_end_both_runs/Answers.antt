use Rattle.core_ends.proofs.Budgets.{with_budget}
use Rattle.core_ends.proofs.laws.budgets_end_both_runs.Goals as goal

pub returns : goal.returns
returns c = with_budget
