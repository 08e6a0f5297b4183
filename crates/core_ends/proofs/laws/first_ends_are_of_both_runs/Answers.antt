use Rattle.core_ends.proofs.Budgets.{first_end}
use Rattle.core_ends.proofs.laws.first_ends_are_of_both_runs.Goals as goal

pub returns : goal.returns
returns c = first_end
