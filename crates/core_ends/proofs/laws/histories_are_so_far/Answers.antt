use Rattle.core_ends.proofs.Histories.{has_histories}
use Rattle.core_ends.proofs.laws.histories_are_so_far.Goals as goal

pub returns : goal.returns
returns c = has_histories
