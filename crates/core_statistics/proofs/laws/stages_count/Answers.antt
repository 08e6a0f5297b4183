use Rattle.core_statistics.proofs.Staged.{stages_count}
use Rattle.core_statistics.proofs.laws.stages_count.Goals as goal

pub returns : goal.returns
returns c = stages_count
