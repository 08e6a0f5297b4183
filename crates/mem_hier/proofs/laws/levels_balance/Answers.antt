use Rattle.mem_hier.proofs.Balance.{balanced}
use Rattle.mem_hier.proofs.laws.levels_balance.Goals as goal

pub returns : goal.returns
returns c = balanced
