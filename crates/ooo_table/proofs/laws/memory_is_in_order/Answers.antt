use Rattle.ooo_table.specs.Ends.{Whole}
use Rattle.ooo_table.proofs.Sound.{memory_at}
use Rattle.ooo_table.proofs.laws.memory_is_in_order.Goals as goal

pub returns : goal.returns
returns c = λ set x. memory_at set Whole x
