use Rattle.ooo_table.specs.Ends.{Whole}
use Rattle.ooo_table.proofs.Pools.{units_at}
use Rattle.ooo_table.proofs.laws.units_suffice.Goals as goal

pub returns : goal.returns
returns c = λ set x y. units_at set Whole x y
