use Rattle.ooo_table.specs.Ends.{Whole}
use Rattle.ooo_table.proofs.Sound.{producers_at}
use Rattle.ooo_table.proofs.laws.producers_are_done.Goals as goal

pub returns : goal.returns
returns c = λ set x. producers_at set Whole x
