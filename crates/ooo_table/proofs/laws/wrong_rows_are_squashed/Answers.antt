use Rattle.ooo_table.specs.Ends.{Whole}
use Rattle.ooo_table.proofs.Recovered.{squashes_at}
use Rattle.ooo_table.proofs.laws.wrong_rows_are_squashed.Goals as goal

pub returns : goal.returns
returns c = λ set x penalty. squashes_at set Whole x penalty
