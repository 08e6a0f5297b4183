use Rattle.ooo_table.specs.Ends.{Whole}
use Rattle.ooo_table.proofs.Widths.{widths_at}
use Rattle.ooo_table.proofs.laws.widths_are_kept.Goals as goal

pub returns : goal.returns
returns c = λ set x y. widths_at set Whole x y
