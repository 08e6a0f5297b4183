use Rattle.ooo_table.specs.Ends.{Whole}
use Rattle.ooo_table.proofs.Room.{places_at}
use Rattle.ooo_table.proofs.laws.places_suffice.Goals as goal

pub returns : goal.returns
returns c = λ set x. places_at set Whole x
