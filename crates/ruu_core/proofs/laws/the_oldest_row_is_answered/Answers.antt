use Rattle.ruu_core.proofs.LawProofs.{answers_the_least}
use Rattle.ruu_core.proofs.laws.the_oldest_row_is_answered.Goals as goal

pub returns : goal.returns
returns c = answers_the_least
