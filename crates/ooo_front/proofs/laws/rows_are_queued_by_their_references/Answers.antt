use Rattle.ooo_front.proofs.LawProofs.{queued_so}
use Rattle.ooo_front.proofs.laws.rows_are_queued_by_their_references.Goals as goal

pub returns : goal.returns
returns c = queued_so
