use Rattle.ruu_core.proofs.LawProofs.{leaves_older}
use Rattle.ruu_core.proofs.laws.squashes_leave_older_rows.Goals as goal

pub returns : goal.returns
returns c = leaves_older
