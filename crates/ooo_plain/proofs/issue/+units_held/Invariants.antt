use Rattle.std.proofs.Common.{length}
use Rattle.ooo_plain.proofs.issue.+units_held.Given as goal

abbrev pub decreases-units_held : goal.decreases-units_held
decreases-units_held l = length l.rows.now
