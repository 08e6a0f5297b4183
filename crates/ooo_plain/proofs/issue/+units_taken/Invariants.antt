use Rattle.std.proofs.Common.{length}
use Rattle.ooo_plain.proofs.issue.+units_taken.Given as goal

abbrev pub decreases-units_taken : goal.decreases-units_taken
decreases-units_taken l = length l.rows.now
