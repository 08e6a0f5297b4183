use Rattle.std.proofs.Common.{length}
use Rattle.ooo_plain.proofs.recover.+redirected.Given as goal

abbrev pub decreases-redirected : goal.decreases-redirected
decreases-redirected l = length l.rows.now
