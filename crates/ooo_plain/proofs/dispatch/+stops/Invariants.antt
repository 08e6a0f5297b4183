use Rattle.std.proofs.Common.{length}
use Rattle.ooo_plain.proofs.dispatch.+stops.Given as goal

abbrev pub decreases-stops : goal.decreases-stops
decreases-stops l = length l.rows.now
