use Rattle.std.proofs.Common.{length}
use Rattle.ooo_plain.proofs.updates.+update_all.Given as goal

abbrev pub decreases-update_all : goal.decreases-update_all
decreases-update_all l = length l.rows.now
