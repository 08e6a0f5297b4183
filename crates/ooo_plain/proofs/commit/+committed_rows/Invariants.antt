use Rattle.std.proofs.Common.{length}
use Rattle.ooo_plain.proofs.commit.+committed_rows.Given as goal

abbrev pub decreases-committed_rows : goal.decreases-committed_rows
decreases-committed_rows l = length l.rows.now
