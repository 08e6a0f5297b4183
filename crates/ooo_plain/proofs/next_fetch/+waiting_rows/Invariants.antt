use Rattle.std.proofs.Common.{length}
use Rattle.ooo_plain.proofs.next_fetch.+waiting_rows.Given as goal

abbrev pub decreases-waiting_rows : goal.decreases-waiting_rows
decreases-waiting_rows l = length l.rows.now
