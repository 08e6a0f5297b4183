use Rattle.std.proofs.Common.{length}
use Rattle.ooo_plain.proofs.dispatch.+live_rows.Given as goal

abbrev pub decreases-live_rows : goal.decreases-live_rows
decreases-live_rows l = length l.older.now
