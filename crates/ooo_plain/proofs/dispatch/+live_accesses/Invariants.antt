use Rattle.std.proofs.Common.{length}
use Rattle.ooo_plain.proofs.dispatch.+live_accesses.Given as goal

abbrev pub decreases-live_accesses : goal.decreases-live_accesses
decreases-live_accesses l = length l.older.now
