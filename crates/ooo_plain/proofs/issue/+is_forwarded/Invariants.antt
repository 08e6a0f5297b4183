use Rattle.std.proofs.Common.{length}
use Rattle.ooo_plain.proofs.issue.+is_forwarded.Given as goal

abbrev pub decreases-is_forwarded : goal.decreases-is_forwarded
decreases-is_forwarded l = length l.older.now
