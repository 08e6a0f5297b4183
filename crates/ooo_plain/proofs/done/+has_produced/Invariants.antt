use Rattle.std.proofs.Common.{length}
use Rattle.ooo_plain.proofs.done.+has_produced.Given as goal

abbrev pub decreases-has_produced : goal.decreases-has_produced
decreases-has_produced l = length l.older.now
