use Rattle.std.proofs.Common.{length}
use Rattle.ooo_plain.proofs.references.+refer_stores.Given as goal

abbrev pub decreases-refer_stores : goal.decreases-refer_stores
decreases-refer_stores l = length l.rows.now
