use Rattle.std.proofs.Common.{◌-◌, length}
use Rattle.ooo_plain.proofs.recover.+squash_from.Given as goal

abbrev pub decreases-squash_from : goal.decreases-squash_from
decreases-squash_from l = length l.rows.now - l.at
