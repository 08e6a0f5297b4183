use Rattle.std.proofs.Common.{◌-◌, length}
use Rattle.ooo_plain.proofs.dispatch.+dispatch_from.Given as goal

abbrev pub decreases-dispatch_from : goal.decreases-dispatch_from
decreases-dispatch_from l = length l.rows.now - l.at
