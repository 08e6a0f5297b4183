use Rattle.std.proofs.Common.{◌-◌, length}
use Rattle.ooo_plain.proofs.commit.+commit_from.Given as goal

abbrev pub decreases-commit_from : goal.decreases-commit_from
decreases-commit_from l = length l.rows.now - l.at
