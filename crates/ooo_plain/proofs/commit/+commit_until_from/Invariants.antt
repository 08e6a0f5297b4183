use Rattle.std.proofs.Common.{◌-◌, length}
use Rattle.ooo_plain.proofs.commit.+commit_until_from.Given as goal

abbrev pub decreases-commit_until_from : goal.decreases-commit_until_from
decreases-commit_until_from l = length l.rows.now - l.at
