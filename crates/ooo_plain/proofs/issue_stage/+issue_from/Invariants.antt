use Rattle.std.proofs.Common.{◌-◌, length}
use Rattle.ooo_plain.proofs.issue_stage.+issue_from.Given as goal

abbrev pub decreases-issue_from : goal.decreases-issue_from
decreases-issue_from l = length l.rows.now - l.at
