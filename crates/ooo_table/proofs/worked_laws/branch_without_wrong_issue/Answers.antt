use Rattle.ooo_table.proofs.BranchWithoutWrongIssue.{shows}
use Rattle.ooo_table.proofs.worked_laws.branch_without_wrong_issue.Goals as goal

pub returns : goal.returns
returns c = shows
