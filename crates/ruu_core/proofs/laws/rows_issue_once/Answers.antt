use Rattle.ruu_core.proofs.LawProofs.{issues_once}
use Rattle.ruu_core.proofs.laws.rows_issue_once.Goals as goal

pub returns : goal.returns
returns c = issues_once
