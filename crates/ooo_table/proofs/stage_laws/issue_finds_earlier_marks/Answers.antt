use Rattle.ooo_table.proofs.Stages.{before_issue}
use Rattle.ooo_table.proofs.stage_laws.issue_finds_earlier_marks.Goals as goal

pub returns : goal.returns
returns c = before_issue
