use Rattle.ooo_table.proofs.Rules.{rules_at}
use Rattle.ooo_table.proofs.laws.issue_keeps_its_rules.Goals as goal

pub returns : goal.returns
returns c = rules_at
