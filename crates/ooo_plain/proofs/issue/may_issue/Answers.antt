use Rattle.ooo_plain.proofs.Issues.{may_issue_by}
use Rattle.ooo_plain.proofs.issue.may_issue.Goals as goal

pub returns : goal.returns
returns c = λ set olds r e k i.
    may_issue_by set c.args.cycle c.args.config.now c.args.older.now olds c.args.row.now r e k i c.either-path.result c.live_rows_issued-order.result c.either.result c.both.result
    c.either-path.ensures c.live_rows_issued-order.ensures c.either.ensures c.both.ensures
