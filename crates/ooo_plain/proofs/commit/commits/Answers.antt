use Rattle.ooo_plain.proofs.Commits.{commits_by}
use Rattle.ooo_plain.proofs.commit.commits.Goals as goal

pub returns : goal.returns
returns c = λ set olds r e k i.
    commits_by set c.args.cycle c.args.config.now c.args.older.now olds c.args.row.now r e k i
    c.is_unset.result c.both-fresh.result c.is_done_before-done.result c.both.result c.right_rows_committed-in_order.result c.both-ready.result c.both-2.result c.either.result c.both-3.result c.committed_at.result c.stores_committed_at.result
    c.is_unset.ensures c.both-fresh.ensures (c.is_done_before-done.ensures set olds r k i) c.both.ensures c.right_rows_committed-in_order.ensures c.both-ready.ensures c.committed_at.ensures c.both-2.ensures c.stores_committed_at.ensures c.either.ensures c.both-3.ensures
