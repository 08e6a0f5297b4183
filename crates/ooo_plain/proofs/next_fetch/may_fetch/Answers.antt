use Rattle.ooo_plain.proofs.NextFetches.{may_by}
use Rattle.ooo_plain.proofs.next_fetch.may_fetch.Goals as goal

pub returns : goal.returns
returns c = λ set t e k i.
    may_by set c.args.cycle c.args.config.now t c.args.next.now e i c.waiting_rows.result c.both.result (c.waiting_rows.ensures.count set t.rows k) c.both.ensures
