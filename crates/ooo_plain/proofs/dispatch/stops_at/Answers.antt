use Rattle.ooo_plain.proofs.Untils.{stops_by}
use Rattle.ooo_plain.proofs.dispatch.stops_at.Goals as goal

pub returns : goal.returns
returns c = λ set olds r k i.
    stops_by set c.args.cycle c.args.row.now olds r i c.is_first-first.result c.both.result c.both-2.result c.live_rows-empty.result
    (c.is_first-first.ensures set olds r k i) (c.live_rows-empty.ensures.count set olds k) c.both.ensures c.both-2.ensures
