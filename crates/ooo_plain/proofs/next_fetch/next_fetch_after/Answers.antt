use Rattle.ooo_plain.proofs.NextFetches.{after_by}
use Rattle.ooo_plain.proofs.next_fetch.next_fetch_after.Goals as goal

pub returns : goal.returns
returns c = λ set r i.
    after_by set c.args.cycle c.args.row.now r i c.keeps_fetching-keeps.result c.both-goes_on.result c.both.result c.earliest.result
    (c.keeps_fetching-keeps.ensures set r i) c.earliest.ensures c.both-goes_on.ensures c.both.ensures
