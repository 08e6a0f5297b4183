use Rattle.ooo_plain.proofs.Dispatches.{first_by}
use Rattle.ooo_plain.proofs.dispatch.is_first.Goals as goal

pub returns : goal.returns
returns c = λ set olds r k i.
    first_by set c.args.cycle c.args.older.now olds c.args.row.now r k i c.is_waiting.result c.both.result c.none_waits.result c.both-2.result c.is_waiting.ensures c.both.ensures c.none_waits.ensures c.both-2.ensures
