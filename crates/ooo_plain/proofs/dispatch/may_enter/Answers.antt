use Rattle.ooo_plain.proofs.Dispatches.{enter_right, enter_wrong}
use Rattle.ooo_plain.proofs.dispatch.may_enter.Goals as goal

pub returns-then-row : goal.returns-then-row
returns-then-row c = λ set olds r k i.
    enter_right set c.args.older.now olds c.args.row.now r k i c.if-row.true c.either.result c.both.result c.live_rows-empty.result (c.live_rows-empty.ensures.count set olds k) c.either.ensures c.both.ensures

pub returns-else-row : goal.returns-else-row
returns-else-row c = λ set olds r k i. enter_wrong set olds c.args.row.now r i c.if-row.false
