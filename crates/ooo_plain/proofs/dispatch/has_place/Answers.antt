use Rattle.ooo_plain.proofs.Dispatches.{place_by}
use Rattle.ooo_plain.proofs.dispatch.has_place.Goals as goal

pub returns : goal.returns
returns c = λ set olds r e k i.
    place_by set c.args.config.now c.args.older.now olds c.args.row.now r e k i c.uses_memory.result c.either.result c.both.result c.live_rows.result c.live_accesses.result
    (c.live_rows.ensures.count set olds k) (c.live_accesses.ensures.count set olds k) c.uses_memory.ensures c.either.ensures c.both.ensures
