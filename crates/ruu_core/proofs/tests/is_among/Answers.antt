use Rattle.ruu_core.proofs.Walks.{named_next}
use Rattle.ruu_core.proofs.tests.is_among.Goals as goal

pub loop-at-preserved : goal.loop-at-preserved
loop-at-preserved c = named_next c.args.row c.loop-at.at c.loop-at.among c.either-among.result c.args.slots.now.items c.slot_at.result.now c.slot_at.ensures c.loop-at.invariant c.either-among.ensures
