use Rattle.std.proofs.Common.{arith}
use Rattle.lsq_core.proofs.Places.{learned_there, learned_nowhere}
use Rattle.lsq_core.proofs.slots.learn.Goals as goal

pub returns-then-at-len : goal.returns-then-at-len
returns-then-at-len c =
    learned_there c.args.row c.args.cycle c.args.part c.args.slots.now c.learn_at.new.slots c.place_of-at.result c.requires c.place_of-at.ensures (omega arith) c.learn_at.ensures

pub returns-else-at-len : goal.returns-else-at-len
returns-else-at-len c = learned_nowhere c.args.row c.args.cycle c.args.part c.args.slots.now c.place_of-at.result c.place_of-at.ensures (omega arith)
