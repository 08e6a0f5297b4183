use Rattle.std.proofs.Common.{take}
use Rattle.journal.specs.View.{Wrote}
use Rattle.sim_watch.specs.Watch.{puts_of}
use Rattle.sim_watch.proofs.watch.emit.Given as goal

abbrev pub invariant-loop-block : goal.invariant-loop-block
invariant-loop-block g l = Wrote g.O.Outside.view l.fn.outside (puts_of (take l.block-index l.blocks)) l.outside
