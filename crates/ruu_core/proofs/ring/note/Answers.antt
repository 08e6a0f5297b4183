use Rattle.std.proofs.Common.{arith}
use Rattle.ruu_core.specs.Slots.{slot_after}
use Rattle.ruu_core.proofs.Walks.{step_all}
use Rattle.ruu_core.proofs.ring.note.Goals as goal

pub loop-at-preserved : goal.loop-at-preserved
loop-at-preserved c =
    step_all (slot_after c.args.event.now) c.args.slots.now c.loop-at.slots c.note_at.new.slots c.loop-at.at (omega arith) c.loop-at.invariant c.note_at.ensures
