use Rattle.std.proofs.Common.{◌∙◌, ap}
use Rattle.std.specs.Prelude.{◌||◌}
use Rattle.lsq_core.proofs.Walks.{held_next, none_held}
use Rattle.lsq_core.proofs.tests.is_among.Goals as goal

pub loop-at-init : goal.loop-at-init
loop-at-init c = none_held c.args.store c.args.row

pub loop-at-preserved : goal.loop-at-preserved
loop-at-preserved c =
    held_next c.args.store c.args.row c.loop-at.at c.loop-at.held c.either-held.result c.args.slots.now.items c.slot_at-slot.result c.slot_at-slot.ensures c.loop-at.invariant
    (c.either-held.ensures ∙ ap (λ b. b || c.loop-at.held) c.is_held.ensures)
