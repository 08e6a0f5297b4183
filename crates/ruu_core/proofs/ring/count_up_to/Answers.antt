use Rattle.std.proofs.Common.{◌≡◌, ◌+◌, cond, arith}
use Rattle.std.specs.Prelude.{nat_le}
use Rattle.std.proofs.lemmas.Bool.Decides.{nat_tests}
use Rattle.ruu_core.proofs.Walks.{count_next}
use Rattle.ruu_core.proofs.ring.count_up_to.Goals as goal
use Rattle.ruu_core.proofs.ring.count_up_to.Goals.{then-slot_at-row, else-slot_at-row}

pub loop-at-preserved : goal.loop-at-preserved
loop-at-preserved c =
    let is : c.if-slot_at-row.count ≡ cond (nat_le c.slot_at.result.now.station.row c.args.row) (c.loop-at.at + 1) c.loop-at.count =
    elim c.if-slot_at-row.branch [ then-slot_at-row w ↦ grind (arith, nat_tests) | else-slot_at-row w ↦ grind (arith, nat_tests) ] in
    count_next c.args.row c.loop-at.at c.loop-at.count c.if-slot_at-row.count c.args.slots.now.items c.slot_at.result.now c.slot_at.ensures c.loop-at.invariant.0 c.loop-at.invariant.1 is
