use Rattle.std.proofs.Common.{◌≡◌, cond, arith}
use Rattle.std.specs.Prelude.{nat_eq}
use Rattle.std.proofs.lemmas.Bool.Decides.{nat_tests}
use Rattle.lsq_core.proofs.Walks.{block_next}
use Rattle.lsq_core.proofs.slots.block_of.Goals as goal
use Rattle.lsq_core.proofs.slots.block_of.Goals.{then-slot-row, else-slot-row}

pub loop-at-preserved : goal.loop-at-preserved
loop-at-preserved c =
    let is : c.if-slot-row.block ≡ cond (nat_eq c.slot_at-slot.result.row c.args.row) c.slot_at-slot.result.block c.loop-at.block =
    elim c.if-slot-row.branch [ then-slot-row w ↦ grind (arith, nat_tests) | else-slot-row w ↦ grind (arith, nat_tests) ] in
    block_next c.args.row c.loop-at.block c.if-slot-row.block c.loop-at.at c.args.slots.now.items c.slot_at-slot.result c.slot_at-slot.ensures c.loop-at.invariant is
