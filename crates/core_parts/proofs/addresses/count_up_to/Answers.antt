use Rattle.std.proofs.Common.{◌≡◌, ◌+◌, cond, arith}
use Rattle.std.specs.Prelude.{nat_le}
use Rattle.std.proofs.lemmas.Bool.Decides.{nat_tests}
use Rattle.core_parts.proofs.Walks.{count_next}
use Rattle.core_parts.proofs.addresses.count_up_to.Goals as goal
use Rattle.core_parts.proofs.addresses.count_up_to.Goals.{then-row_at-row, else-row_at-row}

pub loop-at-preserved : goal.loop-at-preserved
loop-at-preserved c =
    let is : c.if-row_at-row.count ≡ cond (nat_le c.row_at.result.row c.args.row) (c.loop-at.at + 1) c.loop-at.count =
    elim c.if-row_at-row.branch [ then-row_at-row w ↦ grind (arith, nat_tests) | else-row_at-row w ↦ grind (arith, nat_tests) ] in
    count_next c.args.row c.loop-at.at c.loop-at.count c.if-row_at-row.count c.args.ring.now.items c.row_at.result c.row_at.ensures c.loop-at.invariant.0 c.loop-at.invariant.1 is
