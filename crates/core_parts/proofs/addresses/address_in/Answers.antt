use Rattle.std.proofs.Common.{◌≡◌, cond, arith}
use Rattle.std.specs.Prelude.{nat_eq}
use Rattle.std.proofs.lemmas.Bool.Decides.{nat_tests}
use Rattle.core_parts.proofs.Walks.{address_next}
use Rattle.core_parts.proofs.addresses.address_in.Goals as goal
use Rattle.core_parts.proofs.addresses.address_in.Goals.{then-held-row, else-held-row}

pub loop-at-preserved : goal.loop-at-preserved
loop-at-preserved c =
    let is : c.if-held-row.addr ≡ cond (nat_eq c.row_at-held.result.row c.args.row) c.row_at-held.result.addr c.loop-at.addr =
    elim c.if-held-row.branch [ then-held-row w ↦ grind (arith, nat_tests) | else-held-row w ↦ grind (arith, nat_tests) ] in
    address_next c.args.row c.loop-at.addr c.if-held-row.addr c.loop-at.at c.args.ring.now.items c.row_at-held.result c.row_at-held.ensures c.loop-at.invariant is
