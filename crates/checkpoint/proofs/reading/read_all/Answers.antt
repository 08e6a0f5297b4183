use Rattle.std.proofs.Common.{arith}
use Rattle.checkpoint.proofs.WholePoint.{parts_fit}
use Rattle.checkpoint.proofs.reading.read_all.Goals as goal

pub joined-requires-clause-head : goal.joined-requires-clause-head
joined-requires-clause-head c =
    (parts_fit c.args.bytes.now c.in_ok-start.start.head c.in_ok-start.start.count c.in_ok-start.rest.now c.in_ok-pages.pages.items c.in_ok-pages.rest.now (λ i. omega (arith, c.type_inv.bytes i)) c.in_ok-start.ensures c.in_ok-pages.ensures).0

pub joined-requires-clause-pages : goal.joined-requires-clause-pages
joined-requires-clause-pages c =
    (parts_fit c.args.bytes.now c.in_ok-start.start.head c.in_ok-start.start.count c.in_ok-start.rest.now c.in_ok-pages.pages.items c.in_ok-pages.rest.now (λ i. omega (arith, c.type_inv.bytes i)) c.in_ok-start.ensures c.in_ok-pages.ensures).1
