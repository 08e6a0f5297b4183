use Rattle.std.proofs.Common.{Some, refl}
use Rattle.ooo_table.specs.Dispatch.{dispatches}
use Rattle.ooo_plain.proofs.Sweeps.{turned, stayed}
use Rattle.ooo_plain.proofs.dispatch.dispatch_turn.Goals as goal

pub returns-then-dispatches : goal.returns-then-dispatches
returns-then-dispatches c = λ set e.
    turned set c.args.at c.args.rows.now _ c.index-all-at.result (dispatches set c.args.cycle) (λ r. record r { dispatched = Some c.args.cycle }) (λ x. record x { dispatched = Some c.args.cycle }) c.dispatches.result c.index-rows-at.result
    c.requires c.index-all-at.is (λ olds r k i. c.dispatches.ensures set olds r e k i) c.if-dispatches.true refl (λ r. refl)

pub returns-else-dispatches : goal.returns-else-dispatches
returns-else-dispatches c = λ set e.
    stayed set c.args.at c.args.rows.now c.index-all-at.result (dispatches set c.args.cycle) (λ r. record r { dispatched = Some c.args.cycle }) c.dispatches.result
    c.requires c.index-all-at.is (λ olds r k i. c.dispatches.ensures set olds r e k i) c.if-dispatches.false
