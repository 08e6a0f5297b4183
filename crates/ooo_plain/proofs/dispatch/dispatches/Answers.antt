use Rattle.ooo_plain.proofs.Dispatches.{dispatches_by}
use Rattle.ooo_plain.proofs.dispatch.dispatches.Goals as goal

pub returns : goal.returns
returns c = λ set olds r e k i.
    dispatches_by set c.args.cycle c.args.config.now c.args.older.now olds r e k
    c.is_first-first.result c.both.result c.has_place-place.result c.both-2.result c.may_enter-enters.result c.both-fits.result c.call_dispatched_at-call.result c.both-3.result c.exit_dispatched-exit.result c.both-4.result c.dispatched_at.result
    (c.is_first-first.ensures set olds r k i) c.dispatched_at.ensures c.both.ensures (c.has_place-place.ensures set olds r e k i) c.both-2.ensures (c.may_enter-enters.ensures set olds r k i) c.both-fits.ensures c.call_dispatched_at-call.ensures c.both-3.ensures c.exit_dispatched-exit.ensures c.both-4.ensures
