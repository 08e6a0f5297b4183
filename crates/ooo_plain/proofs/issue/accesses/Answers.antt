use Rattle.std.proofs.Common.{◌+◌, ◌∙◌, ap}
use Rattle.ooo_table.specs.Done.{have_produced}
use Rattle.ooo_plain.proofs.Issues.{accesses_by}
use Rattle.ooo_plain.proofs.issue.accesses.Goals as goal

pub returns : goal.returns
returns c = λ set start olds r e h k i.
    accesses_by set c.args.cycle c.args.config.now c.args.older.now start olds c.args.row.now r e k i
    c.is_unset.result c.both.result c.is_unset-2.result c.both-fresh.result c.is_written_before.result c.both-written.result c.have_produced-ready.result c.both-2.result c.is_clear-clear.result c.both-3.result c.both-4.result c.has_unit-port.result c.both-5.result c.issued_at.result
    c.is_unset.ensures c.both.ensures c.is_unset-2.ensures c.both-fresh.ensures c.is_written_before.ensures c.both-written.ensures (c.have_produced-ready.ensures set olds r k (ap (λ x. x.dispatched) i) ∙ ap (λ l. have_produced set (c.args.cycle + 1) olds r l) c.as_slice.ensures) c.both-2.ensures (c.is_clear-clear.ensures set olds r k i) c.both-3.ensures c.issued_at.ensures c.both-4.ensures (c.has_unit-port.ensures set start olds e h.ports k) c.both-5.ensures
