use Rattle.std.proofs.Common.{◌+◌, ◌∙◌, ap}
use Rattle.ooo_table.specs.Done.{have_produced}
use Rattle.ooo_plain.proofs.Issues.{issues_by}
use Rattle.ooo_plain.proofs.issue.issues.Goals as goal

pub returns : goal.returns
returns c = λ set start olds r e h k i.
    issues_by set c.args.cycle c.args.config.now c.args.older.now start olds c.args.row.now r e k i
    c.is_before-dispatched.result c.is_unset.result c.both.result c.is_unset-2.result c.both-fresh.result c.may_issue.result c.both-may.result c.have_produced-ready.result c.both-2.result c.both-3.result c.has_unit_for-unit.result c.both-4.result c.issued_at.result
    c.is_before-dispatched.ensures c.is_unset.ensures c.both.ensures c.is_unset-2.ensures c.both-fresh.ensures (c.may_issue.ensures set olds r e k i) c.both-may.ensures (c.have_produced-ready.ensures set olds r k (ap (λ x. x.dispatched) i) ∙ ap (λ l. have_produced set (c.args.cycle + 1) olds r l) c.as_slice.ensures) c.both-2.ensures c.issued_at.ensures c.both-3.ensures (c.has_unit_for-unit.ensures set start olds e h k) c.both-4.ensures
