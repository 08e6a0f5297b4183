use Rattle.std.specs.Prelude.{◌&&◌}
use Rattle.std.proofs.Common.{◌∙◌, sym, ap}
use Rattle.ooo_table.specs.Machine.{setting_of}
use Rattle.ooo_table.specs.References.{updates_of}
use Rattle.ooo_plain.proofs.Updated.{update_more, update_same, stands_as}
use Rattle.ooo_plain.proofs.updates.update.Goals as goal

pub returns-then-told-clause-stands : goal.returns-then-told-clause-stands
returns-then-told-clause-stands c = λ g r olds h i s.
    stands_as _ g.pred _ _ (sym (update_more (setting_of g) c.args.cycle c.args.row.now r olds h i c.both-told.result (c.both-told.ensures ∙ ap (λ b. b && c.args.row.now.control) c.is_at.ensures) c.if-told.true))
    (c.update.ensures.stands g.pred (updates_of (setting_of g) c.args.cycle olds h) s)

pub returns-else-told-clause-stands : goal.returns-else-told-clause-stands
returns-else-told-clause-stands c = λ g r olds h i s.
    stands_as _ g.pred _ _ (sym (update_same (setting_of g) c.args.cycle c.args.row.now r olds h i c.both-told.result (c.both-told.ensures ∙ ap (λ b. b && c.args.row.now.control) c.is_at.ensures) c.if-told.false)) s
