use Rattle.std.specs.Prelude.{◌&&◌}
use Rattle.std.proofs.Common.{◌∙◌, sym, ap}
use Rattle.mem_hier.specs.Replay.{Store}
use Rattle.ooo_table.specs.References.{store_references}
use Rattle.ooo_table.specs.Machine.{setting_of}
use Rattle.ooo_plain.proofs.Told.{store_more, store_same, stands_as}
use Rattle.ooo_plain.proofs.references.refer_store.Goals as goal

pub returns-then-commits-clause-stands : goal.returns-then-commits-clause-stands
returns-then-commits-clause-stands c = λ g r olds h i s.
    stands_as _ g.hier _ _ (sym (store_more (setting_of g) c.args.cycle c.args.row.now r olds h i c.both-commits.result (c.both-commits.ensures ∙ ap (λ b. c.args.row.now.store && b) c.is_at.ensures) c.if-commits.true))
    (c.store.ensures.stands g.hier (store_references (setting_of g) c.args.cycle olds h) s)

pub returns-else-commits-clause-stands : goal.returns-else-commits-clause-stands
returns-else-commits-clause-stands c = λ g r olds h i s.
    stands_as _ g.hier _ _ (sym (store_same (setting_of g) c.args.cycle c.args.row.now r olds h i c.both-commits.result (c.both-commits.ensures ∙ ap (λ b. c.args.row.now.store && b) c.is_at.ensures) c.if-commits.false)) s
