use Rattle.std.proofs.Common.{◌∙◌, sym, ap, refl}
use Rattle.ooo_table.specs.References.{load_references}
use Rattle.ooo_table.specs.Machine.{setting_of}
use Rattle.ooo_plain.proofs.IssueTurns.{access_left}
use Rattle.ooo_plain.proofs.issue_stage.access.Goals as goal

pub returns-clause-left : goal.returns-clause-left
returns-clause-left c = λ g base olds r k s.
    access_left g c.args.cycle base c.args.at c.args.rows.now _ c.args.hier.now c.wait-taken.new.hier c.index-all-at.result c.index-rows-at.result olds r
    c.requires.at c.index-all-at.is k c.is_forwarded-forwarded.result c.wait-taken.result c.index-all-at.result.address
    (λ xs x j i. c.is_forwarded-forwarded.ensures (setting_of g) xs x j i) refl (c.wait-taken.ensures.latency g (load_references (setting_of g) c.args.cycle olds base) s)
    refl (c.wait-taken.ensures.stands g (load_references (setting_of g) c.args.cycle olds base) s)
