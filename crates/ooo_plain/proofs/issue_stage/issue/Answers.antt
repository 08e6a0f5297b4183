use Rattle.ooo_table.specs.References.{store_references}
use Rattle.ooo_table.specs.Machine.{setting_of}
use Rattle.ooo_plain.proofs.issue_stage.issue.Goals as goal

pub returns-clause-issues : goal.returns-clause-issues
returns-clause-issues c = λ g t e k none s.
    (c.issue_from.ensures.swept g (store_references (setting_of g) c.args.cycle t.rows t.references) t.rows e (c.of-held.ensures (setting_of g) t.rows k)).sweep t.rows k none s
