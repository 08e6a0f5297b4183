use Rattle.core_recovery.proofs.Named.{recovers_at}
use Rattle.core_recovery.proofs.row.recovering.Goals as goal

pub returns-clause-stands : goal.returns-clause-stands
returns-clause-stands c = recovers_at c.args.cycle c.args.parts.now c.least_recovering.result c.least_recovering.ensures
