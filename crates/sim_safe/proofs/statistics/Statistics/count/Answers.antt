use Rattle.std.proofs.Common.{◌∙◌}
use Rattle.sim_safe.proofs.Counts.{counted_exactly}
use Rattle.sim_safe.proofs.statistics.Statistics.count.Goals as goal

pub returns-clause-exact : goal.returns-clause-exact
returns-clause-exact c = λ h. c.with.ensures ∙ counted_exactly c.args.i.now c.args.self.now h
