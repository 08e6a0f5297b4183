use Rattle.std.proofs.Common.{drop, ap, ◌∙◌}
use Rattle.checkpoint.proofs.taking.registers.Goals as goal

pub returns-clause-same : goal.returns-clause-same
returns-clause-same c = c.behind_zero.ensures.same ∙ ap (drop 1) c.registers-all.ensures.all
