use Rattle.checkpoint.proofs.Fitting.{fit_exactly}
use Rattle.checkpoint.proofs.laws.checks_are_exact.Goals as goal

pub returns : goal.returns
returns c = fit_exactly
