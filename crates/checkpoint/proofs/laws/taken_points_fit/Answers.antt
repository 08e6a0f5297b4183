use Rattle.checkpoint.proofs.Fitting.{taken_fits}
use Rattle.checkpoint.proofs.laws.taken_points_fit.Goals as goal

pub returns : goal.returns
returns c = taken_fits
