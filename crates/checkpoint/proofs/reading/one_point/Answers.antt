use Rattle.checkpoint.proofs.WholePoint.{same_point}
use Rattle.checkpoint.proofs.reading.one_point.Goals as goal

pub returns : goal.returns
returns c = same_point
