use Rattle.ecoff_load.proofs.Exact.{same_object}
use Rattle.ecoff_load.proofs.reading.one_image.Goals as goal

pub returns : goal.returns
returns c = same_object
