use Rattle.ecoff_load.proofs.Described.{image_of}
use Rattle.ecoff_load.proofs.Exact.{read_as}
use Rattle.ecoff_load.proofs.reading.checks_are_exact.Goals as goal

pub returns : goal.returns
returns c = λ bytes fits. (λ e. image_of bytes fits e, λ is. (read_as bytes is.0 is.1).holds)
