use Rattle.spec_state.proofs.Paths.{reads_along}
use Rattle.spec_state.proofs.laws.wrong_paths_read_as_copies.Goals as goal

pub returns : goal.returns
returns c = reads_along
