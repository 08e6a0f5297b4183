use Rattle.cache_core.proofs.LawProofs.{fill_ends_kept}
use Rattle.cache_core.proofs.laws.fill_ends_stay.Goals as goal

pub returns : goal.returns
returns c = fill_ends_kept
