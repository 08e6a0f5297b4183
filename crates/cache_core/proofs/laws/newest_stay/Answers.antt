use Rattle.cache_core.proofs.Newest.{replacing}
use Rattle.cache_core.proofs.laws.newest_stay.Goals as goal

pub returns : goal.returns
returns c = replacing
