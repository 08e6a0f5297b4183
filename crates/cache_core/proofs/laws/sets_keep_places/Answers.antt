use Rattle.cache_core.proofs.LawProofs.{places_kept}
use Rattle.cache_core.proofs.laws.sets_keep_places.Goals as goal

pub returns : goal.returns
returns c = places_kept
