use Rattle.cache_core.proofs.Replays.{stands_new}
use Rattle.cache_core.proofs.Parts.{sound_new}
use Rattle.cache_core.proofs.caches.Cache.new.Goals as goal

pub invariant_of-result : goal.invariant_of-result
invariant_of-result c = sound_new _ _ _ c.requires c.in_ok-unused_ways.ensures c.new.ensures

pub returns-clause-stands : goal.returns-clause-stands
returns-clause-stands c = stands_new _ c.new.ensures
