use Rattle.std.proofs.Common.{◌≡◌, ◌++◌, map, take, drop}
use Rattle.cache_core.specs.Ways.{ended}
use Rattle.cache_core.proofs.caches.Cache.settle.Given as goal

abbrev pub invariant-loop-way : goal.invariant-loop-way
invariant-loop-way l = l.way-items ≡ map (ended 0) (take l.way-index l.initial.way-items) ++ drop l.way-index l.initial.way-items
