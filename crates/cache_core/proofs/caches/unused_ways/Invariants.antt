use Rattle.std.proofs.Common.{◌≡◌, List, replicate}
use Rattle.cache_core.specs.declared.ways.Way.{Way}
use Rattle.cache_core.specs.Ways.{unused}
use Rattle.cache_core.proofs.caches.unused_ways.Given as goal

abbrev pub invariant-loop-k : goal.invariant-loop-k
invariant-loop-k l = ◌≡◌ {A = List Way} l.ways.items (replicate l._k unused)
