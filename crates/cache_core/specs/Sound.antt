-- What is true of the fields of every cache, and what they show of it.
use Rattle.std.specs.Prelude.{◌≡◌, ℕ, ◌*◌, ◌<◌, List, length, map}
use Rattle.std.specs.List.{range_with_len}
use Rattle.cache_core.specs.declared.config.CacheConfig.{CacheConfig}
use Rattle.cache_core.specs.declared.answers.Counts.{Counts}
use Rattle.cache_core.specs.declared.ways.Way.{Way}
use Rattle.cache_core.specs.Limits.{IsWithinLimits}
use Rattle.cache_core.specs.Replay.{Line}
use Rattle.cache_core.specs.Stands.{Held, IsBalanced}
use Rattle.cache_core.specs.Ways.{newest_first, ways_of, IsSoundSet}

-- the fields of a cache
pub record Fields : Type 0 where
  pub config : CacheConfig
  pub ways : List Way
  pub counts : Counts

-- the lines of set k that they show
abbrev pub lines_in : Fields → ℕ → List Line
lines_in f k = newest_first f.counts.accesses (ways_of f.config f.ways k)

-- what they show: the lines of each set
abbrev pub shown : Fields → Held
shown f = record { config = f.config; sets = map (lines_in f) (range_with_len 0 f.config.sets); counts = f.counts }

pub record IsSound (f : Fields) : Type 0 where
  pub limits : IsWithinLimits f.config
  pub number : length f.ways ≡ f.config.sets * f.config.ways
  pub sets : (k : ℕ) → k < f.config.sets → IsSoundSet f.config f.counts.accesses (ways_of f.config f.ways k)
  pub counts : IsBalanced f.counts
