-- The sizes that a cache may have.
use Rattle.std.specs.Prelude.{◌*◌, ◌≤◌, IsTrue}
use Rattle.std.specs.Int.{is_power_of_two}
use Rattle.cache_core.specs.declared.config.CacheConfig.{CacheConfig}

-- sets and bytes of a block are powers of two, and sets, block, ways and lines have their limits
pub record IsWithinLimits (c : CacheConfig) : Type 0 where
  pub sets : IsTrue (is_power_of_two c.sets)
  pub most_sets : c.sets ≤ 65536
  pub block : IsTrue (is_power_of_two c.block)
  pub least_block : 8 ≤ c.block
  pub most_block : c.block ≤ 65536
  pub least_ways : 1 ≤ c.ways
  pub most_ways : c.ways ≤ 64
  pub most_lines : c.sets * c.ways ≤ 1048576
