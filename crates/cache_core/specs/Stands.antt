-- What a cache holds, and the calls that it stands for.
use Rattle.std.specs.Prelude.{◌≡◌, ℕ, ◌+◌, ◌<◌, ◌≤◌, List, [], slice_index_or, IsSome}
use Rattle.cache_core.specs.declared.config.CacheConfig.{CacheConfig}
use Rattle.cache_core.specs.declared.answers.Counts.{Counts}
use Rattle.cache_core.specs.Replay.{Line, Call, block_of, set_of, find_line, lines_of, counts_of}

-- a cache: its shape, the lines of each set, the newest first, and its counts
pub record Held : Type 0 where
  pub config : CacheConfig
  pub sets : List (List Line)
  pub counts : Counts

abbrev pub set_at : List (List Line) → ℕ → List Line
set_at sets k = slice_index_or sets k []

-- The cache stands for these calls, the newest first: each set has the lines of their replay, and the counts are theirs.
pub record StandsFor (v : Held) (c : CacheConfig) (h : List Call) : Type 0 where
  pub config : v.config ≡ c
  pub lines : (k : ℕ) → k < c.sets → set_at v.sets k ≡ lines_of c k h
  pub counts : v.counts ≡ counts_of c h

-- how many accesses the cache has had
abbrev pub accesses_of : Held → ℕ
accesses_of v = v.counts.accesses

-- the cache holds the block of this address
abbrev pub Holds : Held → ℕ → Type 0
Holds v addr = let b = block_of v.config addr in IsSome (find_line b (set_at v.sets (set_of v.config b)))

-- every access is a hit or a miss, only a miss replaces, and only a replacement writes back
pub record IsBalanced (n : Counts) : Type 0 where
  pub accesses : n.hits + n.misses ≡ n.accesses
  pub misses : n.replacements ≤ n.misses
  pub replacements : n.writebacks ≤ n.replacements
