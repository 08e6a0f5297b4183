-- The ways of a set, and the lines that they stand for.
use Rattle.std.specs.Prelude.{◌≡◌, ℕ, zero, suc, ◌*◌, ◌^◌, ◌<◌, ◌≤◌, Bool, true, false, ◌||◌, ◌&&◌, not, if◌then◌else◌, ◌==◌, List, [], ◌++◌, Option, Some, None, length, map, filter, take, drop, slice_index_or, All}
use Rattle.cache_core.specs.declared.config.CacheConfig.{CacheConfig}
use Rattle.cache_core.specs.declared.answers.Victim.{Victim}
use Rattle.cache_core.specs.declared.ways.Way.{Way}
use Rattle.cache_core.specs.Replay.{Line, victim_of}

-- a way that holds nothing
abbrev pub unused : Way
unused = record { tag = 0; dirty = false; fill_end = 0; stamp = 0 }

abbrev pub way_at : List Way → ℕ → Way
way_at ways i = slice_index_or ways i unused

-- the way holds this block
abbrev pub holds : ℕ → Way → Bool
holds b w = (w.tag == b) && not (w.stamp == 0)

-- where a block is among ways: at a place that holds it, or at none
abbrev pub IsPlace : ℕ → List Way → Option ℕ → Type 0
IsPlace b ways None = (j : ℕ) → j < length ways → holds b (way_at ways j) ≡ false
IsPlace b ways (Some i) = (i < length ways) × (holds b (way_at ways i) ≡ true)

-- the line of the block that a way holds
abbrev pub line_of : Way → Line
line_of w = record { block = w.tag; dirty = w.dirty; fill_end = w.fill_end }

-- what is told of a way when its block has to leave
abbrev pub told_of : CacheConfig → Way → Option Victim
told_of c w = if w.stamp == 0 then None else Some (victim_of c (line_of w))

-- what each number from n down to 1 gives, one after another
unfoldable pub from_latest : (ℕ → List Line) → ℕ → List Line
from_latest f zero = []
from_latest f (suc n) = f (suc n) ++ from_latest f n

-- the lines of the ways with this stamp
abbrev pub stamped : List Way → ℕ → List Line
stamped ways n = map line_of (filter (λ w. w.stamp == n) ways)

-- The lines of a set after n accesses of its cache, the newest first: those of its ways by their stamps, the latest
-- first. A way with stamp 0 has none.
abbrev pub newest_first : ℕ → List Way → List Line
newest_first n ways = from_latest (stamped ways) n

-- the way of a hit; its stamp is renewed where the least recently used leaves first, and stays where the first in does
abbrev pub renewed : Bool → Bool → ℕ → Way → Way
renewed fifo write n w = record w { dirty = w.dirty || write; stamp = if fifo then w.stamp else n }

-- the way of a block that comes in
abbrev pub entered : ℕ → Bool → ℕ → Way
entered b write n = record { tag = b; dirty = write; fill_end = 0; stamp = n }

abbrev pub ended : ℕ → Way → Way
ended end w = record w { fill_end = end }

-- of two ways that hold blocks neither the stamps nor the tags are the same
pub record AreApart (ways : List Way) : Type 0 where
  pub stamps : (i j : ℕ) → i < length ways → j < length ways → 0 < (way_at ways i).stamp → (way_at ways i).stamp ≡ (way_at ways j).stamp → i ≡ j
  pub tags : (i j : ℕ) → i < length ways → j < length ways → 0 < (way_at ways i).stamp → 0 < (way_at ways j).stamp → (way_at ways i).tag ≡ (way_at ways j).tag → i ≡ j

-- A set after n accesses of its cache: it has as many ways as the shape says, no stamp is later than the last access,
-- each block lies below 2^32, and no two ways hold one block or have one stamp. So a stamp is the number of an access,
-- and never passes the number of accesses.
pub record IsSoundSet (c : CacheConfig) (n : ℕ) (ways : List Way) : Type 0 where
  pub number : length ways ≡ c.ways
  pub stamps : All (λ w. w.stamp ≤ n) ways
  pub space : All (λ w. w.tag * c.block < 2 ^ 32) ways
  pub apart : AreApart ways

-- the ways of set k, among those of all sets, which stand one set after the other
abbrev pub ways_of : CacheConfig → List Way → ℕ → List Way
ways_of c ways k = take c.ways (drop (k * c.ways) ways)
