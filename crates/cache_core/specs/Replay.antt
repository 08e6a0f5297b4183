-- One cache, replayed from the calls that it got, the newest first.
use Rattle.std.specs.Prelude.{ℕ, ◌+◌, ◌-◌, ◌*◌, ◌/◌, ◌%◌, Bool, true, false, not, List, [], ◌∷◌, Option, Some, None, is_some, ◌==◌, ◌||◌, if◌then◌else◌, slice_get, take, find, map}
use Rattle.std.specs.Option.{option_map, option_map_or}
use Rattle.cache_core.specs.declared.config.CacheConfig.{CacheConfig}
use Rattle.cache_core.specs.declared.answers.Touch.{Touch}
use Rattle.cache_core.specs.declared.answers.Victim.{Victim}
use Rattle.cache_core.specs.declared.answers.Counts.{Counts}

-- a call that may change a cache: a reference with its address and whether it writes, the fill end of an address's
-- block, and the settling of all fill ends
pub data Call : Type 0 where
  Access : ℕ → Bool → Call
  Fill : ℕ → ℕ → Call
  Settle : Call

-- what is known of a block that a set holds: its number, whether it was written since it came in, and its fill end
pub record Line : Type 0 where
  pub block : ℕ
  pub dirty : Bool
  pub fill_end : ℕ

-- a block is numbered by the addresses divided by its bytes, and lies in the set that this number gives
abbrev pub block_of : CacheConfig → ℕ → ℕ
block_of c addr = addr / c.block

abbrev pub set_of : CacheConfig → ℕ → ℕ
set_of c b = b % c.sets

-- what is known of block b, None exactly where it isn't held
abbrev pub find_line : ℕ → List Line → Option Line
find_line b lines = find (λ l. l.block == b) lines

-- all lines but the one of block b, in their order
abbrev pub removed : ℕ → List Line → List Line
removed b [] = []
removed b (l ∷ lines) = if l.block == b then lines else l ∷ removed b lines

-- the lines with the one of the block changed where it stands
abbrev pub changed : ℕ → (Line → Line) → List Line → List Line
changed b f [] = []
changed b f (l ∷ lines) = if l.block == b then f l ∷ lines else l ∷ changed b f lines

-- a line is dirty from its first write on
abbrev pub with_dirty : Bool → Line → Line
with_dirty write l = record l { dirty = l.dirty || write }

abbrev pub ending_at : ℕ → Line → Line
ending_at end l = record l { fill_end = end }

-- the line of a block that comes in
abbrev pub entering : ℕ → Bool → Line
entering b write = record { block = b; dirty = write; fill_end = 0 }

-- what is told of a line that leaves: its block's first address, and whether it is dirty
abbrev pub victim_of : CacheConfig → Line → Victim
victim_of c l = record { addr = l.block * c.block; dirty = l.dirty }

-- what an access does to the lines of a set, the newest first: its answer, and the lines then
pub record SetTouch : Type 0 where
  pub touch : Touch
  pub lines : List Line

-- A hit marks the block's line. Where the first in leaves first, the line keeps its place; where the least recently
-- used leaves first, it comes to the front. A miss lets the line of the last way leave, if there is one, and the block
-- enters at the front, dirty exactly where the access is a write.
abbrev pub touched_at : CacheConfig → List Line → ℕ → Bool → Option Line → SetTouch
touched_at c lines b write (Some l) =
    record {
      touch = record { hit = true; victim = None };
      lines = if c.fifo then changed b (with_dirty write) lines else with_dirty write l ∷ removed b lines;
    }
touched_at c lines b write None =
    record {
      touch = record { hit = false; victim = option_map (victim_of c) (slice_get lines (c.ways - 1)) };
      lines = entering b write ∷ take (c.ways - 1) lines;
    }

unfoldable pub touched : CacheConfig → List Line → ℕ → Bool → SetTouch
touched c lines b write = touched_at c lines b write (find_line b lines)

-- the lines of set k after these calls
unfoldable pub lines_of : CacheConfig → ℕ → List Call → List Line
lines_of c k [] = []
lines_of c k (Access addr write ∷ h) =
    if set_of c (block_of c addr) == k then (touched c (lines_of c k h) (block_of c addr) write).lines else lines_of c k h
lines_of c k (Fill addr end ∷ h) =
    if set_of c (block_of c addr) == k then changed (block_of c addr) (ending_at end) (lines_of c k h) else lines_of c k h
lines_of c k (Settle ∷ h) = map (ending_at 0) (lines_of c k h)

-- what an access answers after these calls
unfoldable pub touch_of : CacheConfig → List Call → ℕ → Bool → Touch
touch_of c h addr write = (touched c (lines_of c (set_of c (block_of c addr)) h) (block_of c addr) write).touch

-- the line of a block after these calls, None exactly where the block isn't held
unfoldable pub line_at : CacheConfig → List Call → ℕ → Option Line
line_at c h b = find_line b (lines_of c (set_of c b) h)

-- the fill end of a block after these calls, 0 where the block isn't held
abbrev pub fill_end_of : CacheConfig → List Call → ℕ → ℕ
fill_end_of c h b = option_map_or (λ l. l.fill_end) (line_at c h b) 0

-- how many accesses among these calls had an answer that passes the test
unfoldable pub number_of : (Touch → Bool) → CacheConfig → List Call → ℕ
number_of test c [] = 0
number_of test c (Access addr write ∷ h) = number_of test c h + (if test (touch_of c h addr write) then 1 else 0)
number_of test c (Fill addr end ∷ h) = number_of test c h
number_of test c (Settle ∷ h) = number_of test c h

abbrev pub replaces : Touch → Bool
replaces t = is_some t.victim

abbrev pub writes_back : Touch → Bool
writes_back t = option_map_or (λ v. v.dirty) t.victim false

-- the counts over all of these calls
abbrev pub counts_of : CacheConfig → List Call → Counts
counts_of c h =
    record {
      accesses = number_of (λ t. true) c h;
      hits = number_of (λ t. t.hit) c h;
      misses = number_of (λ t. not t.hit) c h;
      replacements = number_of replaces c h;
      writebacks = number_of writes_back c h;
    }
