-- Laws of the replay, in words of their own.
use Rattle.std.specs.Prelude.{◌≡◌, ◌≢◌, ℕ, ◌+◌, ◌≤◌, ◌↔◌, ◌⊎◌, Bool, true, false, not, List, [], ◌∷◌, length, Some, None, IsTrue, IsSome, ◌==◌, if◌then◌else◌, filter, take, map, All}
use Rattle.std.specs.Option.{option_map}
use Rattle.cache_core.specs.declared.config.CacheConfig.{CacheConfig}
use Rattle.cache_core.specs.Replay.{Line, Call, Access, Fill, Settle, block_of, set_of, find_line, with_dirty, ending_at, entering, victim_of, lines_of, touch_of, line_at, fill_end_of, counts_of}
use Rattle.cache_core.specs.Stands.{IsBalanced}

-- how many of the calls are accesses
abbrev pub accesses_in : List Call → ℕ
accesses_in [] = 0
accesses_in (Access addr write ∷ h) = accesses_in h + 1
accesses_in (Fill addr end ∷ h) = accesses_in h
accesses_in (Settle ∷ h) = accesses_in h

abbrev pub CountsBalance : CacheConfig → List Call → Type 0
CountsBalance c h = (accesses_in h ≡ (counts_of c h).accesses) × IsBalanced (counts_of c h)

-- no line is of the block of a line behind it
abbrev pub IsOnce : List Line → Type 0
IsOnce [] = Unit {0}
IsOnce (l ∷ lines) = (find_line l.block lines ≡ None) × IsOnce lines

-- set k has at most as many lines as ways, holds no block twice, and holds blocks of its own alone
pub record KeepsPlaces (c : CacheConfig) (h : List Call) (k : ℕ) : Type 0 where
  pub ways : length (lines_of c k h) ≤ c.ways
  pub once : IsOnce (lines_of c k h)
  pub own : All (λ l. set_of c l.block ≡ k) (lines_of c k h)

-- an access hits exactly where its block is held, and then no block comes or leaves: the one accessed is marked, and
-- every other one has the line that it had
pub record HitKeeps (c : CacheConfig) (h : List Call) (addr : ℕ) (write : Bool) : Type 0 where
  pub victim : (touch_of c h addr write).victim ≡ None
  pub own : line_at c (Access addr write ∷ h) (block_of c addr) ≡ option_map (with_dirty write) (line_at c h (block_of c addr))
  pub others : (x : ℕ) → x ≢ block_of c addr → line_at c (Access addr write ∷ h) x ≡ line_at c h x

-- block x leaves in the access, and is its victim
abbrev pub IsVictim : CacheConfig → List Call → ℕ → Bool → ℕ → Type 0
IsVictim c h addr write x =
    (l : Line) × (line_at c h x ≡ Some l) × ((touch_of c h addr write).victim ≡ Some (victim_of c l)) × (line_at c (Access addr write ∷ h) x ≡ None)

-- a miss brings its block in, and every other block has the line that it had, but for the victim; there is a victim
-- exactly where the set was full
pub record MissBrings (c : CacheConfig) (h : List Call) (addr : ℕ) (write : Bool) : Type 0 where
  pub own : line_at c (Access addr write ∷ h) (block_of c addr) ≡ Some (entering (block_of c addr) write)
  pub others : (x : ℕ) → x ≢ block_of c addr → (line_at c (Access addr write ∷ h) x ≡ line_at c h x) ⊎ IsVictim c h addr write x
  pub full : IsSome (touch_of c h addr write).victim ↔ (length (lines_of c (set_of c (block_of c addr)) h) ≡ c.ways)

pub record AccessKeeps (c : CacheConfig) (h : List Call) (addr : ℕ) (write : Bool) : Type 0 where
  pub held : IsTrue (touch_of c h addr write).hit ↔ IsSome (line_at c h (block_of c addr))
  pub hit : IsTrue (touch_of c h addr write).hit → HitKeeps c h addr write
  pub miss : line_at c h (block_of c addr) ≡ None → MissBrings c h addr write

-- a fill sets the fill end of its block, where that is held, and leaves every other block's line; a settling makes all
-- fill ends 0; a block that stays held through an access keeps its fill end, and one that comes in has 0
pub record FillEnds (c : CacheConfig) (h : List Call) : Type 0 where
  pub fill : (addr end : ℕ) → line_at c (Fill addr end ∷ h) (block_of c addr) ≡ option_map (ending_at end) (line_at c h (block_of c addr))
  pub others : (addr end x : ℕ) → x ≢ block_of c addr → line_at c (Fill addr end ∷ h) x ≡ line_at c h x
  pub settle : (x : ℕ) → line_at c (Settle ∷ h) x ≡ option_map (ending_at 0) (line_at c h x)
  pub stays : (addr : ℕ) (write : Bool) (x : ℕ) → IsSome (line_at c h x) → IsSome (line_at c (Access addr write ∷ h) x) → fill_end_of c (Access addr write ∷ h) x ≡ fill_end_of c h x
  pub enters : (addr : ℕ) (write : Bool) (x : ℕ) → line_at c h x ≡ None → fill_end_of c (Access addr write ∷ h) x ≡ 0

-- the accesses among the calls
abbrev pub references : List Call → List Call
references [] = []
references (Access addr write ∷ h) = Access addr write ∷ references h
references (Fill addr end ∷ h) = references h
references (Settle ∷ h) = references h

-- fills and settlings change no contents but fill ends, no answer and no count
pub record ReferencesAlone (c : CacheConfig) (h : List Call) : Type 0 where
  pub lines : (k : ℕ) → map (ending_at 0) (lines_of c k h) ≡ lines_of c k (references h)
  pub touch : (addr : ℕ) (write : Bool) → touch_of c h addr write ≡ touch_of c (references h) addr write
  pub counts : counts_of c h ≡ counts_of c (references h)

-- the different blocks of set k, the one accessed last first
abbrev pub recent : CacheConfig → ℕ → List Call → List ℕ
recent c k [] = []
recent c k (Access addr write ∷ h) =
    if set_of c (block_of c addr) == k then block_of c addr ∷ filter (λ x. not (x == block_of c addr)) (recent c k h) else recent c k h
recent c k (Fill addr end ∷ h) = recent c k h
recent c k (Settle ∷ h) = recent c k h

-- the blocks of set k that missed, the one that missed last first
abbrev pub missed : CacheConfig → ℕ → List Call → List ℕ
missed c k [] = []
missed c k (Access addr write ∷ h) =
    if set_of c (block_of c addr) == k then (if (touch_of c h addr write).hit then missed c k h else block_of c addr ∷ missed c k h) else missed c k h
missed c k (Fill addr end ∷ h) = missed c k h
missed c k (Settle ∷ h) = missed c k h

-- Least recently used: a set holds the blocks accessed last, as many as there are ways. First in first out: it holds the
-- blocks that came in last.
pub record IsReplacing (c : CacheConfig) (h : List Call) (k : ℕ) : Type 0 where
  pub least_recently_used : c.fifo ≡ false → map (λ l. l.block) (lines_of c k h) ≡ take c.ways (recent c k h)
  pub first_in_first_out : c.fifo ≡ true → map (λ l. l.block) (lines_of c k h) ≡ take c.ways (missed c k h)

-- five accesses of blocks A B A C A, the last one first, in a cache of one set of two ways; only the first may write
abbrev pub two_ways : Bool → CacheConfig
two_ways fifo = record { sets = 1; block = 32; ways = 2; fifo = fifo }

abbrev pub five_accesses : Bool → List Call
five_accesses write = Access 0 false ∷ (Access 64 false ∷ (Access 0 false ∷ (Access 32 false ∷ (Access 0 write ∷ []))))

pub record FiveAccesses : Type 0 where
  pub lru_reads : counts_of (two_ways false) (five_accesses false) ≡ record { accesses = 5; hits = 2; misses = 3; replacements = 1; writebacks = 0 }
  pub lru_write : counts_of (two_ways false) (five_accesses true) ≡ record { accesses = 5; hits = 2; misses = 3; replacements = 1; writebacks = 0 }
  pub fifo_reads : counts_of (two_ways true) (five_accesses false) ≡ record { accesses = 5; hits = 1; misses = 4; replacements = 2; writebacks = 0 }
  pub fifo_write : counts_of (two_ways true) (five_accesses true) ≡ record { accesses = 5; hits = 1; misses = 4; replacements = 2; writebacks = 1 }
