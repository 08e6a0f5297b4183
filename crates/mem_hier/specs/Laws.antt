-- Laws of the replay, in words of their own.
use Rattle.std.specs.Prelude.{◌≡◌, ℕ, ◌+◌, ◌≤◌, Bool, true, false, List, [], ◌∷◌, ◌++◌, Option, Some, None, if◌then◌else◌}
use Rattle.std.specs.Option.{option_map}
use Rattle.cache_core.specs.declared.config.CacheConfig.{CacheConfig}
use Rattle.cache_core.specs.declared.answers.Touch.{Touch}
use Rattle.cache_core.specs.declared.answers.Victim.{Victim}
use Rattle.cache_core.specs.declared.answers.Counts.{Counts}
use Rattle.cache_core.specs.Replay.{Call, Access, block_of, touch_of, fill_end_of, counts_of}
use Rattle.mem_hier.specs.declared.config.Level.{Level}
use Rattle.mem_hier.specs.declared.config.Level.TheVariants.{Off, Own, Shared}
use Rattle.mem_hier.specs.declared.config.HierConfig.{HierConfig}
use Rattle.mem_hier.specs.declared.config.Which.{Which}
use Rattle.mem_hier.specs.declared.config.Which.TheVariants.{Il1, Dl1, Il2, Dl2, Itlb, Dtlb}
use Rattle.mem_hier.specs.Limits.{is_shared, own, IsBetween}
use Rattle.mem_hier.specs.Replay.{Reference, Fetch, Load, Store, SettleAll, Timing, Calls, il1_timing, dl1_timing, dl2_timing, last_timing, tlb_timing, hit_latency, calls_of, calls_at, latency_of, shape_of, counts_at, greatest_fetch_of, greatest_load_of, fetch_hit_of}

-- Every latency is at least 1 and at most the greatest of its kind, and a fetch takes no less than where its first level
-- hits.
pub record HasBounds (c : HierConfig) (h : List Reference) (addr cycle : ℕ) : Type 0 where
  pub fetch : IsBetween 1 (greatest_fetch_of c) (latency_of c h (Fetch addr cycle))
  pub load : IsBetween 1 (greatest_load_of c) (latency_of c h (Load addr cycle))
  pub store : IsBetween 1 (greatest_load_of c) (latency_of c h (Store addr cycle))
  pub hit : fetch_hit_of c ≤ latency_of c h (Fetch addr cycle)

-- a reference of a hierarchy that got none takes the greatest latency of its kind
pub record FirstMisses (c : HierConfig) (h : List Reference) (addr cycle : ℕ) : Type 0 where
  pub fetch : latency_of c h (Fetch addr cycle) ≡ greatest_fetch_of c
  pub load : latency_of c h (Load addr cycle) ≡ greatest_load_of c
  pub store : latency_of c h (Store addr cycle) ≡ greatest_load_of c

-- what a cache or TLB takes
abbrev pub timing_at : HierConfig → Which → Timing
timing_at c Il1 = il1_timing c
timing_at c Dl1 = dl1_timing c
timing_at c Il2 = last_timing c c.il2lat (own c.il2)
timing_at c Dl2 = dl2_timing c
timing_at c Itlb = tlb_timing c c.itlb
timing_at c Dtlb = tlb_timing c c.dtlb

-- where hits wait, one takes no longer than the greatest latency of its level
abbrev pub WaitIsBounded : HierConfig → List Reference → Which → ℕ → ℕ → Type 0
WaitIsBounded c h which addr cycle =
    (shape : CacheConfig) → shape_of c which ≡ Some shape
    → hit_latency (timing_at c which) (fill_end_of shape (calls_at (calls_of c h) which) (block_of shape addr)) cycle ≤ (timing_at c which).greatest

-- right after a settling a hit takes the lookup latency of its level
abbrev pub HitsTakeLookups : HierConfig → List Reference → Which → ℕ → ℕ → Type 0
HitsTakeLookups c h which addr cycle =
    (shape : CacheConfig) → shape_of c which ≡ Some shape
    → hit_latency (timing_at c which) (fill_end_of shape (calls_at (calls_of c (SettleAll ∷ h)) which) (block_of shape addr)) cycle ≡ (timing_at c which).lookup

-- Where nothing is held at all, a latency is a lookup latency.
pub record IsBare (c : HierConfig) : Type 0 where
  pub il1 : c.il1 ≡ Off
  pub dl1 : c.dl1 ≡ Off
  pub itlb : c.itlb ≡ None
  pub dtlb : c.dtlb ≡ None

pub record TakesLookups (c : HierConfig) (h : List Reference) (addr cycle : ℕ) : Type 0 where
  pub fetch : latency_of c h (Fetch addr cycle) ≡ c.il1lat
  pub load : latency_of c h (Load addr cycle) ≡ c.dl1lat
  pub store : latency_of c h (Store addr cycle) ≡ c.dl1lat

-- what a first level asks of the second one on an access, the newest first: on a miss the dirty victim's write, then the
-- missing block's read
abbrev pub written : Option Victim → List Call
written None = []
written (Some v) = if v.dirty then Access v.addr true ∷ [] else []

abbrev pub asked_on : Touch → ℕ → List Call
asked_on touch addr = if touch.hit then [] else Access addr false ∷ written touch.victim

abbrev pub asked_behind : Option CacheConfig → List Call → ℕ → Bool → List Call
asked_behind None calls addr write = []
asked_behind (Some shape) calls addr write = asked_on (touch_of shape calls addr write) addr

-- what a fetch asks of a cache, and what a load or store asks of it, after these references
abbrev pub asked_by_fetch : HierConfig → List Reference → ℕ → Which → List Call
asked_by_fetch c h pc Il1 = if is_shared c.il1 then [] else Access pc false ∷ []
asked_by_fetch c h pc Dl1 = if is_shared c.il1 then Access pc false ∷ [] else []
asked_by_fetch c h pc Il2 = if is_shared c.il1 then [] else (if is_shared c.il2 then [] else asked_behind (own c.il1) (calls_of c h).il1 pc false)
asked_by_fetch c h pc Dl2 =
    if is_shared c.il1 then asked_behind (own c.dl1) (calls_of c h).dl1 pc false
    else (if is_shared c.il2 then asked_behind (own c.il1) (calls_of c h).il1 pc false else [])
asked_by_fetch c h pc Itlb = Access pc false ∷ []
asked_by_fetch c h pc Dtlb = []

abbrev pub asked_by_data : HierConfig → List Reference → ℕ → Bool → Which → List Call
asked_by_data c h addr write Il1 = []
asked_by_data c h addr write Dl1 = Access addr write ∷ []
asked_by_data c h addr write Il2 = []
asked_by_data c h addr write Dl2 = asked_behind (own c.dl1) (calls_of c h).dl1 addr write
asked_by_data c h addr write Itlb = []
asked_by_data c h addr write Dtlb = Access addr false ∷ []

-- all accesses of a cache or TLB, those of both sides in their order, the newest first
unfoldable pub asked_of : HierConfig → List Reference → Which → List Call
asked_of c [] which = []
asked_of c (Fetch pc cycle ∷ h) which = asked_by_fetch c h pc which ++ asked_of c h which
asked_of c (Load addr cycle ∷ h) which = asked_by_data c h addr false which ++ asked_of c h which
asked_of c (Store addr cycle ∷ h) which = asked_by_data c h addr true which ++ asked_of c h which
asked_of c (SettleAll ∷ h) which = asked_of c h which

-- a cache or TLB counts what it was asked
abbrev pub CountsAsked : HierConfig → List Reference → Which → Type 0
CountsAsked c h which = counts_at c h which ≡ option_map (λ s. counts_of s (asked_of c h which)) (shape_of c which)

-- how many accesses a cache passes on: a read for each miss, and a write for each write-back
abbrev pub passed_on : Counts → ℕ
passed_on n = n.misses + n.writebacks

-- The accesses of a second level are what its first levels pass on.
pub record IsBalanced (c : HierConfig) (s : Calls) (il1 dl1 : CacheConfig) : Type 0 where
  pub il2 : (second : CacheConfig) → c.il1 ≡ Own il1 → c.il2 ≡ Own second → (counts_of second s.il2).accesses ≡ passed_on (counts_of il1 s.il1)
  pub dl2 : (second : CacheConfig) → c.dl1 ≡ Own dl1 → c.dl2 ≡ Own second → is_shared c.il2 ≡ false → (counts_of second s.dl2).accesses ≡ passed_on (counts_of dl1 s.dl1)
  pub shared : (second : CacheConfig) → c.il1 ≡ Own il1 → c.dl1 ≡ Own dl1 → c.dl2 ≡ Own second → c.il2 ≡ Shared
      → (counts_of second s.dl2).accesses ≡ passed_on (counts_of il1 s.il1) + passed_on (counts_of dl1 s.dl1)

-- the default configuration
abbrev pub shape : ℕ → ℕ → ℕ → CacheConfig
shape sets block ways = record { sets = sets; block = block; ways = ways; fifo = false }

abbrev pub default_config : Bool → HierConfig
default_config wait =
    record {
      il1 = Own (shape 512 32 1);
      il2 = Shared;
      dl1 = Own (shape 128 32 4);
      dl2 = Own (shape 1024 64 4);
      itlb = Some (shape 16 4096 4);
      dtlb = Some (shape 32 4096 4);
      il1lat = 1;
      il2lat = 6;
      dl1lat = 1;
      dl2lat = 6;
      mem_first = 18;
      mem_inter = 2;
      mem_width = 8;
      tlb_lat = 30;
      wait = wait;
    }

abbrev pub counted : ℕ → ℕ → ℕ → ℕ → Option Counts
counted hits misses replacements writebacks =
    Some (record { accesses = hits + misses; hits = hits; misses = misses; replacements = replacements; writebacks = writebacks })

-- a data side alone, of these levels
abbrev pub data_alone : Bool → CacheConfig → Level → HierConfig
data_alone wait dl1 dl2 = record (default_config wait) { il1 = Off; il2 = Off; dl1 = Own dl1; dl2 = dl2; itlb = None; dtlb = None }

-- two loads of one block in cycle 3, and one when it is there, through one level of a single line of 32 bytes
abbrev pub one_line : Bool → HierConfig
one_line wait = data_alone wait (shape 1 32 1) Off

pub record TwoLoads (wait : Bool) (latency : ℕ) : Type 0 where
  pub greatest : greatest_load_of (one_line wait) ≡ 25
  pub first : latency_of (one_line wait) [] (Load 0 3) ≡ 25
  pub second : latency_of (one_line wait) (Load 0 3 ∷ []) (Load 4 3) ≡ latency
  pub later : latency_of (one_line wait) (Load 4 3 ∷ (Load 0 3 ∷ [])) (Load 8 28) ≡ 1
  pub dl1 : counts_at (one_line wait) (Load 4 3 ∷ (Load 0 3 ∷ [])) Dl1 ≡ counted 1 1 0 0

-- a store and four loads through a line of 16 bytes, and two lines of 32 bytes behind it
abbrev pub three_lines : Bool → HierConfig
three_lines wait = data_alone wait (shape 1 16 1) (Own (shape 1 32 2))

pub record FiveReferences (wait : Bool) (third fifth : ℕ) : Type 0 where
  pub greatest : greatest_load_of (three_lines wait) ≡ 31
  pub first : latency_of (three_lines wait) [] (Store 0 0) ≡ 31
  pub second : latency_of (three_lines wait) (Store 0 0 ∷ []) (Load 64 40) ≡ 31
  pub flight : latency_of (three_lines wait) (Load 64 40 ∷ (Store 0 0 ∷ [])) (Load 68 41) ≡ third
  pub fourth : latency_of (three_lines wait) (Load 68 41 ∷ (Load 64 40 ∷ (Store 0 0 ∷ []))) (Load 16 42) ≡ 7
  pub behind : latency_of (three_lines wait) (Load 16 42 ∷ (Load 68 41 ∷ (Load 64 40 ∷ (Store 0 0 ∷ [])))) (Load 80 43) ≡ fifth
  pub dl1 : counts_at (three_lines wait) (Load 80 43 ∷ (Load 16 42 ∷ (Load 68 41 ∷ (Load 64 40 ∷ (Store 0 0 ∷ []))))) Dl1 ≡ counted 1 4 3 1
  pub dl2 : counts_at (three_lines wait) (Load 80 43 ∷ (Load 16 42 ∷ (Load 68 41 ∷ (Load 64 40 ∷ (Store 0 0 ∷ []))))) Dl2 ≡ counted 3 2 0 0

-- three fetches of one block where the first level is shared and there is no own second one
abbrev pub shared_first : HierConfig
shared_first = record (default_config false) { il1 = Shared; il2 = Off }

pub record ThreeFetches : Type 0 where
  pub il1 : counts_at shared_first (Fetch 4194320 0 ∷ (Fetch 4194312 0 ∷ (Fetch 4194304 0 ∷ []))) Il1 ≡ None
  pub il2 : counts_at shared_first (Fetch 4194320 0 ∷ (Fetch 4194312 0 ∷ (Fetch 4194304 0 ∷ []))) Il2 ≡ None
  pub dl1 : counts_at shared_first (Fetch 4194320 0 ∷ (Fetch 4194312 0 ∷ (Fetch 4194304 0 ∷ []))) Dl1 ≡ counted 2 1 0 0
  pub dl2 : counts_at shared_first (Fetch 4194320 0 ∷ (Fetch 4194312 0 ∷ (Fetch 4194304 0 ∷ []))) Dl2 ≡ counted 0 1 0 0

-- under the defaults a first fetch misses everywhere, the next instruction lies in its block, and the next block in that
-- of the second level
pub record WorkedLatencies : Type 0 where
  pub greatest_fetch : (wait : Bool) → greatest_fetch_of (default_config wait) ≡ 39
  pub greatest_load : (wait : Bool) → greatest_load_of (default_config wait) ≡ 39
  pub fetch : latency_of (default_config false) [] (Fetch 4194304 0) ≡ 39
  pub next : latency_of (default_config false) (Fetch 4194304 0 ∷ []) (Fetch 4194312 0) ≡ 1
  pub block : latency_of (default_config false) (Fetch 4194304 0 ∷ []) (Fetch 4194336 0) ≡ 7
  pub instant : TwoLoads false 1
  pub waiting : TwoLoads true 25
  pub levels : FiveReferences false 1 7
  pub levels_waiting : FiveReferences true 30 28
  pub shared : ThreeFetches
