-- What is true of the fields of every hierarchy, and what the steps of its code say of single caches.
use Rattle.std.specs.Prelude.{◌≡◌, ℕ, ◌+◌, ◌*◌, ◌^◌, ◌<◌, ◌≤◌, List, Option, Some, None}
use Rattle.cache_core.specs.declared.config.CacheConfig.{CacheConfig}
use Rattle.cache_core.specs.Replay.{Call, fill_end_of}
use Rattle.cache_core.specs.Stands as cache
use Rattle.mem_hier.specs.declared.config.HierConfig.{HierConfig}
use Rattle.mem_hier.specs.declared.timing.Timings.{Timings}
use Rattle.mem_hier.specs.declared.caches.Caches as code
use Rattle.mem_hier.specs.Limits.{IsAllowed, own}
use Rattle.mem_hier.specs.Replay.{Timing, Served, Passed, Calls, Answer, il1_timing, behind_il1_timing, dl1_timing, dl2_timing, last_timing, tlb_timing}
use Rattle.mem_hier.specs.Stands.{Caches, Held, LevelStands, CachesStand}

-- what each level takes, which the configuration gives
abbrev pub timings_of : HierConfig → Timings
timings_of c =
    record {
      il1 = il1_timing c;
      behind_il1 = behind_il1_timing c;
      dl1 = dl1_timing c;
      dl2 = dl2_timing c;
      itlb = tlb_timing c c.itlb;
      dtlb = tlb_timing c c.dtlb;
    }

-- the caches of the code's struct
abbrev pub shown : code.Caches → Caches
shown v = record { il1 = v.il1; dl1 = v.dl1; il2 = v.il2; dl2 = v.dl2; itlb = v.itlb; dtlb = v.dtlb }

-- no block has a later fill end than this
abbrev pub FillsBy : CacheConfig → List Call → ℕ → Type 0
FillsBy shape calls last = (b : ℕ) → fill_end_of shape calls b ≤ last

-- A cache as an access meets it: it stands for its calls, it has ways, and no block is filled later than by then.
pub record IsMet (v : cache.Held) (shape : CacheConfig) (calls : List Call) (last : ℕ) : Type 0 where
  pub stands : cache.StandsFor v shape calls
  pub ways : 1 ≤ shape.ways
  pub fills : FillsBy shape calls last

abbrev pub LevelMet : Option cache.Held → Option CacheConfig → List Call → ℕ → Type 0
LevelMet None None calls last = Unit {0}
LevelMet None (Some shape) calls last = ⊥
LevelMet (Some v) None calls last = ⊥
LevelMet (Some v) (Some shape) calls last = IsMet v shape calls last

pub record CachesMet (v : Caches) (c : HierConfig) (s : Calls) (cycle : ℕ) : Type 0 where
  pub il1 : LevelMet v.il1 (own c.il1) s.il1 (cycle + (il1_timing c).greatest)
  pub dl1 : LevelMet v.dl1 (own c.dl1) s.dl1 (cycle + (dl1_timing c).greatest)
  pub il2 : LevelMet v.il2 (own c.il2) s.il2 (cycle + (last_timing c c.il2lat (own c.il2)).greatest)
  pub dl2 : LevelMet v.dl2 (own c.dl2) s.dl2 (cycle + (dl2_timing c).greatest)
  pub itlb : LevelMet v.itlb c.itlb s.itlb (cycle + (tlb_timing c c.itlb).greatest)
  pub dtlb : LevelMet v.dtlb c.dtlb s.dtlb (cycle + (tlb_timing c c.dtlb).greatest)

-- the latency and the cache after an access of one level, of a way, and of the hierarchy
pub record IsServed (n : ℕ) (v : cache.Held) (shape : CacheConfig) (p : Served) : Type 0 where
  pub latency : n ≡ p.latency
  pub stands : cache.StandsFor v shape p.calls

pub record LevelServed (n : ℕ) (v : Option cache.Held) (shape : Option CacheConfig) (p : Served) : Type 0 where
  pub latency : n ≡ p.latency
  pub stands : LevelStands v shape p.calls

pub record IsPassed (n : ℕ) (v : cache.Held) (shape : CacheConfig) (v' : cache.Held) (shape' : CacheConfig) (p : Passed) : Type 0 where
  pub latency : n ≡ p.latency
  pub first : cache.StandsFor v shape p.first
  pub second : cache.StandsFor v' shape' p.second

pub record WayPassed (n : ℕ) (v : Option cache.Held) (shape : Option CacheConfig) (v' : Option cache.Held) (shape' : Option CacheConfig) (p : Passed) : Type 0 where
  pub latency : n ≡ p.latency
  pub first : LevelStands v shape p.first
  pub second : LevelStands v' shape' p.second

pub record IsAnswered (n : ℕ) (v : Caches) (c : HierConfig) (p : Answer) : Type 0 where
  pub latency : n ≡ p.latency
  pub caches : CachesStand v c p.calls

-- a lookup takes no more than a miss, and a miss of a first level is a number of 32 bits
pub record IsTimed (t t' : Timing) : Type 0 where
  pub first : t.lookup ≤ t.greatest
  pub second : t'.lookup ≤ t'.greatest
  pub sum : t.lookup + t'.greatest < 2 ^ 32

pub record AreTimed (t : Timings) : Type 0 where
  pub il1 : IsTimed t.il1 t.behind_il1
  pub dl1 : IsTimed t.dl1 t.dl2
  pub itlb : t.itlb.lookup ≤ t.itlb.greatest
  pub dtlb : t.dtlb.lookup ≤ t.dtlb.greatest

-- a cache that is there had at most n accesses
abbrev pub AccessesBy : Option cache.Held → ℕ → Type 0
AccessesBy o n = (v : cache.Held) → o ≡ Some v → cache.accesses_of v ≤ n

pub record CachesBy (v : Caches) (n : ℕ) : Type 0 where
  pub il1 : AccessesBy v.il1 n
  pub dl1 : AccessesBy v.dl1 n
  pub il2 : AccessesBy v.il2 n
  pub dl2 : AccessesBy v.dl2 n
  pub itlb : AccessesBy v.itlb n
  pub dtlb : AccessesBy v.dtlb n

-- A hierarchy is allowed, its levels take what the configuration gives, and no cache had more than two accesses for each
-- reference.
pub record IsSound (v : Held) (t : Timings) : Type 0 where
  pub allowed : IsAllowed v.config
  pub timings : t ≡ timings_of v.config
  pub accesses : CachesBy v.caches (2 * v.references)
  pub references : v.references ≤ 2 ^ 60
