-- The hierarchy, replayed from the references that it got, the newest first.
use Rattle.std.specs.Prelude.{ℕ, ◌+◌, ◌-◌, ◌*◌, ◌/◌, Bool, true, false, List, [], ◌∷◌, Option, Some, None, max, if◌then◌else◌}
use Rattle.std.specs.Option.{option_map, option_map_or}
use Rattle.cache_core.specs.declared.config.CacheConfig.{CacheConfig}
use Rattle.cache_core.specs.declared.answers.Victim.{Victim}
use Rattle.cache_core.specs.declared.answers.Counts.{Counts}
use Rattle.cache_core.specs.Replay.{Call, Access, Fill, Settle, block_of, touch_of, fill_end_of, counts_of}
use Rattle.mem_hier.specs.declared.config.HierConfig.{HierConfig}
use Rattle.mem_hier.specs.declared.config.Which.{Which}
use Rattle.mem_hier.specs.declared.config.Which.TheVariants.{Il1, Dl1, Il2, Dl2, Itlb, Dtlb}
use Rattle.mem_hier.specs.Limits.{is_shared, own, behind_il1}

-- what a hierarchy is asked: a reference, with its address and its cycle, or the settling of all fill ends
pub data Reference : Type 0 where
  Fetch : (pc : ℕ) → (cycle : ℕ) → Reference
  Load : (addr : ℕ) → (cycle : ℕ) → Reference
  Store : (addr : ℕ) → (cycle : ℕ) → Reference
  SettleAll : Reference

-- What a level takes: whether a hit waits for its block, the lookup latency, and the latency of a miss for which no
-- level behind this one holds the block.
pub record Timing : Type 0 where
  pub wait : Bool
  pub lookup : ℕ
  pub greatest : ℕ

-- a block of memory comes in chunks of the bus width
abbrev pub memory_latency : HierConfig → ℕ → ℕ
memory_latency c block = c.mem_first + c.mem_inter * ((block + c.mem_width - 1) / c.mem_width - 1)

-- a level with nothing but memory behind it; one that is none takes its lookup latency and goes no further
abbrev pub last_timing : HierConfig → ℕ → Option CacheConfig → Timing
last_timing c lookup shape = record { wait = c.wait; lookup = lookup; greatest = option_map_or (λ s. lookup + memory_latency c s.block) shape lookup }

-- a first level, by the second one behind it
abbrev pub first_timing : HierConfig → ℕ → Option CacheConfig → ℕ → Option CacheConfig → Timing
first_timing c lookup (Some shape) lookup' (Some shape') =
    record { wait = c.wait; lookup = lookup; greatest = lookup + (last_timing c lookup' (Some shape')).greatest }
first_timing c lookup shape lookup' shape' = last_timing c lookup shape

abbrev pub tlb_timing : HierConfig → Option CacheConfig → Timing
tlb_timing c shape = record { wait = c.wait; lookup = 1; greatest = option_map_or (λ s. c.tlb_lat) shape 1 }

-- the levels of the data way, and those of il1's way. A shared level takes the data side's latency
abbrev pub dl1_timing : HierConfig → Timing
dl1_timing c = first_timing c c.dl1lat (own c.dl1) c.dl2lat (own c.dl2)

abbrev pub dl2_timing : HierConfig → Timing
dl2_timing c = last_timing c c.dl2lat (own c.dl2)

abbrev pub behind_il1_lookup : HierConfig → ℕ
behind_il1_lookup c = if is_shared c.il2 then c.dl2lat else c.il2lat

abbrev pub il1_timing : HierConfig → Timing
il1_timing c = first_timing c c.il1lat (own c.il1) (behind_il1_lookup c) (behind_il1 c)

abbrev pub behind_il1_timing : HierConfig → Timing
behind_il1_timing c = last_timing c (behind_il1_lookup c) (behind_il1 c)

-- A hit takes the lookup latency. Where hits wait, it takes no less than what is left until its block's fill end.
abbrev pub hit_latency : Timing → ℕ → ℕ → ℕ
hit_latency t fill_end cycle = if t.wait then max t.lookup (fill_end - cycle) else t.lookup

-- what an access of a level comes to: its latency, and the calls that the level's cache got by then
pub record Served : Type 0 where
  pub latency : ℕ
  pub calls : List Call

abbrev pub hit : Timing → CacheConfig → List Call → ℕ → Bool → ℕ → Served
hit t shape calls addr write cycle =
    record { latency = hit_latency t (fill_end_of shape calls (block_of shape addr)) cycle; calls = Access addr write ∷ calls }

-- a missing block is filled when the latency is over
abbrev pub missed : ℕ → List Call → ℕ → Bool → ℕ → Served
missed latency calls addr write cycle = record { latency = latency; calls = Fill addr (cycle + latency) ∷ (Access addr write ∷ calls) }

-- an access of a level with nothing but memory behind it
unfoldable pub last_access : Timing → CacheConfig → List Call → ℕ → Bool → ℕ → Served
last_access t shape calls addr write cycle =
    if (touch_of shape calls addr write).hit then hit t shape calls addr write cycle else missed t.greatest calls addr write cycle

-- a dirty victim is written to the level behind
unfoldable pub written_back : Timing → CacheConfig → List Call → Option Victim → ℕ → List Call
written_back t shape calls None cycle = calls
written_back t shape calls (Some v) cycle = if v.dirty then (last_access t shape calls v.addr true cycle).calls else calls

-- what an access of a way comes to: its latency, and the calls of the first and the second level by then
pub record Passed : Type 0 where
  pub latency : ℕ
  pub first : List Call
  pub second : List Call

-- An access of a first level with a second one behind it. On a miss a dirty victim is written there first, and then the
-- missing block is read there, for which the first level waits.
unfoldable pub first_access : Timing → CacheConfig → List Call → Timing → CacheConfig → List Call → ℕ → Bool → ℕ → Passed
first_access t shape calls t' shape' calls' addr write cycle =
    let touch = touch_of shape calls addr write in
    let read = last_access t' shape' (written_back t' shape' calls' touch.victim cycle) addr false cycle in
    let here = if touch.hit then hit t shape calls addr write cycle else missed (t.lookup + read.latency) calls addr write cycle in
    record { latency = here.latency; first = here.calls; second = if touch.hit then calls' else read.calls }

-- an access of a way of two levels, each of which may be none
unfoldable pub through : Timing → Option CacheConfig → List Call → Timing → Option CacheConfig → List Call → ℕ → Bool → ℕ → Passed
through t None calls t' second calls' addr write cycle = record { latency = t.lookup; first = calls; second = calls' }
through t (Some shape) calls t' None calls' addr write cycle =
    let here = last_access t shape calls addr write cycle in
    record { latency = here.latency; first = here.calls; second = calls' }
through t (Some shape) calls t' (Some shape') calls' addr write cycle = first_access t shape calls t' shape' calls' addr write cycle

-- a reference of a TLB
unfoldable pub translated : Timing → Option CacheConfig → List Call → ℕ → ℕ → Served
translated t None calls addr cycle = record { latency = t.lookup; calls = calls }
translated t (Some shape) calls addr cycle = last_access t shape calls addr false cycle

-- the calls that each cache got, the newest first
pub record Calls : Type 0 where
  pub il1 : List Call
  pub dl1 : List Call
  pub il2 : List Call
  pub dl2 : List Call
  pub itlb : List Call
  pub dtlb : List Call

-- what a reference comes to
pub record Answer : Type 0 where
  pub latency : ℕ
  pub calls : Calls

-- through dl1 and dl2
unfoldable pub data_way : HierConfig → Calls → ℕ → Bool → ℕ → Answer
data_way c s addr write cycle =
    let p = through (dl1_timing c) (own c.dl1) s.dl1 (dl2_timing c) (own c.dl2) s.dl2 addr write cycle in
    record { latency = p.latency; calls = record s { dl1 = p.first; dl2 = p.second } }

-- Where the first level is shared, a fetch is a read of the data way. Else it goes through il1, and then through il2 or
-- the dl2 that stands for it.
unfoldable pub fetch_way : HierConfig → Calls → ℕ → ℕ → Answer
fetch_way c s pc cycle =
    let own_second = through (il1_timing c) (own c.il1) s.il1 (behind_il1_timing c) (behind_il1 c) s.il2 pc false cycle in
    let shared_second = through (il1_timing c) (own c.il1) s.il1 (behind_il1_timing c) (behind_il1 c) s.dl2 pc false cycle in
    if is_shared c.il1 then data_way c s pc false cycle
    else (if is_shared c.il2
    then record { latency = shared_second.latency; calls = record s { il1 = shared_second.first; dl2 = shared_second.second } }
    else record { latency = own_second.latency; calls = record s { il1 = own_second.first; il2 = own_second.second } })

-- A load or store, and a fetch. The way and the TLB are asked at once, and the slower one decides.
unfoldable pub data_answer : HierConfig → Calls → ℕ → Bool → ℕ → Answer
data_answer c s addr write cycle =
    let way = data_way c s addr write cycle in
    let page = translated (tlb_timing c c.dtlb) c.dtlb s.dtlb addr cycle in
    record { latency = max way.latency page.latency; calls = record (way.calls) { dtlb = page.calls } }

unfoldable pub fetch_answer : HierConfig → Calls → ℕ → ℕ → Answer
fetch_answer c s pc cycle =
    let way = fetch_way c s pc cycle in
    let page = translated (tlb_timing c c.itlb) c.itlb s.itlb pc cycle in
    record { latency = max way.latency page.latency; calls = record (way.calls) { itlb = page.calls } }

abbrev pub settled : Calls → Calls
settled s =
    record {
      il1 = Settle ∷ s.il1;
      dl1 = Settle ∷ s.dl1;
      il2 = Settle ∷ s.il2;
      dl2 = Settle ∷ s.dl2;
      itlb = Settle ∷ s.itlb;
      dtlb = Settle ∷ s.dtlb;
    }

abbrev pub answer : HierConfig → Calls → Reference → Answer
answer c s (Fetch pc cycle) = fetch_answer c s pc cycle
answer c s (Load addr cycle) = data_answer c s addr false cycle
answer c s (Store addr cycle) = data_answer c s addr true cycle
answer c s SettleAll = record { latency = 0; calls = settled s }

-- the calls of each cache after these references
unfoldable pub calls_of : HierConfig → List Reference → Calls
calls_of c [] = record { il1 = []; dl1 = []; il2 = []; dl2 = []; itlb = []; dtlb = [] }
calls_of c (r ∷ h) = (answer c (calls_of c h) r).calls

-- the latency of a reference after these
unfoldable pub latency_of : HierConfig → List Reference → Reference → ℕ
latency_of c h r = (answer c (calls_of c h) r).latency

-- the shape of a cache or TLB, None where it has none of its own
abbrev pub shape_of : HierConfig → Which → Option CacheConfig
shape_of c Il1 = own c.il1
shape_of c Dl1 = own c.dl1
shape_of c Il2 = own c.il2
shape_of c Dl2 = own c.dl2
shape_of c Itlb = c.itlb
shape_of c Dtlb = c.dtlb

abbrev pub calls_at : Calls → Which → List Call
calls_at s Il1 = s.il1
calls_at s Dl1 = s.dl1
calls_at s Il2 = s.il2
calls_at s Dl2 = s.dl2
calls_at s Itlb = s.itlb
calls_at s Dtlb = s.dtlb

-- the counts of a cache or TLB after these references
abbrev pub counts_at : HierConfig → List Reference → Which → Option Counts
counts_at c h which = option_map (λ shape. counts_of shape (calls_at (calls_of c h) which)) (shape_of c which)

-- The greatest latencies of a fetch, and of a load or store: those of a reference that nothing holds. What a fetch takes
-- where its first level hits is its lookup latency.
abbrev pub greatest_fetch_of : HierConfig → ℕ
greatest_fetch_of c = max (if is_shared c.il1 then (dl1_timing c).greatest else (il1_timing c).greatest) (tlb_timing c c.itlb).greatest

abbrev pub greatest_load_of : HierConfig → ℕ
greatest_load_of c = max (dl1_timing c).greatest (tlb_timing c c.dtlb).greatest

abbrev pub fetch_hit_of : HierConfig → ℕ
fetch_hit_of c = if is_shared c.il1 then c.dl1lat else c.il1lat
