-- Latencies of all histories.
use Rattle.std.proofs.Common.{◌≡◌, ℕ, ◌+◌, ◌-◌, ◌≤◌, Bool, true, false, cond, List, [], ◌∷◌, map, Option, Some, None, refl, sym, ◌∙◌, ap, subst, arith}
use Rattle.std.specs.Prelude.{if◌then◌else◌, max}
use Rattle.cache_core.specs.declared.config.CacheConfig.{CacheConfig}
use Rattle.cache_core.specs.declared.answers.Touch.{Touch}
use Rattle.cache_core.specs.Replay.{Call, Settle, block_of, set_of, ending_at, find_line, touched, touched_at, lines_of, touch_of, fill_end_of}
use Rattle.mem_hier.specs.declared.config.HierConfig.{HierConfig}
use Rattle.mem_hier.specs.declared.config.Which.{Which}
use Rattle.mem_hier.specs.declared.config.Which.TheVariants.{Il1, Dl1, Il2, Dl2, Itlb, Dtlb}
use Rattle.mem_hier.specs.Limits.{is_shared, own, behind_il1, IsAllowed}
use Rattle.mem_hier.specs.Replay.{Reference, Fetch, Load, Store, SettleAll, Timing, Calls, Answer, hit_latency, last_timing, first_timing, il1_timing, dl1_timing, dl2_timing, tlb_timing, behind_il1_lookup, behind_il1_timing, last_access, written_back, first_access, through, translated, data_way, fetch_way, data_answer, fetch_answer, calls_of, latency_of, greatest_fetch_of, fetch_hit_of}
use Rattle.mem_hier.specs.Stands.{references_in, last_cycle_in, CyclesRise}
use Rattle.mem_hier.specs.Laws.{HasBounds, FirstMisses, WaitIsBounded, HitsTakeLookups, IsBare, TakesLookups}
use Rattle.mem_hier.proofs.Fills.{hit_bounds, fills_settle, last_missed}
use Rattle.mem_hier.proofs.Steps.{first_missed}
use Rattle.mem_hier.proofs.Ways.{fetch_cases}
use Rattle.mem_hier.proofs.Bounds.{LevelFills, fetch_timing, last_timed, first_timed, tlb_timed, first_lookup, fetch_answer_fills, data_answer_fills, calls_fill_by}

-- bounds
fetch_lookup : (c : HierConfig) → (fetch_timing c).lookup ≡ fetch_hit_of c
fetch_lookup c = by_case (is_shared c.il1)
  where
    by_case : (b : Bool) → (cond b (dl1_timing c) (il1_timing c)).lookup ≡ cond b c.dl1lat c.il1lat
    by_case true = first_lookup c c.dl1lat (own c.dl1) c.dl2lat (own c.dl2)
    by_case false = first_lookup c c.il1lat (own c.il1) (behind_il1_lookup c) (behind_il1 c)

fetch_greatest : (c : HierConfig) → max (fetch_timing c).greatest (tlb_timing c c.itlb).greatest ≡ greatest_fetch_of c
fetch_greatest c = by_case (is_shared c.il1)
  where
    by_case : (b : Bool) → max (cond b (dl1_timing c) (il1_timing c)).greatest (tlb_timing c c.itlb).greatest ≡ max (cond b (dl1_timing c).greatest (il1_timing c).greatest) (tlb_timing c c.itlb).greatest
    by_case true = refl
    by_case false = refl

fetch_hit_least : (c : HierConfig) → IsAllowed c → 1 ≤ fetch_hit_of c
fetch_hit_least c allowed = by_case (is_shared c.il1)
  where
    by_case : (b : Bool) → 1 ≤ cond b c.dl1lat c.il1lat
    by_case true = allowed.lookups.dl1.least
    by_case false = allowed.lookups.il1.least

pub bounds : (c : HierConfig) (h : List Reference) (addr cycle : ℕ) → IsAllowed c → CyclesRise h → last_cycle_in h ≤ cycle → HasBounds c h addr cycle
unfolding latency_of
bounds c h addr cycle allowed rise le =
    let f = calls_fill_by c h cycle allowed rise le in
    let tlb = allowed.memory.tlb.least in
    let fetch = fetch_answer_fills c (calls_of c h) addr cycle tlb f in
    let load = data_answer_fills c (calls_of c h) addr false cycle tlb f in
    let store = data_answer_fills c (calls_of c h) addr true cycle tlb f in
    let hit : fetch_hit_of c ≤ (fetch_answer c (calls_of c h) addr cycle).latency = subst (λ n. n ≤ (fetch_answer c (calls_of c h) addr cycle).latency) (fetch_lookup c) fetch.least in
    let least : 1 ≤ fetch_hit_of c = fetch_hit_least c allowed in
    let data_least : 1 ≤ (dl1_timing c).lookup = subst (λ n. 1 ≤ n) (sym (first_lookup c c.dl1lat (own c.dl1) c.dl2lat (own c.dl2))) allowed.lookups.dl1.least in
    let load_least = load.least in
    let store_least = store.least in
    record {
      fetch = record { least = omega arith; most = subst (λ n. (fetch_answer c (calls_of c h) addr cycle).latency ≤ n) (fetch_greatest c) fetch.most };
      load = record { least = omega arith; most = load.most };
      store = record { least = omega arith; most = store.most };
      hit = hit;
    }

-- waiting hits
waits : (t : Timing) (o : Option CacheConfig) (calls : List Call) (addr cycle : ℕ) → t.lookup ≤ t.greatest → LevelFills o calls (cycle + t.greatest)
    → (shape : CacheConfig) → o ≡ Some shape → hit_latency t (fill_end_of shape calls (block_of shape addr)) cycle ≤ t.greatest
waits t o calls addr cycle le f shape is =
    let f' = subst (λ x. LevelFills x calls (cycle + t.greatest)) is f in
    (hit_bounds t (fill_end_of shape calls (block_of shape addr)) cycle le (f'.fills (block_of shape addr))).1

pub waits_bounded : (c : HierConfig) (h : List Reference) (which : Which) (addr cycle : ℕ) → IsAllowed c → CyclesRise h → last_cycle_in h ≤ cycle → WaitIsBounded c h which addr cycle
waits_bounded c h Il1 addr cycle allowed rise le = waits (il1_timing c) (own c.il1) (calls_of c h).il1 addr cycle (first_timed c c.il1lat (own c.il1) (behind_il1_lookup c) (behind_il1 c)).first (calls_fill_by c h cycle allowed rise le).il1
waits_bounded c h Dl1 addr cycle allowed rise le = waits (dl1_timing c) (own c.dl1) (calls_of c h).dl1 addr cycle (first_timed c c.dl1lat (own c.dl1) c.dl2lat (own c.dl2)).first (calls_fill_by c h cycle allowed rise le).dl1
waits_bounded c h Il2 addr cycle allowed rise le = waits (last_timing c c.il2lat (own c.il2)) (own c.il2) (calls_of c h).il2 addr cycle (last_timed c c.il2lat (own c.il2)) (calls_fill_by c h cycle allowed rise le).il2
waits_bounded c h Dl2 addr cycle allowed rise le = waits (dl2_timing c) (own c.dl2) (calls_of c h).dl2 addr cycle (last_timed c c.dl2lat (own c.dl2)) (calls_fill_by c h cycle allowed rise le).dl2
waits_bounded c h Itlb addr cycle allowed rise le = waits (tlb_timing c c.itlb) c.itlb (calls_of c h).itlb addr cycle (tlb_timed c c.itlb allowed.memory.tlb.least) (calls_fill_by c h cycle allowed rise le).itlb
waits_bounded c h Dtlb addr cycle allowed rise le = waits (tlb_timing c c.dtlb) c.dtlb (calls_of c h).dtlb addr cycle (tlb_timed c c.dtlb allowed.memory.tlb.least) (calls_fill_by c h cycle allowed rise le).dtlb

-- hits after a settling
settled_hit : (t : Timing) (shape : CacheConfig) (calls : List Call) (addr cycle : ℕ) → 1 ≤ shape.ways → hit_latency t (fill_end_of shape (Settle ∷ calls) (block_of shape addr)) cycle ≡ t.lookup
settled_hit t shape calls addr cycle some = by_case t.wait
  where
    none : fill_end_of shape (Settle ∷ calls) (block_of shape addr) ≤ 0
    none = fills_settle shape calls 0 some (block_of shape addr)

    by_case : (w : Bool) → cond w (max t.lookup (fill_end_of shape (Settle ∷ calls) (block_of shape addr) - cycle)) t.lookup ≡ t.lookup
    by_case true = omega (arith, none)
    by_case false = refl

pub settled_lookups : (c : HierConfig) (h : List Reference) (which : Which) (addr cycle : ℕ) → IsAllowed c → HitsTakeLookups c h which addr cycle
unfolding calls_of
settled_lookups c h Il1 addr cycle allowed shape is = settled_hit (il1_timing c) shape (calls_of c h).il1 addr cycle (allowed.shapes.il1.fits shape is).least_ways
settled_lookups c h Dl1 addr cycle allowed shape is = settled_hit (dl1_timing c) shape (calls_of c h).dl1 addr cycle (allowed.shapes.dl1.fits shape is).least_ways
settled_lookups c h Il2 addr cycle allowed shape is = settled_hit (last_timing c c.il2lat (own c.il2)) shape (calls_of c h).il2 addr cycle (allowed.shapes.il2.fits shape is).least_ways
settled_lookups c h Dl2 addr cycle allowed shape is = settled_hit (dl2_timing c) shape (calls_of c h).dl2 addr cycle (allowed.shapes.dl2.fits shape is).least_ways
settled_lookups c h Itlb addr cycle allowed shape is = settled_hit (tlb_timing c c.itlb) shape (calls_of c h).itlb addr cycle (allowed.shapes.itlb.fits shape is).least_ways
settled_lookups c h Dtlb addr cycle allowed shape is = settled_hit (tlb_timing c c.dtlb) shape (calls_of c h).dtlb addr cycle (allowed.shapes.dtlb.fits shape is).least_ways

-- first references
pub record IsIdle (calls : List Call) : Type 0 where
  pub lines : (shape : CacheConfig) (k : ℕ) → lines_of shape k calls ≡ []

idle_none : IsIdle []
unfolding lines_of
idle_none = record { lines = λ shape k. refl }

idle_settled : (calls : List Call) → IsIdle calls → IsIdle (Settle ∷ calls)
unfolding lines_of
idle_settled calls idle = record { lines = λ shape k. ap (map (ending_at 0)) (idle.lines shape k) }

touch_idle : (shape : CacheConfig) (calls : List Call) (addr : ℕ) (write : Bool) → IsIdle calls → touch_of shape calls addr write ≡ record { hit = false; victim = None }
unfolding touch_of touched
touch_idle shape calls addr write idle = ap (λ ls. (touched_at shape ls (block_of shape addr) write (find_line (block_of shape addr) ls)).touch) (idle.lines shape (set_of shape (block_of shape addr)))

last_first : (t : Timing) (shape : CacheConfig) (calls : List Call) (addr : ℕ) (write : Bool) (cycle : ℕ) → IsIdle calls → (last_access t shape calls addr write cycle).latency ≡ t.greatest
last_first t shape calls addr write cycle idle = ap (λ p. p.latency) (last_missed t shape calls addr write cycle (ap (λ (x : Touch). x.hit) (touch_idle shape calls addr write idle)))

first_first : (t : Timing) (shape : CacheConfig) (calls : List Call) (t' : Timing) (shape' : CacheConfig) (calls' : List Call) (addr : ℕ) (write : Bool) (cycle : ℕ) → IsIdle calls → IsIdle calls'
    → (first_access t shape calls t' shape' calls' addr write cycle).latency ≡ t.lookup + t'.greatest
unfolding written_back
first_first t shape calls t' shape' calls' addr write cycle idle idle' =
    let touch = touch_idle shape calls addr write idle in
    ap (λ p. p.latency) (first_missed t shape calls t' shape' calls' addr write cycle (ap (λ (x : Touch). x.hit) touch))
    ∙ (ap (λ (x : Touch). t.lookup + (last_access t' shape' (written_back t' shape' calls' x.victim cycle) addr false cycle).latency) touch
    ∙ ap (λ n. t.lookup + n) (last_first t' shape' calls' addr false cycle idle'))

through_first : (c : HierConfig) (lookup : ℕ) (o : Option CacheConfig) (calls : List Call) (lookup' : ℕ) (o' : Option CacheConfig) (calls' : List Call) (addr : ℕ) (write : Bool) (cycle : ℕ) → IsIdle calls → IsIdle calls'
    → (through (first_timing c lookup o lookup' o') o calls (last_timing c lookup' o') o' calls' addr write cycle).latency ≡ (first_timing c lookup o lookup' o').greatest
unfolding through
through_first c lookup None calls lookup' o' calls' addr write cycle idle idle' = refl
through_first c lookup (Some s) calls lookup' None calls' addr write cycle idle idle' = last_first (last_timing c lookup (Some s)) s calls addr write cycle idle
through_first c lookup (Some s) calls lookup' (Some s') calls' addr write cycle idle idle' = first_first _ s calls _ s' calls' addr write cycle idle idle'

translated_first : (c : HierConfig) (o : Option CacheConfig) (calls : List Call) (addr cycle : ℕ) → IsIdle calls → (translated (tlb_timing c o) o calls addr cycle).latency ≡ (tlb_timing c o).greatest
unfolding translated
translated_first c None calls addr cycle idle = refl
translated_first c (Some s) calls addr cycle idle = last_first (tlb_timing c (Some s)) s calls addr false cycle idle

pub record AreIdle (s : Calls) : Type 0 where
  pub il1 : IsIdle s.il1
  pub dl1 : IsIdle s.dl1
  pub il2 : IsIdle s.il2
  pub dl2 : IsIdle s.dl2
  pub itlb : IsIdle s.itlb
  pub dtlb : IsIdle s.dtlb

are_idle : (c : HierConfig) (h : List Reference) → references_in h ≡ 0 → AreIdle (calls_of c h)
unfolding calls_of
are_idle c [] none = record { il1 = idle_none; dl1 = idle_none; il2 = idle_none; dl2 = idle_none; itlb = idle_none; dtlb = idle_none }
are_idle c (Fetch pc cycle ∷ h) none = absurd (omega arith)
are_idle c (Load addr cycle ∷ h) none = absurd (omega arith)
are_idle c (Store addr cycle ∷ h) none = absurd (omega arith)
are_idle c (SettleAll ∷ h) none =
    let idle = are_idle c h none in
    record {
      il1 = idle_settled _ idle.il1;
      dl1 = idle_settled _ idle.dl1;
      il2 = idle_settled _ idle.il2;
      dl2 = idle_settled _ idle.dl2;
      itlb = idle_settled _ idle.itlb;
      dtlb = idle_settled _ idle.dtlb;
    }

data_first : (c : HierConfig) (s : Calls) (addr : ℕ) (write : Bool) (cycle : ℕ) → AreIdle s → (data_way c s addr write cycle).latency ≡ (dl1_timing c).greatest
unfolding data_way
data_first c s addr write cycle idle = through_first c c.dl1lat (own c.dl1) s.dl1 c.dl2lat (own c.dl2) s.dl2 addr write cycle idle.dl1 idle.dl2

fetch_first : (c : HierConfig) (s : Calls) (pc cycle : ℕ) → AreIdle s → (fetch_way c s pc cycle).latency ≡ (if is_shared c.il1 then (dl1_timing c).greatest else (il1_timing c).greatest)
fetch_first c s pc cycle idle =
    let P : Answer → Type 0 = λ p. p.latency ≡ (if is_shared c.il1 then (dl1_timing c).greatest else (il1_timing c).greatest) in
    fetch_cases P c s pc cycle
    (λ e. data_first c s pc false cycle idle ∙ sym (ap (λ b. cond b (dl1_timing c).greatest (il1_timing c).greatest) e))
    (λ e e' p is. ap (λ q. q.latency) is ∙ (through_first c c.il1lat (own c.il1) s.il1 (behind_il1_lookup c) (behind_il1 c) s.dl2 pc false cycle idle.il1 idle.dl2 ∙ sym (ap (λ b. cond b (dl1_timing c).greatest (il1_timing c).greatest) e)))
    (λ e e' p is. ap (λ q. q.latency) is ∙ (through_first c c.il1lat (own c.il1) s.il1 (behind_il1_lookup c) (behind_il1 c) s.il2 pc false cycle idle.il1 idle.il2 ∙ sym (ap (λ b. cond b (dl1_timing c).greatest (il1_timing c).greatest) e)))

both_max : (a b c d : ℕ) → a ≡ c → b ≡ d → max a b ≡ max c d
both_max a b c d e e' = ap (λ x. max x b) e ∙ ap (max c) e'

pub first_misses : (c : HierConfig) (h : List Reference) (addr cycle : ℕ) → references_in h ≡ 0 → FirstMisses c h addr cycle
unfolding latency_of data_answer fetch_answer
first_misses c h addr cycle none =
    let s = calls_of c h in
    let idle = are_idle c h none in
    record {
      fetch = both_max _ _ _ _ (fetch_first c s addr cycle idle) (translated_first c c.itlb s.itlb addr cycle idle.itlb);
      load = both_max _ _ _ _ (data_first c s addr false cycle idle) (translated_first c c.dtlb s.dtlb addr cycle idle.dtlb);
      store = both_max _ _ _ _ (data_first c s addr true cycle idle) (translated_first c c.dtlb s.dtlb addr cycle idle.dtlb);
    }

-- without caches and TLBs
through_none : (t : Timing) (o : Option CacheConfig) (calls : List Call) (t' : Timing) (o' : Option CacheConfig) (calls' : List Call) (addr : ℕ) (write : Bool) (cycle : ℕ) → o ≡ None
    → (through t o calls t' o' calls' addr write cycle).latency ≡ t.lookup
unfolding through
through_none t o calls t' o' calls' addr write cycle none = subst (λ x. (through t x calls t' o' calls' addr write cycle).latency ≡ t.lookup) (sym none) refl

translated_none : (t : Timing) (o : Option CacheConfig) (calls : List Call) (addr cycle : ℕ) → o ≡ None → (translated t o calls addr cycle).latency ≡ t.lookup
unfolding translated
translated_none t o calls addr cycle none = subst (λ x. (translated t x calls addr cycle).latency ≡ t.lookup) (sym none) refl

data_none : (c : HierConfig) (s : Calls) (addr : ℕ) (write : Bool) (cycle : ℕ) → own c.dl1 ≡ None → (data_way c s addr write cycle).latency ≡ c.dl1lat
unfolding data_way
data_none c s addr write cycle none =
    through_none (dl1_timing c) (own c.dl1) s.dl1 (dl2_timing c) (own c.dl2) s.dl2 addr write cycle none ∙ first_lookup c c.dl1lat (own c.dl1) c.dl2lat (own c.dl2)

fetch_none : (c : HierConfig) (s : Calls) (pc cycle : ℕ) → own c.il1 ≡ None → is_shared c.il1 ≡ false → (fetch_way c s pc cycle).latency ≡ c.il1lat
fetch_none c s pc cycle none unshared =
    let lookup = first_lookup c c.il1lat (own c.il1) (behind_il1_lookup c) (behind_il1 c) in
    fetch_cases (λ p. p.latency ≡ c.il1lat) c s pc cycle
    (λ e. let no : true ≡ false = sym e ∙ unshared in cc)
    (λ e e' p is. ap (λ q. q.latency) is ∙ (through_none (il1_timing c) (own c.il1) s.il1 (behind_il1_timing c) (behind_il1 c) s.dl2 pc false cycle none ∙ lookup))
    (λ e e' p is. ap (λ q. q.latency) is ∙ (through_none (il1_timing c) (own c.il1) s.il1 (behind_il1_timing c) (behind_il1 c) s.il2 pc false cycle none ∙ lookup))

max_one : (a b n : ℕ) → a ≡ n → b ≡ 1 → 1 ≤ n → max a b ≡ n
max_one a b n e e' le = omega arith

pub takes_lookups : (c : HierConfig) (h : List Reference) (addr cycle : ℕ) → IsAllowed c → IsBare c → TakesLookups c h addr cycle
unfolding latency_of data_answer fetch_answer
takes_lookups c h addr cycle allowed bare =
    let s = calls_of c h in
    let il1 : own c.il1 ≡ None = ap own bare.il1 in
    let dl1 : own c.dl1 ≡ None = ap own bare.dl1 in
    let itlb = translated_none (tlb_timing c c.itlb) c.itlb s.itlb addr cycle bare.itlb in
    let dtlb = translated_none (tlb_timing c c.dtlb) c.dtlb s.dtlb addr cycle bare.dtlb in
    record {
      fetch = max_one _ _ _ (fetch_none c s addr cycle il1 (ap is_shared bare.il1)) itlb allowed.lookups.il1.least;
      load = max_one _ _ _ (data_none c s addr false cycle dl1) dtlb allowed.lookups.dl1.least;
      store = max_one _ _ _ (data_none c s addr true cycle dl1) dtlb allowed.lookups.dl1.least;
    }
