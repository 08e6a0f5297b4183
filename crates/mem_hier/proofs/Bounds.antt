-- How long references take, and when the blocks of the whole hierarchy are filled at the latest.
use Rattle.std.proofs.Common.{◌≡◌, ℕ, ◌+◌, ◌-◌, ◌*◌, ◌/◌, ◌≤◌, Bool, true, false, cond, List, [], ◌∷◌, Option, Some, None, refl, sym, ap, subst, arith}
use Rattle.std.specs.Prelude.{if◌then◌else◌, max}
use Rattle.std.proofs.Math.Nat.{div-le_self, mul-le-mul}
use Rattle.cache_core.specs.declared.config.CacheConfig.{CacheConfig}
use Rattle.cache_core.specs.Stands as cache
use Rattle.cache_core.specs.Replay.{Call, Access, Settle, block_of, fill_end_of, touch_of}
use Rattle.mem_hier.specs.declared.config.HierConfig.{HierConfig}
use Rattle.mem_hier.specs.Limits.{is_shared, own, behind_il1, IsShape, IsAllowed}
use Rattle.mem_hier.specs.Replay.{Reference, Fetch, Load, Store, SettleAll, Timing, Passed, Served, Calls, Answer, memory_latency, last_timing, first_timing, il1_timing, dl1_timing, dl2_timing, tlb_timing, behind_il1_lookup, behind_il1_timing, last_access, written_back, first_access, through, translated, data_way, fetch_way, data_answer, fetch_answer, calls_of}
use Rattle.mem_hier.specs.Stands.{Caches, LevelStands, CachesStand, last_cycle_in, CyclesRise}
use Rattle.mem_hier.specs.Sound.{FillsBy, LevelMet, CachesMet, IsTimed, AreTimed, timings_of}
use Rattle.mem_hier.proofs.Fills.{fills_access, fills_fill, fills_settle, fills_none, fills_later, IsWithin, hit_bounds, last_fills, last_within, written_fills}
use Rattle.mem_hier.proofs.Steps.{first_hit, first_missed}
use Rattle.mem_hier.proofs.Ways.{IsBehind, behind_shared, behind_own, fetch_cases}
use Rattle.mem_hier.proofs.Shapes.{behind_fits}

-- a level that is there has ways, and fills no block later than this
pub record IsFilled (shape : CacheConfig) (calls : List Call) (last : ℕ) : Type 0 where
  pub ways : 1 ≤ shape.ways
  pub fills : FillsBy shape calls last

abbrev pub LevelFills : Option CacheConfig → List Call → ℕ → Type 0
LevelFills None calls last = Unit {0}
LevelFills (Some shape) calls last = IsFilled shape calls last

level_later : (o : Option CacheConfig) (calls : List Call) (last last' : ℕ) → last ≤ last' → LevelFills o calls last → LevelFills o calls last'
level_later None calls last last' le fills = tt
level_later (Some shape) calls last last' le fills = record { ways = fills.ways; fills = fills_later shape calls last last' le fills.fills }

-- a level of a sound way takes no more for a hit than for a miss, and a first level no less than the second one and itself
pub record WayTimed (t : Timing) (o : Option CacheConfig) (t' : Timing) (o' : Option CacheConfig) : Type 0 where
  pub first : t.lookup ≤ t.greatest
  pub second : t'.lookup ≤ t'.greatest
  pub both : (s s' : CacheConfig) → o ≡ Some s → o' ≡ Some s' → t.lookup + t'.greatest ≤ t.greatest

pub last_timed : (c : HierConfig) (lookup : ℕ) (o : Option CacheConfig) → lookup ≤ (last_timing c lookup o).greatest
last_timed c lookup None = omega arith
last_timed c lookup (Some s) = omega arith

pub first_timed : (c : HierConfig) (lookup : ℕ) (o : Option CacheConfig) (lookup' : ℕ) (o' : Option CacheConfig) → WayTimed (first_timing c lookup o lookup' o') o (last_timing c lookup' o') o'
first_timed c lookup None lookup' o' = record { first = omega arith; second = last_timed c lookup' o'; both = λ s s' e e'. cc }
first_timed c lookup (Some s) lookup' None = record { first = last_timed c lookup (Some s); second = omega arith; both = λ r r' e e'. cc }
first_timed c lookup (Some s) lookup' (Some s') = record { first = omega arith; second = last_timed c lookup' (Some s'); both = λ r r' e e'. omega arith }

pub tlb_timed : (c : HierConfig) (o : Option CacheConfig) → 1 ≤ c.tlb_lat → 1 ≤ (tlb_timing c o).greatest
tlb_timed c None le = omega arith
tlb_timed c (Some s) le = le

-- what a way comes to: its latency is within its timing, and its levels stay filled
pub record WayFills (t : Timing) (o : Option CacheConfig) (t' : Timing) (o' : Option CacheConfig) (cycle : ℕ) (p : Passed) : Type 0 where
  pub within : IsWithin t p.latency
  pub first : LevelFills o p.first (cycle + t.greatest)
  pub second : LevelFills o' p.second (cycle + t'.greatest)

first_fills : (t : Timing) (shape : CacheConfig) (calls : List Call) (t' : Timing) (shape' : CacheConfig) (calls' : List Call) (addr : ℕ) (write : Bool) (cycle : ℕ)
    → t.lookup ≤ t.greatest → t'.lookup ≤ t'.greatest → t.lookup + t'.greatest ≤ t.greatest → IsFilled shape calls (cycle + t.greatest) → IsFilled shape' calls' (cycle + t'.greatest)
    → WayFills t (Some shape) t' (Some shape') cycle (first_access t shape calls t' shape' calls' addr write cycle)
first_fills t shape calls t' shape' calls' addr write cycle le le' sum f f' = by_case (touch_of shape calls addr write).hit refl
  where
    accessed : FillsBy shape (Access addr write ∷ calls) (cycle + t.greatest)
    accessed = fills_access shape calls addr write (cycle + t.greatest) f.ways f.fills

    by_case : (b : Bool) → (touch_of shape calls addr write).hit ≡ b → WayFills t (Some shape) t' (Some shape') cycle (first_access t shape calls t' shape' calls' addr write cycle)
    by_case true e =
        let bounds = hit_bounds t (fill_end_of shape calls (block_of shape addr)) cycle le (f.fills (block_of shape addr)) in
        subst (WayFills t (Some shape) t' (Some shape') cycle) (sym (first_hit t shape calls t' shape' calls' addr write cycle e))
        (record { within = record { least = bounds.0; most = bounds.1 }; first = record { ways = f.ways; fills = accessed }; second = f' })
    by_case false e =
        let o = (touch_of shape calls addr write).victim in
        let written = written_back t' shape' calls' o cycle in
        let written_by = written_fills t' shape' calls' o cycle f'.ways f'.fills in
        let within = last_within t' shape' written addr false cycle le' written_by in
        let least : t'.lookup ≤ (last_access t' shape' written addr false cycle).latency = within.least in
        let most : (last_access t' shape' written addr false cycle).latency ≤ t'.greatest = within.most in
        subst (WayFills t (Some shape) t' (Some shape') cycle) (sym (first_missed t shape calls t' shape' calls' addr write cycle e))
        (record {
          within = record { least = omega arith; most = omega arith };
          first = record { ways = f.ways; fills = fills_fill shape _ addr _ (cycle + t.greatest) f.ways (omega arith) accessed };
          second = record { ways = f'.ways; fills = last_fills t' shape' written addr false cycle f'.ways written_by };
        })

through_fills : (t : Timing) (o : Option CacheConfig) (calls : List Call) (t' : Timing) (o' : Option CacheConfig) (calls' : List Call) (addr : ℕ) (write : Bool) (cycle : ℕ) → WayTimed t o t' o'
    → LevelFills o calls (cycle + t.greatest) → LevelFills o' calls' (cycle + t'.greatest) → WayFills t o t' o' cycle (through t o calls t' o' calls' addr write cycle)
unfolding through
through_fills t None calls t' o' calls' addr write cycle timed f f' =
    record { within = record { least = omega arith; most = timed.first }; first = tt; second = f' }
through_fills t (Some s) calls t' None calls' addr write cycle timed f f' =
    record {
      within = last_within t s calls addr write cycle timed.first f.fills;
      first = record { ways = f.ways; fills = last_fills t s calls addr write cycle f.ways f.fills };
      second = tt;
    }
through_fills t (Some s) calls t' (Some s') calls' addr write cycle timed f f' =
    first_fills t s calls t' s' calls' addr write cycle timed.first timed.second (timed.both s s' refl refl) f f'

-- what a TLB comes to
pub record PageFills (t : Timing) (o : Option CacheConfig) (cycle : ℕ) (p : Served) : Type 0 where
  pub within : IsWithin t p.latency
  pub fills : LevelFills o p.calls (cycle + t.greatest)

translated_fills : (t : Timing) (o : Option CacheConfig) (calls : List Call) (addr cycle : ℕ) → t.lookup ≤ t.greatest → LevelFills o calls (cycle + t.greatest) → PageFills t o cycle (translated t o calls addr cycle)
unfolding translated
translated_fills t None calls addr cycle le f = record { within = record { least = omega arith; most = le }; fills = tt }
translated_fills t (Some s) calls addr cycle le f =
    record {
      within = last_within t s calls addr false cycle le f.fills;
      fills = record { ways = f.ways; fills = last_fills t s calls addr false cycle f.ways f.fills };
    }

-- every cache and TLB fills its blocks at the latest its greatest latency after this cycle
pub record CallsFill (c : HierConfig) (s : Calls) (cycle : ℕ) : Type 0 where
  pub il1 : LevelFills (own c.il1) s.il1 (cycle + (il1_timing c).greatest)
  pub dl1 : LevelFills (own c.dl1) s.dl1 (cycle + (dl1_timing c).greatest)
  pub il2 : LevelFills (own c.il2) s.il2 (cycle + (last_timing c c.il2lat (own c.il2)).greatest)
  pub dl2 : LevelFills (own c.dl2) s.dl2 (cycle + (dl2_timing c).greatest)
  pub itlb : LevelFills c.itlb s.itlb (cycle + (tlb_timing c c.itlb).greatest)
  pub dtlb : LevelFills c.dtlb s.dtlb (cycle + (tlb_timing c c.dtlb).greatest)

calls_later : (c : HierConfig) (s : Calls) (cycle cycle' : ℕ) → cycle ≤ cycle' → CallsFill c s cycle → CallsFill c s cycle'
calls_later c s cycle cycle' le f =
    record {
      il1 = level_later _ _ _ _ (omega arith) f.il1;
      dl1 = level_later _ _ _ _ (omega arith) f.dl1;
      il2 = level_later _ _ _ _ (omega arith) f.il2;
      dl2 = level_later _ _ _ _ (omega arith) f.dl2;
      itlb = level_later _ _ _ _ (omega arith) f.itlb;
      dtlb = level_later _ _ _ _ (omega arith) f.dtlb;
    }

-- what a reference comes to, by the timing of its first level
pub record IsFilling (t : Timing) (c : HierConfig) (cycle : ℕ) (p : Answer) : Type 0 where
  pub within : IsWithin t p.latency
  pub fills : CallsFill c p.calls cycle

data_fills : (c : HierConfig) (s : Calls) (addr : ℕ) (write : Bool) (cycle : ℕ) → CallsFill c s cycle → IsFilling (dl1_timing c) c cycle (data_way c s addr write cycle)
unfolding data_way
data_fills c s addr write cycle f =
    let p = through_fills (dl1_timing c) (own c.dl1) s.dl1 (dl2_timing c) (own c.dl2) s.dl2 addr write cycle (first_timed c c.dl1lat (own c.dl1) c.dl2lat (own c.dl2)) f.dl1 f.dl2 in
    record {
      within = p.within;
      fills = record { il1 = f.il1; dl1 = p.first; il2 = f.il2; dl2 = p.second; itlb = f.itlb; dtlb = f.dtlb };
    }

-- the timing of a fetch's first level
abbrev pub fetch_timing : HierConfig → Timing
fetch_timing c = if is_shared c.il1 then dl1_timing c else il1_timing c

timing_data : (c : HierConfig) → is_shared c.il1 ≡ true → fetch_timing c ≡ dl1_timing c
timing_data c e = ap (λ b. cond b (dl1_timing c) (il1_timing c)) e

timing_own : (c : HierConfig) → is_shared c.il1 ≡ false → fetch_timing c ≡ il1_timing c
timing_own c e = ap (λ b. cond b (dl1_timing c) (il1_timing c)) e

of_timing : (t t' : Timing) (c : HierConfig) (cycle : ℕ) (p : Answer) → t ≡ t' → IsFilling t' c cycle p → IsFilling t c cycle p
of_timing t t' c cycle p e f = subst (λ x. IsFilling x c cycle p) (sym e) f

-- the level behind il1 and the one that stands there
behind_fills : (c : HierConfig) (second : Option CacheConfig) (t : Timing) (calls : List Call) (cycle : ℕ) → IsBehind c second t
    → LevelFills second calls (cycle + t.greatest) → LevelFills (behind_il1 c) calls (cycle + (behind_il1_timing c).greatest)
behind_fills c second t calls cycle behind f =
    subst (λ o. LevelFills o calls (cycle + (behind_il1_timing c).greatest)) (sym behind.shape)
    (subst (λ (x : Timing). LevelFills second calls (cycle + x.greatest)) (sym behind.timing) f)

fills_behind : (c : HierConfig) (second : Option CacheConfig) (t : Timing) (calls : List Call) (cycle : ℕ) → IsBehind c second t
    → LevelFills (behind_il1 c) calls (cycle + (behind_il1_timing c).greatest) → LevelFills second calls (cycle + t.greatest)
fills_behind c second t calls cycle behind f =
    subst (λ (x : Timing). LevelFills second calls (cycle + x.greatest)) behind.timing
    (subst (λ o. LevelFills o calls (cycle + (behind_il1_timing c).greatest)) behind.shape f)

-- il1's way, whatever stands behind
il1_fills : (c : HierConfig) (s : Calls) (calls' : List Call) (second : Option CacheConfig) (t : Timing) (pc cycle : ℕ) (p : Passed) → IsBehind c second t → CallsFill c s cycle → LevelFills second calls' (cycle + t.greatest)
    → p ≡ through (il1_timing c) (own c.il1) s.il1 (behind_il1_timing c) (behind_il1 c) calls' pc false cycle
    → IsWithin (il1_timing c) p.latency × LevelFills (own c.il1) p.first (cycle + (il1_timing c).greatest) × LevelFills second p.second (cycle + t.greatest)
il1_fills c s calls' second t pc cycle p behind f f' is =
    let w = through_fills (il1_timing c) (own c.il1) s.il1 (behind_il1_timing c) (behind_il1 c) calls' pc false cycle (first_timed c c.il1lat (own c.il1) (behind_il1_lookup c) (behind_il1 c)) f.il1 (behind_fills c second t calls' cycle behind f') in
    let w' = subst (WayFills (il1_timing c) (own c.il1) (behind_il1_timing c) (behind_il1 c) cycle) (sym is) w in
    (w'.within, w'.first, fills_behind c second t p.second cycle behind w'.second)

pub fetch_fills : (c : HierConfig) (s : Calls) (pc cycle : ℕ) → CallsFill c s cycle → IsFilling (fetch_timing c) c cycle (fetch_way c s pc cycle)
fetch_fills c s pc cycle f =
    fetch_cases (IsFilling (fetch_timing c) c cycle) c s pc cycle
    (λ e. of_timing _ _ c cycle _ (timing_data c e) (data_fills c s pc false cycle f))
    (λ e e' p is.
    let w = il1_fills c s s.dl2 (own c.dl2) (dl2_timing c) pc cycle p (behind_shared c e') f f.dl2 is in
    of_timing _ _ c cycle _ (timing_own c e) (record { within = w.0; fills = record { il1 = w.1; dl1 = f.dl1; il2 = f.il2; dl2 = w.2; itlb = f.itlb; dtlb = f.dtlb } }))
    (λ e e' p is.
    let w = il1_fills c s s.il2 (own c.il2) (last_timing c c.il2lat (own c.il2)) pc cycle p (behind_own c e') f f.il2 is in
    of_timing _ _ c cycle _ (timing_own c e) (record { within = w.0; fills = record { il1 = w.1; dl1 = f.dl1; il2 = w.2; dl2 = f.dl2; itlb = f.itlb; dtlb = f.dtlb } }))

-- a whole reference: at least what its first level looks up, at most the greater of its first level's and its TLB's greatest
pub record AnswerFills (t page : Timing) (c : HierConfig) (cycle : ℕ) (p : Answer) : Type 0 where
  pub least : t.lookup ≤ p.latency
  pub most : p.latency ≤ max t.greatest page.greatest
  pub fills : CallsFill c p.calls cycle

pub data_answer_fills : (c : HierConfig) (s : Calls) (addr : ℕ) (write : Bool) (cycle : ℕ) → 1 ≤ c.tlb_lat → CallsFill c s cycle → AnswerFills (dl1_timing c) (tlb_timing c c.dtlb) c cycle (data_answer c s addr write cycle)
unfolding data_answer data_way
data_answer_fills c s addr write cycle le f =
    let way = data_fills c s addr write cycle f in
    let page = translated_fills (tlb_timing c c.dtlb) c.dtlb s.dtlb addr cycle (tlb_timed c c.dtlb le) f.dtlb in
    let low = way.within.least in
    let high = way.within.most in
    let high' = page.within.most in
    record {
      least = omega arith;
      most = omega arith;
      fills = record { il1 = way.fills.il1; dl1 = way.fills.dl1; il2 = way.fills.il2; dl2 = way.fills.dl2; itlb = way.fills.itlb; dtlb = page.fills };
    }

pub fetch_answer_fills : (c : HierConfig) (s : Calls) (pc cycle : ℕ) → 1 ≤ c.tlb_lat → CallsFill c s cycle → AnswerFills (fetch_timing c) (tlb_timing c c.itlb) c cycle (fetch_answer c s pc cycle)
unfolding fetch_answer
fetch_answer_fills c s pc cycle le f =
    let way = fetch_fills c s pc cycle f in
    let page = translated_fills (tlb_timing c c.itlb) c.itlb s.itlb pc cycle (tlb_timed c c.itlb le) f.itlb in
    let low = way.within.least in
    let high = way.within.most in
    let high' = page.within.most in
    record {
      least = omega arith;
      most = omega arith;
      fills = record { il1 = way.fills.il1; dl1 = way.fills.dl1; il2 = way.fills.il2; dl2 = way.fills.dl2; itlb = page.fills; dtlb = way.fills.dtlb };
    }

-- histories
none_filled : (o : Option CacheConfig) (last : ℕ) → IsShape o → LevelFills o [] last
none_filled None last fits = tt
none_filled (Some s) last fits = let w = fits.fits s refl in record { ways = w.least_ways; fills = fills_none s last }

settled_fills : (o : Option CacheConfig) (calls : List Call) (last last' : ℕ) → LevelFills o calls last → LevelFills o (Settle ∷ calls) last'
settled_fills None calls last last' f = tt
settled_fills (Some s) calls last last' f = record { ways = f.ways; fills = fills_settle s calls last' f.ways }

pub calls_fill : (c : HierConfig) (h : List Reference) → IsAllowed c → CyclesRise h → CallsFill c (calls_of c h) (last_cycle_in h)
unfolding calls_of
calls_fill c [] allowed rise =
    let shapes = allowed.shapes in
    record {
      il1 = none_filled _ _ shapes.il1;
      dl1 = none_filled _ _ shapes.dl1;
      il2 = none_filled _ _ shapes.il2;
      dl2 = none_filled _ _ shapes.dl2;
      itlb = none_filled _ _ shapes.itlb;
      dtlb = none_filled _ _ shapes.dtlb;
    }
calls_fill c (Fetch pc cycle ∷ h) allowed rise = (fetch_answer_fills c (calls_of c h) pc cycle allowed.memory.tlb.least (calls_later c _ _ cycle rise.0 (calls_fill c h allowed rise.1))).fills
calls_fill c (Load addr cycle ∷ h) allowed rise = (data_answer_fills c (calls_of c h) addr false cycle allowed.memory.tlb.least (calls_later c _ _ cycle rise.0 (calls_fill c h allowed rise.1))).fills
calls_fill c (Store addr cycle ∷ h) allowed rise = (data_answer_fills c (calls_of c h) addr true cycle allowed.memory.tlb.least (calls_later c _ _ cycle rise.0 (calls_fill c h allowed rise.1))).fills
calls_fill c (SettleAll ∷ h) allowed rise =
    let f = calls_fill c h allowed rise in
    record {
      il1 = settled_fills _ _ _ _ f.il1;
      dl1 = settled_fills _ _ _ _ f.dl1;
      il2 = settled_fills _ _ _ _ f.il2;
      dl2 = settled_fills _ _ _ _ f.dl2;
      itlb = settled_fills _ _ _ _ f.itlb;
      dtlb = settled_fills _ _ _ _ f.dtlb;
    }

pub calls_fill_by : (c : HierConfig) (h : List Reference) (cycle : ℕ) → IsAllowed c → CyclesRise h → last_cycle_in h ≤ cycle → CallsFill c (calls_of c h) cycle
calls_fill_by c h cycle allowed rise le = calls_later c _ _ cycle le (calls_fill c h allowed rise)

-- the caches as a reference meets them
level_met : (v : Option cache.Held) (o : Option CacheConfig) (calls : List Call) (last : ℕ) → LevelStands v o calls → LevelFills o calls last → LevelMet v o calls last
level_met None None calls last stands f = tt
level_met None (Some s) calls last stands f = stands
level_met (Some v) None calls last stands f = stands
level_met (Some v) (Some s) calls last stands f = record { stands = stands; ways = f.ways; fills = f.fills }

pub caches_met : (v : Caches) (c : HierConfig) (s : Calls) (cycle : ℕ) → CachesStand v c s → CallsFill c s cycle → CachesMet v c s cycle
caches_met v c s cycle stand f =
    record {
      il1 = level_met _ _ _ _ stand.il1 f.il1;
      dl1 = level_met _ _ _ _ stand.dl1 f.dl1;
      il2 = level_met _ _ _ _ stand.il2 f.il2;
      dl2 = level_met _ _ _ _ stand.dl2 f.dl2;
      itlb = level_met _ _ _ _ stand.itlb f.itlb;
      dtlb = level_met _ _ _ _ stand.dtlb f.dtlb;
    }

-- the numbers of a configuration are small
memory_le : (c : HierConfig) (block : ℕ) → IsAllowed c → block ≤ 65536 → memory_latency c block ≤ 10000000
memory_le c block allowed le =
    let width = c.mem_width in
    let most = allowed.memory.width.most in
    let first = allowed.memory.first.most in
    let inter = allowed.memory.inter.most in
    let chunks : (block + width - 1) / width ≤ block + width - 1 = div-le_self (block + width - 1) width in
    let few : (block + width - 1) / width - 1 ≤ 70000 = omega arith in
    let all : c.mem_inter * ((block + width - 1) / width - 1) ≤ 100 * 70000 = mul-le-mul inter few in
    omega arith

last_le : (c : HierConfig) (lookup : ℕ) (o : Option CacheConfig) → IsAllowed c → IsShape o → lookup ≤ 100 → (last_timing c lookup o).greatest ≤ 10000100
last_le c lookup None allowed fits le = omega arith
last_le c lookup (Some s) allowed fits le = let memory = memory_le c s.block allowed (fits.fits s refl).most_block in omega arith

behind_lookup_le : (c : HierConfig) → IsAllowed c → behind_il1_lookup c ≤ 100
behind_lookup_le c allowed = by_case (is_shared c.il2)
  where
    by_case : (b : Bool) → cond b c.dl2lat c.il2lat ≤ 100
    by_case true = allowed.lookups.dl2.most
    by_case false = allowed.lookups.il2.most

first_is_timed : (t t' : Timing) (o o' : Option CacheConfig) → WayTimed t o t' o' → t.lookup ≤ 100 → t'.greatest ≤ 10000100 → IsTimed t t'
first_is_timed t t' o o' timed le le' = record { first = timed.first; second = timed.second; sum = omega arith }

pub first_lookup : (c : HierConfig) (lookup : ℕ) (o : Option CacheConfig) (lookup' : ℕ) (o' : Option CacheConfig) → (first_timing c lookup o lookup' o').lookup ≡ lookup
first_lookup c lookup None lookup' o' = refl
first_lookup c lookup (Some s) lookup' None = refl
first_lookup c lookup (Some s) lookup' (Some s') = refl

pub are_timed : (c : HierConfig) → IsAllowed c → AreTimed (timings_of c)
are_timed c allowed =
    let il1 = subst (λ n. n ≤ 100) (sym (first_lookup c c.il1lat (own c.il1) (behind_il1_lookup c) (behind_il1 c))) allowed.lookups.il1.most in
    let dl1 = subst (λ n. n ≤ 100) (sym (first_lookup c c.dl1lat (own c.dl1) c.dl2lat (own c.dl2))) allowed.lookups.dl1.most in
    record {
      il1 = first_is_timed _ _ (own c.il1) (behind_il1 c) (first_timed c c.il1lat (own c.il1) (behind_il1_lookup c) (behind_il1 c)) il1
          (last_le c (behind_il1_lookup c) (behind_il1 c) allowed (behind_fits c (own c.dl2) (behind_il1 c) allowed.shapes refl refl) (behind_lookup_le c allowed));
      dl1 = first_is_timed _ _ (own c.dl1) (own c.dl2) (first_timed c c.dl1lat (own c.dl1) c.dl2lat (own c.dl2)) dl1
          (last_le c c.dl2lat (own c.dl2) allowed allowed.shapes.dl2 allowed.lookups.dl2.most);
      itlb = tlb_timed c c.itlb allowed.memory.tlb.least;
      dtlb = tlb_timed c c.dtlb allowed.memory.tlb.least;
    }
