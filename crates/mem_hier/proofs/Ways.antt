-- What the steps of the code say of the caches together.
use Rattle.std.proofs.Common.{◌≡◌, ℕ, ◌+◌, ◌≤◌, Bool, true, false, cond, List, Option, refl, sym, ◌∙◌, ap, subst, arith}
use Rattle.std.specs.Prelude.{if◌then◌else◌, max}
use Rattle.cache_core.specs.declared.config.CacheConfig.{CacheConfig}
use Rattle.cache_core.specs.Replay.{Call}
use Rattle.cache_core.specs.Stands as cache
use Rattle.mem_hier.specs.declared.config.Level.{Level}
use Rattle.mem_hier.specs.declared.config.Level.TheVariants.{Off, Own, Shared}
use Rattle.mem_hier.specs.declared.config.HierConfig.{HierConfig}
use Rattle.mem_hier.specs.declared.timing.Timings.{Timings}
use Rattle.mem_hier.specs.Limits.{is_shared, own, own_or, behind_il1}
use Rattle.mem_hier.specs.Replay.{Timing, Passed, Calls, Answer, last_timing, il1_timing, dl2_timing, tlb_timing, behind_il1_lookup, behind_il1_timing, through, translated, data_way, fetch_way, data_answer, fetch_answer}
use Rattle.mem_hier.specs.Stands.{Caches, LevelStands}
use Rattle.mem_hier.specs.Sound.{timings_of, LevelMet, CachesMet, LevelServed, WayPassed, IsAnswered, AccessesBy}
use Rattle.mem_hier.proofs.Steps.{stands_met}

-- what lies behind il1, by whether it is the data side's
shared_or : (level : Level) (shared : Option CacheConfig) → is_shared level ≡ true → own_or level shared ≡ shared
shared_or Off shared e = cc
shared_or (Own shape) shared e = cc
shared_or Shared shared e = refl

own_else : (level : Level) (shared : Option CacheConfig) → is_shared level ≡ false → own_or level shared ≡ own level
own_else Off shared e = refl
own_else (Own shape) shared e = refl
own_else Shared shared e = cc

pub record IsBehind (c : HierConfig) (second : Option CacheConfig) (t : Timing) : Type 0 where
  pub shape : behind_il1 c ≡ second
  pub timing : behind_il1_timing c ≡ t

pub behind_shared : (c : HierConfig) → is_shared c.il2 ≡ true → IsBehind c (own c.dl2) (dl2_timing c)
behind_shared c e =
    let shape : behind_il1 c ≡ own c.dl2 = shared_or c.il2 (own c.dl2) e in
    let lookup : behind_il1_lookup c ≡ c.dl2lat = ap (λ b. cond b c.dl2lat c.il2lat) e in
    record { shape = shape; timing = ap (λ n. last_timing c n (behind_il1 c)) lookup ∙ ap (last_timing c c.dl2lat) shape }

pub behind_own : (c : HierConfig) → is_shared c.il2 ≡ false → IsBehind c (own c.il2) (last_timing c c.il2lat (own c.il2))
behind_own c e =
    let shape : behind_il1 c ≡ own c.il2 = own_else c.il2 (own c.dl2) e in
    let lookup : behind_il1_lookup c ≡ c.il2lat = ap (λ b. cond b c.dl2lat c.il2lat) e in
    record { shape = shape; timing = ap (λ n. last_timing c n (behind_il1 c)) lookup ∙ ap (last_timing c c.il2lat) shape }

-- the way of a fetch, by the shared levels
fetch_by : HierConfig → Calls → ℕ → ℕ → Bool → Bool → Answer
fetch_by c s pc cycle first second =
    let own_second = through (il1_timing c) (own c.il1) s.il1 (behind_il1_timing c) (behind_il1 c) s.il2 pc false cycle in
    let shared_second = through (il1_timing c) (own c.il1) s.il1 (behind_il1_timing c) (behind_il1 c) s.dl2 pc false cycle in
    if first then data_way c s pc false cycle
    else (if second
    then record { latency = shared_second.latency; calls = record s { il1 = shared_second.first; dl2 = shared_second.second } }
    else record { latency = own_second.latency; calls = record s { il1 = own_second.first; il2 = own_second.second } })

pub fetch_data : (c : HierConfig) (s : Calls) (pc cycle : ℕ) → is_shared c.il1 ≡ true → fetch_way c s pc cycle ≡ data_way c s pc false cycle
unfolding fetch_way fetch_by
fetch_data c s pc cycle e = ap (λ b. fetch_by c s pc cycle b (is_shared c.il2)) e

pub fetch_shared : (c : HierConfig) (s : Calls) (pc cycle : ℕ) → is_shared c.il1 ≡ false → is_shared c.il2 ≡ true
    → fetch_way c s pc cycle ≡ (let p = through (il1_timing c) (own c.il1) s.il1 (behind_il1_timing c) (behind_il1 c) s.dl2 pc false cycle in
    record { latency = p.latency; calls = record s { il1 = p.first; dl2 = p.second } })
unfolding fetch_way fetch_by
fetch_shared c s pc cycle e e' = ap (λ b. fetch_by c s pc cycle b (is_shared c.il2)) e ∙ ap (fetch_by c s pc cycle false) e'

pub fetch_own : (c : HierConfig) (s : Calls) (pc cycle : ℕ) → is_shared c.il1 ≡ false → is_shared c.il2 ≡ false
    → fetch_way c s pc cycle ≡ (let p = through (il1_timing c) (own c.il1) s.il1 (behind_il1_timing c) (behind_il1 c) s.il2 pc false cycle in
    record { latency = p.latency; calls = record s { il1 = p.first; il2 = p.second } })
unfolding fetch_way fetch_by
fetch_own c s pc cycle e e' = ap (λ b. fetch_by c s pc cycle b (is_shared c.il2)) e ∙ ap (fetch_by c s pc cycle false) e'

-- what holds of the three ways of a fetch holds of its way
pub fetch_cases : (P : Answer → Type 0) (c : HierConfig) (s : Calls) (pc cycle : ℕ)
    → (is_shared c.il1 ≡ true → P (data_way c s pc false cycle))
    → (is_shared c.il1 ≡ false → is_shared c.il2 ≡ true → (p : Passed) → p ≡ through (il1_timing c) (own c.il1) s.il1 (behind_il1_timing c) (behind_il1 c) s.dl2 pc false cycle → P (record { latency = p.latency; calls = record s { il1 = p.first; dl2 = p.second } }))
    → (is_shared c.il1 ≡ false → is_shared c.il2 ≡ false → (p : Passed) → p ≡ through (il1_timing c) (own c.il1) s.il1 (behind_il1_timing c) (behind_il1 c) s.il2 pc false cycle → P (record { latency = p.latency; calls = record s { il1 = p.first; il2 = p.second } }))
    → P (fetch_way c s pc cycle)
fetch_cases P c s pc cycle on_data on_shared on_own = by_case (is_shared c.il1) (is_shared c.il2) refl refl
  where
    by_case : (b b' : Bool) → is_shared c.il1 ≡ b → is_shared c.il2 ≡ b' → P (fetch_way c s pc cycle)
    by_case true b' e e' = subst P (sym (fetch_data c s pc cycle e)) (on_data e)
    by_case false true e e' = subst P (sym (fetch_shared c s pc cycle e e')) (on_shared e e' _ refl)
    by_case false false e e' = subst P (sym (fetch_own c s pc cycle e e')) (on_own e e' _ refl)

-- no way asks a TLB
pub record LeavesTlbs (s : Calls) (p : Answer) : Type 0 where
  pub itlb : p.calls.itlb ≡ s.itlb
  pub dtlb : p.calls.dtlb ≡ s.dtlb

pub data_leaves : (c : HierConfig) (s : Calls) (addr : ℕ) (write : Bool) (cycle : ℕ) → LeavesTlbs s (data_way c s addr write cycle)
unfolding data_way
data_leaves c s addr write cycle = record { itlb = refl; dtlb = refl }

pub fetch_leaves : (c : HierConfig) (s : Calls) (pc cycle : ℕ) → LeavesTlbs s (fetch_way c s pc cycle)
fetch_leaves c s pc cycle =
    fetch_cases (LeavesTlbs s) c s pc cycle (λ e. data_leaves c s pc false cycle) (λ e e' p q. record { itlb = refl; dtlb = refl }) (λ e e' p q. record { itlb = refl; dtlb = refl })

-- what a way of the code says of any calls
abbrev pub Passes : Timings → (Timings → Timing) → (Timings → Timing) → Option cache.Held → Option cache.Held → ℕ → Bool → ℕ → ℕ → Option cache.Held → Option cache.Held → Type 0
Passes ts first second v v' addr write cycle n new new' =
    (shape : Option CacheConfig) (calls : List Call) (shape' : Option CacheConfig) (calls' : List Call) → LevelMet v shape calls (cycle + (first ts).greatest) → LevelMet v' shape' calls' (cycle + (second ts).greatest)
    → WayPassed n new shape new' shape' (through (first ts) shape calls (second ts) shape' calls' addr write cycle)

pub answered_data : (c : HierConfig) (s : Calls) (ts : Timings) (v : Caches) (addr : ℕ) (write : Bool) (cycle n : ℕ) (new new' : Option cache.Held) → ts ≡ timings_of c → CachesMet v c s cycle
    → Passes ts (λ t. t.dl1) (λ t. t.dl2) v.dl1 v.dl2 addr write cycle n new new' → IsAnswered n (record v { dl1 = new; dl2 = new' }) c (data_way c s addr write cycle)
unfolding data_way
answered_data c s ts v addr write cycle n new new' is met passes =
    let passes' = subst (λ x. Passes x (λ t. t.dl1) (λ t. t.dl2) v.dl1 v.dl2 addr write cycle n new new') is passes in
    let p = passes' (own c.dl1) s.dl1 (own c.dl2) s.dl2 met.dl1 met.dl2 in
    record {
      latency = p.latency;
      caches = record {
        il1 = stands_met _ _ _ _ met.il1;
        dl1 = p.first;
        il2 = stands_met _ _ _ _ met.il2;
        dl2 = p.second;
        itlb = stands_met _ _ _ _ met.itlb;
        dtlb = stands_met _ _ _ _ met.dtlb;
      };
    }

pub answered_first : (c : HierConfig) (s : Calls) (v : Caches) (pc cycle n : ℕ) → is_shared c.il1 ≡ true → IsAnswered n v c (data_way c s pc false cycle) → IsAnswered n v c (fetch_way c s pc cycle)
answered_first c s v pc cycle n e answered = subst (IsAnswered n v c) (sym (fetch_data c s pc cycle e)) answered

pub of_shape : (v : Option cache.Held) (o o' : Option CacheConfig) (calls : List Call) → o ≡ o' → LevelStands v o calls → LevelStands v o' calls
of_shape v o o' calls e stands = subst (λ x. LevelStands v x calls) e stands

-- the level behind il1 as an access of it meets the one that stands there
behind_met : (c : HierConfig) (second : Option CacheConfig) (t : Timing) (v : Option cache.Held) (calls : List Call) (cycle : ℕ) → IsBehind c second t
    → LevelMet v second calls (cycle + t.greatest) → LevelMet v (behind_il1 c) calls (cycle + (behind_il1_timing c).greatest)
behind_met c second t v calls cycle behind met =
    subst (λ o. LevelMet v o calls (cycle + (behind_il1_timing c).greatest)) (sym behind.shape)
    (subst (λ (x : Timing). LevelMet v second calls (cycle + x.greatest)) (sym behind.timing) met)

pub answered_shared : (c : HierConfig) (s : Calls) (ts : Timings) (v : Caches) (pc cycle n : ℕ) (new new' : Option cache.Held) → ts ≡ timings_of c → is_shared c.il1 ≡ false → is_shared c.il2 ≡ true → CachesMet v c s cycle
    → Passes ts (λ t. t.il1) (λ t. t.behind_il1) v.il1 v.dl2 pc false cycle n new new' → IsAnswered n (record v { il1 = new; dl2 = new' }) c (fetch_way c s pc cycle)
answered_shared c s ts v pc cycle n new new' is e e' met passes =
    let behind = behind_shared c e' in
    let passes' = subst (λ x. Passes x (λ t. t.il1) (λ t. t.behind_il1) v.il1 v.dl2 pc false cycle n new new') is passes in
    let p = passes' (own c.il1) s.il1 (behind_il1 c) s.dl2 met.il1 (behind_met c (own c.dl2) (dl2_timing c) v.dl2 s.dl2 cycle behind met.dl2) in
    subst (IsAnswered n (record v { il1 = new; dl2 = new' }) c) (sym (fetch_shared c s pc cycle e e')) (record {
      latency = p.latency;
      caches = record {
        il1 = p.first;
        dl1 = stands_met _ _ _ _ met.dl1;
        il2 = stands_met _ _ _ _ met.il2;
        dl2 = of_shape new' _ _ _ behind.shape p.second;
        itlb = stands_met _ _ _ _ met.itlb;
        dtlb = stands_met _ _ _ _ met.dtlb;
      };
    })

pub answered_own : (c : HierConfig) (s : Calls) (ts : Timings) (v : Caches) (pc cycle n : ℕ) (new new' : Option cache.Held) → ts ≡ timings_of c → is_shared c.il1 ≡ false → is_shared c.il2 ≡ false → CachesMet v c s cycle
    → Passes ts (λ t. t.il1) (λ t. t.behind_il1) v.il1 v.il2 pc false cycle n new new' → IsAnswered n (record v { il1 = new; il2 = new' }) c (fetch_way c s pc cycle)
answered_own c s ts v pc cycle n new new' is e e' met passes =
    let behind = behind_own c e' in
    let passes' = subst (λ x. Passes x (λ t. t.il1) (λ t. t.behind_il1) v.il1 v.il2 pc false cycle n new new') is passes in
    let p = passes' (own c.il1) s.il1 (behind_il1 c) s.il2 met.il1 (behind_met c (own c.il2) (last_timing c c.il2lat (own c.il2)) v.il2 s.il2 cycle behind met.il2) in
    subst (IsAnswered n (record v { il1 = new; il2 = new' }) c) (sym (fetch_own c s pc cycle e e')) (record {
      latency = p.latency;
      caches = record {
        il1 = p.first;
        dl1 = stands_met _ _ _ _ met.dl1;
        il2 = of_shape new' _ _ _ behind.shape p.second;
        dl2 = stands_met _ _ _ _ met.dl2;
        itlb = stands_met _ _ _ _ met.itlb;
        dtlb = stands_met _ _ _ _ met.dtlb;
      };
    })

-- what a TLB of the code says of any calls
abbrev pub Translates : Timings → (Timings → Timing) → Option cache.Held → ℕ → ℕ → ℕ → Option cache.Held → Type 0
Translates ts tlb v addr cycle n new =
    (shape : Option CacheConfig) (calls : List Call) → LevelMet v shape calls (cycle + (tlb ts).greatest) → LevelServed n new shape (translated (tlb ts) shape calls addr cycle)

slower : (a b c a' b' : ℕ) → a ≡ max b c → b ≡ a' → c ≡ b' → a ≡ max a' b'
slower a b c a' b' e q r = e ∙ (ap (λ x. max x c) q ∙ ap (max a') r)

pub data_answered : (c : HierConfig) (s : Calls) (ts : Timings) (v w : Caches) (addr : ℕ) (write : Bool) (cycle n way page : ℕ) (new : Option cache.Held) → ts ≡ timings_of c → CachesMet v c s cycle
    → IsAnswered way w c (data_way c s addr write cycle) → w.dtlb ≡ v.dtlb → Translates ts (λ t. t.dtlb) w.dtlb addr cycle page new → n ≡ max way page
    → IsAnswered n (record w { dtlb = new }) c (data_answer c s addr write cycle)
unfolding data_answer
data_answered c s ts v w addr write cycle n way page new is met answered same translates latency =
    let t = subst (λ x. Translates x (λ t. t.dtlb) w.dtlb addr cycle page new) is translates in
    let p = t c.dtlb s.dtlb (subst (λ o. LevelMet o c.dtlb s.dtlb (cycle + (tlb_timing c c.dtlb).greatest)) (sym same) met.dtlb) in
    record {
      latency = slower _ _ _ _ _ latency answered.latency p.latency;
      caches = record {
        il1 = answered.caches.il1;
        dl1 = answered.caches.dl1;
        il2 = answered.caches.il2;
        dl2 = answered.caches.dl2;
        itlb = answered.caches.itlb;
        dtlb = p.stands;
      };
    }

pub fetch_answered : (c : HierConfig) (s : Calls) (ts : Timings) (v w : Caches) (pc cycle n way page : ℕ) (new : Option cache.Held) → ts ≡ timings_of c → CachesMet v c s cycle
    → IsAnswered way w c (fetch_way c s pc cycle) → w.itlb ≡ v.itlb → Translates ts (λ t. t.itlb) w.itlb pc cycle page new → n ≡ max way page
    → IsAnswered n (record w { itlb = new }) c (fetch_answer c s pc cycle)
unfolding fetch_answer
fetch_answered c s ts v w pc cycle n way page new is met answered same translates latency =
    let t = subst (λ x. Translates x (λ t. t.itlb) w.itlb pc cycle page new) is translates in
    let p = t c.itlb s.itlb (subst (λ o. LevelMet o c.itlb s.itlb (cycle + (tlb_timing c c.itlb).greatest)) (sym same) met.itlb) in
    record {
      latency = slower _ _ _ _ _ latency answered.latency p.latency;
      caches = record {
        il1 = answered.caches.il1;
        dl1 = answered.caches.dl1;
        il2 = answered.caches.il2;
        dl2 = answered.caches.dl2;
        itlb = p.stands;
        dtlb = answered.caches.dtlb;
      };
    }

-- a bound on accesses holds for a greater number
pub by_more : (o : Option cache.Held) (n m : ℕ) → n ≤ m → AccessesBy o n → AccessesBy o m
by_more o n m le by v e = let p = by v e in omega (arith, p)
