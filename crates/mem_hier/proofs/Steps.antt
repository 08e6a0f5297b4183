-- What the steps of the code say of single caches.
use Rattle.std.proofs.Common.{◌≡◌, ℕ, ◌+◌, ◌-◌, ◌≤◌, Bool, true, false, cond, List, ◌∷◌, Option, Some, None, refl, sym, ◌∙◌, ap, subst, arith}
use Rattle.std.specs.Prelude.{if◌then◌else◌, max}
use Rattle.cache_core.specs.declared.config.CacheConfig.{CacheConfig}
use Rattle.cache_core.specs.declared.answers.Touch.{Touch}
use Rattle.cache_core.specs.declared.answers.Victim.{Victim}
use Rattle.cache_core.specs.Replay.{Call, Access, Fill, block_of, touch_of, fill_end_of}
use Rattle.cache_core.specs.Stands.{Held, StandsFor}
use Rattle.mem_hier.specs.Replay.{Timing, hit_latency, hit, missed, last_access, written_back, Passed, first_access, through, translated}
use Rattle.mem_hier.specs.Stands.{LevelStands}
use Rattle.mem_hier.specs.Sound.{FillsBy, IsMet, LevelMet, IsServed, LevelServed, IsPassed, WayPassed}
use Rattle.mem_hier.proofs.Fills.{last_hit, last_missed, last_fills}

-- a fill end that isn't waited for doesn't matter
awaited_latency : (t : Timing) (end cycle : ℕ) → hit_latency t (if t.wait then end else 0) cycle ≡ hit_latency t end cycle
awaited_latency t end cycle = by_case t.wait
  where
    by_case : (w : Bool) → cond w (max t.lookup (cond w end 0 - cycle)) t.lookup ≡ cond w (max t.lookup (end - cycle)) t.lookup
    by_case true = refl
    by_case false = refl

awaited_le : (w : Bool) (end last : ℕ) → end ≤ last → cond w end 0 ≤ last
awaited_le true end last le = le
awaited_le false end last le = omega arith

-- what a hit answers
pub latency_hit : (t : Timing) (shape : CacheConfig) (calls : List Call) (addr cycle end n : ℕ) → end ≡ (if t.wait then fill_end_of shape calls (block_of shape addr) else 0)
    → FillsBy shape calls (cycle + t.greatest) → (end ≤ cycle + t.greatest → n ≡ hit_latency t end cycle) → n ≡ hit_latency t (fill_end_of shape calls (block_of shape addr)) cycle
latency_hit t shape calls addr cycle end n is by latency =
    let b = block_of shape addr in
    let le : end ≤ cycle + t.greatest = subst (λ x. x ≤ cycle + t.greatest) (sym is) (awaited_le t.wait (fill_end_of shape calls b) (cycle + t.greatest) (by b)) in
    latency le ∙ (ap (λ x. hit_latency t x cycle) is ∙ awaited_latency t (fill_end_of shape calls b) cycle)

pub served_hit : (t : Timing) (shape : CacheConfig) (calls : List Call) (addr : ℕ) (write : Bool) (cycle n : ℕ) (touch : Touch) (v : Held) → touch ≡ touch_of shape calls addr write → touch.hit ≡ true
    → n ≡ hit_latency t (fill_end_of shape calls (block_of shape addr)) cycle → StandsFor v shape (Access addr write ∷ calls)
    → IsServed n v shape (last_access t shape calls addr write cycle)
served_hit t shape calls addr write cycle n touch v is on latency stands =
    subst (IsServed n v shape) (sym (last_hit t shape calls addr write cycle (ap (λ (x : Touch). x.hit) (sym is) ∙ on))) (record { latency = latency; stands = stands })

pub served_missed : (t : Timing) (shape : CacheConfig) (calls : List Call) (addr : ℕ) (write : Bool) (cycle n : ℕ) (touch : Touch) (v : Held) → touch ≡ touch_of shape calls addr write → touch.hit ≡ false
    → n ≡ t.greatest → StandsFor v shape (Fill addr (cycle + n) ∷ (Access addr write ∷ calls))
    → IsServed n v shape (last_access t shape calls addr write cycle)
served_missed t shape calls addr write cycle n touch v is off latency stands =
    subst (IsServed n v shape) (sym (last_missed t shape calls addr write cycle (ap (λ (x : Touch). x.hit) (sym is) ∙ off)))
    (record { latency = latency; stands = subst (λ m. StandsFor v shape (Fill addr (cycle + m) ∷ (Access addr write ∷ calls))) latency stands })

-- a victim at the level behind
pub written_none : (t : Timing) (shape : CacheConfig) (calls : List Call) (o : Option Victim) (cycle last : ℕ) (v : Held) → o ≡ None → IsMet v shape calls last → IsMet v shape (written_back t shape calls o cycle) last
unfolding written_back
written_none t shape calls o cycle last v is met = subst (λ x. IsMet v shape (written_back t shape calls x cycle) last) (sym is) met

pub written_clean : (t : Timing) (shape : CacheConfig) (calls : List Call) (o : Option Victim) (w : Victim) (cycle last : ℕ) (v : Held) → o ≡ Some w → w.dirty ≡ false → IsMet v shape calls last → IsMet v shape (written_back t shape calls o cycle) last
unfolding written_back
written_clean t shape calls o w cycle last v is clean met =
    subst (λ x. IsMet v shape (written_back t shape calls x cycle) last) (sym is)
    (subst (λ b. IsMet v shape (cond b (last_access t shape calls w.addr true cycle).calls calls) last) (sym clean) met)

pub written_dirty : (t : Timing) (shape : CacheConfig) (calls : List Call) (o : Option Victim) (w : Victim) (cycle n : ℕ) (old new : Held) → o ≡ Some w → w.dirty ≡ true
    → IsMet old shape calls (cycle + t.greatest) → IsServed n new shape (last_access t shape calls w.addr true cycle) → IsMet new shape (written_back t shape calls o cycle) (cycle + t.greatest)
unfolding written_back
written_dirty t shape calls o w cycle n old new is dirty met served =
    subst (λ x. IsMet new shape (written_back t shape calls x cycle) (cycle + t.greatest)) (sym is)
    (subst (λ b. IsMet new shape (cond b (last_access t shape calls w.addr true cycle).calls calls) (cycle + t.greatest)) (sym dirty)
    (record { stands = served.stands; ways = met.ways; fills = last_fills t shape calls w.addr true cycle met.ways met.fills }))

-- a first level with a second one behind it, by whether the block is there
first_cases : (t : Timing) (shape : CacheConfig) (calls : List Call) (t' : Timing) (shape' : CacheConfig) (calls' : List Call) (addr : ℕ) (write : Bool) (cycle : ℕ) (touch : Touch) → Bool → Passed
first_cases t shape calls t' shape' calls' addr write cycle touch b =
    let read = last_access t' shape' (written_back t' shape' calls' touch.victim cycle) addr false cycle in
    let here = if b then hit t shape calls addr write cycle else missed (t.lookup + read.latency) calls addr write cycle in
    record { latency = here.latency; first = here.calls; second = if b then calls' else read.calls }

pub first_hit : (t : Timing) (shape : CacheConfig) (calls : List Call) (t' : Timing) (shape' : CacheConfig) (calls' : List Call) (addr : ℕ) (write : Bool) (cycle : ℕ) → (touch_of shape calls addr write).hit ≡ true
    → first_access t shape calls t' shape' calls' addr write cycle
    ≡ record { latency = (hit t shape calls addr write cycle).latency; first = Access addr write ∷ calls; second = calls' }
unfolding first_access first_cases
first_hit t shape calls t' shape' calls' addr write cycle e = ap (first_cases t shape calls t' shape' calls' addr write cycle (touch_of shape calls addr write)) e

pub first_missed : (t : Timing) (shape : CacheConfig) (calls : List Call) (t' : Timing) (shape' : CacheConfig) (calls' : List Call) (addr : ℕ) (write : Bool) (cycle : ℕ) → (touch_of shape calls addr write).hit ≡ false
    → first_access t shape calls t' shape' calls' addr write cycle
    ≡ (let read = last_access t' shape' (written_back t' shape' calls' (touch_of shape calls addr write).victim cycle) addr false cycle in
    record { latency = t.lookup + read.latency; first = Fill addr (cycle + (t.lookup + read.latency)) ∷ (Access addr write ∷ calls); second = read.calls })
unfolding first_access first_cases
first_missed t shape calls t' shape' calls' addr write cycle e = ap (first_cases t shape calls t' shape' calls' addr write cycle (touch_of shape calls addr write)) e

pub passed_hit : (t : Timing) (shape : CacheConfig) (calls : List Call) (t' : Timing) (shape' : CacheConfig) (calls' : List Call) (addr : ℕ) (write : Bool) (cycle n : ℕ) (touch : Touch) (v v' : Held)
    → touch ≡ touch_of shape calls addr write → touch.hit ≡ true → n ≡ hit_latency t (fill_end_of shape calls (block_of shape addr)) cycle
    → StandsFor v shape (Access addr write ∷ calls) → StandsFor v' shape' calls'
    → IsPassed n v shape v' shape' (first_access t shape calls t' shape' calls' addr write cycle)
passed_hit t shape calls t' shape' calls' addr write cycle n touch v v' is on latency stands stands' =
    subst (IsPassed n v shape v' shape') (sym (first_hit t shape calls t' shape' calls' addr write cycle (ap (λ (x : Touch). x.hit) (sym is) ∙ on)))
    (record { latency = latency; first = stands; second = stands' })

pub passed_missed : (t : Timing) (shape : CacheConfig) (calls : List Call) (t' : Timing) (shape' : CacheConfig) (calls' : List Call) (addr : ℕ) (write : Bool) (cycle n m : ℕ) (touch : Touch) (v v' : Held)
    → touch ≡ touch_of shape calls addr write → touch.hit ≡ false → n ≡ t.lookup + m
    → StandsFor v shape (Fill addr (cycle + n) ∷ (Access addr write ∷ calls)) → IsServed m v' shape' (last_access t' shape' (written_back t' shape' calls' touch.victim cycle) addr false cycle)
    → IsPassed n v shape v' shape' (first_access t shape calls t' shape' calls' addr write cycle)
passed_missed t shape calls t' shape' calls' addr write cycle n m touch v v' is off latency stands served =
    let same = subst (λ (x : Touch). IsServed m v' shape' (last_access t' shape' (written_back t' shape' calls' x.victim cycle) addr false cycle)) is served in
    let q : n ≡ t.lookup + (last_access t' shape' (written_back t' shape' calls' (touch_of shape calls addr write).victim cycle) addr false cycle).latency = latency ∙ ap (λ x. t.lookup + x) same.latency in
    subst (IsPassed n v shape v' shape') (sym (first_missed t shape calls t' shape' calls' addr write cycle (ap (λ (x : Touch). x.hit) (sym is) ∙ off)))
    (record { latency = q; first = subst (λ x. StandsFor v shape (Fill addr (cycle + x) ∷ (Access addr write ∷ calls))) q stands; second = same.stands })

-- levels that may be none
pub stands_met : (v : Option Held) (shape : Option CacheConfig) (calls : List Call) (last : ℕ) → LevelMet v shape calls last → LevelStands v shape calls
stands_met None None calls last met = tt
stands_met None (Some shape) calls last met = met
stands_met (Some v) None calls last met = met
stands_met (Some v) (Some shape) calls last met = met.stands

pub translated_none : (t : Timing) (shape : Option CacheConfig) (calls : List Call) (addr cycle last n : ℕ) (v : Option Held) → v ≡ None → n ≡ t.lookup → LevelMet v shape calls last
    → LevelServed n v shape (translated t shape calls addr cycle)
unfolding translated
translated_none t shape calls addr cycle last n v is latency met =
    subst (λ w. LevelServed n w shape (translated t shape calls addr cycle)) (sym is) (by_shape shape (subst (λ w. LevelMet w shape calls last) is met))
  where
    by_shape : (s : Option CacheConfig) → LevelMet None s calls last → LevelServed n None s (translated t s calls addr cycle)
    by_shape None m = record { latency = latency; stands = tt }
    by_shape (Some s) m = absurd m

pub translated_some : (t : Timing) (shape : Option CacheConfig) (calls : List Call) (addr cycle last n : ℕ) (v : Option Held) (old new : Held) → v ≡ Some old
    → ((s : CacheConfig) (cs : List Call) → IsMet old s cs last → IsServed n new s (last_access t s cs addr false cycle)) → LevelMet v shape calls last
    → LevelServed n (Some new) shape (translated t shape calls addr cycle)
unfolding translated
translated_some t shape calls addr cycle last n v old new is served met = by_shape shape (subst (λ w. LevelMet w shape calls last) is met)
  where
    by_shape : (s : Option CacheConfig) → LevelMet (Some old) s calls last → LevelServed n (Some new) s (translated t s calls addr cycle)
    by_shape None m = absurd m
    by_shape (Some s) m = let p = served s calls m in record { latency = p.latency; stands = p.stands }

pub way_none : (t : Timing) (shape : Option CacheConfig) (calls : List Call) (t' : Timing) (shape' : Option CacheConfig) (calls' : List Call) (addr : ℕ) (write : Bool) (cycle last last' n : ℕ) (v v' : Option Held)
    → v ≡ None → n ≡ t.lookup → LevelMet v shape calls last → LevelMet v' shape' calls' last' → WayPassed n v shape v' shape' (through t shape calls t' shape' calls' addr write cycle)
unfolding through
way_none t shape calls t' shape' calls' addr write cycle last last' n v v' is latency met met' =
    subst (λ w. WayPassed n w shape v' shape' (through t shape calls t' shape' calls' addr write cycle)) (sym is) (by_shape shape (subst (λ w. LevelMet w shape calls last) is met))
  where
    by_shape : (s : Option CacheConfig) → LevelMet None s calls last → WayPassed n None s v' shape' (through t s calls t' shape' calls' addr write cycle)
    by_shape None m = record { latency = latency; first = tt; second = stands_met v' shape' calls' last' met' }
    by_shape (Some s) m = absurd m

pub way_one : (t : Timing) (shape : Option CacheConfig) (calls : List Call) (t' : Timing) (shape' : Option CacheConfig) (calls' : List Call) (addr : ℕ) (write : Bool) (cycle last last' n : ℕ) (v v' : Option Held) (old new : Held)
    → v ≡ Some old → v' ≡ None → ((s : CacheConfig) (cs : List Call) → IsMet old s cs last → IsServed n new s (last_access t s cs addr write cycle))
    → LevelMet v shape calls last → LevelMet v' shape' calls' last' → WayPassed n (Some new) shape v' shape' (through t shape calls t' shape' calls' addr write cycle)
unfolding through
way_one t shape calls t' shape' calls' addr write cycle last last' n v v' old new is is' served met met' =
    subst (λ w. WayPassed n (Some new) shape w shape' (through t shape calls t' shape' calls' addr write cycle)) (sym is')
    (by_shape shape shape' (subst (λ w. LevelMet w shape calls last) is met) (subst (λ w. LevelMet w shape' calls' last') is' met'))
  where
    by_shape : (s s' : Option CacheConfig) → LevelMet (Some old) s calls last → LevelMet None s' calls' last' → WayPassed n (Some new) s None s' (through t s calls t' s' calls' addr write cycle)
    by_shape None s' m m' = absurd m
    by_shape (Some s) (Some s') m m' = absurd m'
    by_shape (Some s) None m m' = let p = served s calls m in record { latency = p.latency; first = p.stands; second = tt }

pub way_two : (t : Timing) (shape : Option CacheConfig) (calls : List Call) (t' : Timing) (shape' : Option CacheConfig) (calls' : List Call) (addr : ℕ) (write : Bool) (cycle last last' n : ℕ) (v v' : Option Held) (old old' new new' : Held)
    → v ≡ Some old → v' ≡ Some old'
    → ((s : CacheConfig) (cs : List Call) (s' : CacheConfig) (cs' : List Call) → IsMet old s cs last → IsMet old' s' cs' last' → IsPassed n new s new' s' (first_access t s cs t' s' cs' addr write cycle))
    → LevelMet v shape calls last → LevelMet v' shape' calls' last' → WayPassed n (Some new) shape (Some new') shape' (through t shape calls t' shape' calls' addr write cycle)
unfolding through
way_two t shape calls t' shape' calls' addr write cycle last last' n v v' old old' new new' is is' passed met met' =
    by_shape shape shape' (subst (λ w. LevelMet w shape calls last) is met) (subst (λ w. LevelMet w shape' calls' last') is' met')
  where
    by_shape : (s s' : Option CacheConfig) → LevelMet (Some old) s calls last → LevelMet (Some old') s' calls' last' → WayPassed n (Some new) s (Some new') s' (through t s calls t' s' calls' addr write cycle)
    by_shape None s' m m' = absurd m
    by_shape (Some s) None m m' = absurd m'
    by_shape (Some s) (Some s') m m' = let p = passed s calls s' calls' m m' in record { latency = p.latency; first = p.first; second = p.second }
