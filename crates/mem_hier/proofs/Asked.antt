-- What each cache is asked, and how many accesses pass from one level to the next.
use Rattle.std.proofs.Common.{◌≡◌, ℕ, Bool, true, false, cond, List, [], ◌∷◌, ◌++◌, Option, Some, None, refl, sym, ◌∙◌, ap, subst}
use Rattle.std.specs.Prelude.{if◌then◌else◌}
use Rattle.std.specs.Option.{option_map}
use Rattle.cache_core.specs.declared.config.CacheConfig.{CacheConfig}
use Rattle.cache_core.specs.declared.answers.Touch.{Touch}
use Rattle.cache_core.specs.declared.answers.Victim.{Victim}
use Rattle.cache_core.specs.Replay.{Call, Access, Settle, touch_of, counts_of}
use Rattle.cache_core.specs.Laws.{references}
use Rattle.cache_core.proofs.LawProofs.{references_kept}
use Rattle.mem_hier.specs.declared.config.HierConfig.{HierConfig}
use Rattle.mem_hier.specs.declared.config.Which.{Which}
use Rattle.mem_hier.specs.declared.config.Which.TheVariants.{Il1, Dl1, Il2, Dl2, Itlb, Dtlb}
use Rattle.mem_hier.specs.Limits.{is_shared, own, behind_il1}
use Rattle.mem_hier.specs.Replay.{Reference, Fetch, Load, Store, SettleAll, Timing, Passed, Calls, il1_timing, dl1_timing, dl2_timing, tlb_timing, behind_il1_timing, last_access, written_back, first_access, through, translated, data_way, fetch_way, data_answer, fetch_answer, calls_of, shape_of, counts_at}
use Rattle.mem_hier.specs.Laws.{written, asked_on, asked_behind, asked_by_fetch, asked_by_data, asked_of}
use Rattle.mem_hier.proofs.Fills.{last_cases}
use Rattle.mem_hier.proofs.Steps.{first_hit, first_missed}
use Rattle.mem_hier.proofs.Ways.{behind_shared, behind_own, fetch_cases}

-- the accesses of single levels
asked_last : (t : Timing) (shape : CacheConfig) (calls : List Call) (addr : ℕ) (write : Bool) (cycle : ℕ) → references (last_access t shape calls addr write cycle).calls ≡ Access addr write ∷ references calls
asked_last t shape calls addr write cycle = last_cases (λ p. references p.calls ≡ Access addr write ∷ references calls) t shape calls addr write cycle refl refl

asked_written : (t : Timing) (shape : CacheConfig) (calls : List Call) (o : Option Victim) (cycle : ℕ) → references (written_back t shape calls o cycle) ≡ written o ++ references calls
unfolding written_back
asked_written t shape calls None cycle = refl
asked_written t shape calls (Some v) cycle = by_case v.dirty
  where
    by_case : (b : Bool) → references (cond b (last_access t shape calls v.addr true cycle).calls calls) ≡ cond b (Access v.addr true ∷ []) [] ++ references calls
    by_case true = asked_last t shape calls v.addr true cycle
    by_case false = refl

record FirstAsked (shape : CacheConfig) (calls calls' : List Call) (addr : ℕ) (write : Bool) (p : Passed) : Type 0 where
  pub first : references p.first ≡ Access addr write ∷ references calls
  pub second : references p.second ≡ asked_on (touch_of shape calls addr write) addr ++ references calls'

asked_first : (t : Timing) (shape : CacheConfig) (calls : List Call) (t' : Timing) (shape' : CacheConfig) (calls' : List Call) (addr : ℕ) (write : Bool) (cycle : ℕ)
    → FirstAsked shape calls calls' addr write (first_access t shape calls t' shape' calls' addr write cycle)
asked_first t shape calls t' shape' calls' addr write cycle = by_case (touch_of shape calls addr write).hit refl
  where
    touch : Touch
    touch = touch_of shape calls addr write

    by_case : (b : Bool) → touch.hit ≡ b → FirstAsked shape calls calls' addr write (first_access t shape calls t' shape' calls' addr write cycle)
    by_case true e =
        let none : asked_on touch addr ≡ [] = ap (λ b. cond b [] (Access addr false ∷ written touch.victim)) e in
        subst (FirstAsked shape calls calls' addr write) (sym (first_hit t shape calls t' shape' calls' addr write cycle e))
        (record { first = refl; second = ap (λ xs. xs ++ references calls') (sym none) })
    by_case false e =
        let some : asked_on touch addr ≡ Access addr false ∷ written touch.victim = ap (λ b. cond b [] (Access addr false ∷ written touch.victim)) e in
        subst (FirstAsked shape calls calls' addr write) (sym (first_missed t shape calls t' shape' calls' addr write cycle e))
        (record {
          first = refl;
          second =
              asked_last t' shape' (written_back t' shape' calls' touch.victim cycle) addr false cycle
              ∙ (ap (λ xs. Access addr false ∷ xs) (asked_written t' shape' calls' touch.victim cycle) ∙ ap (λ xs. xs ++ references calls') (sym some));
        })

-- a level that is there was asked these accesses
abbrev pub LevelAsked : Option CacheConfig → List Call → List Call → Type 0
LevelAsked None calls list = Unit {0}
LevelAsked (Some shape) calls list = references calls ≡ list

record WayAsked (o o' : Option CacheConfig) (calls : List Call) (addr : ℕ) (write : Bool) (list list' : List Call) (p : Passed) : Type 0 where
  pub first : LevelAsked o p.first (Access addr write ∷ list)
  pub second : LevelAsked o' p.second (asked_behind o calls addr write ++ list')

asked_through : (t : Timing) (o : Option CacheConfig) (calls : List Call) (t' : Timing) (o' : Option CacheConfig) (calls' : List Call) (addr : ℕ) (write : Bool) (cycle : ℕ) (list list' : List Call)
    → LevelAsked o calls list → LevelAsked o' calls' list' → WayAsked o o' calls addr write list list' (through t o calls t' o' calls' addr write cycle)
unfolding through
asked_through t None calls t' o' calls' addr write cycle list list' a a' = record { first = tt; second = a' }
asked_through t (Some s) calls t' None calls' addr write cycle list list' a a' =
    record { first = asked_last t s calls addr write cycle ∙ ap (λ xs. Access addr write ∷ xs) a; second = tt }
asked_through t (Some s) calls t' (Some s') calls' addr write cycle list list' a a' =
    let p = asked_first t s calls t' s' calls' addr write cycle in
    record {
      first = p.first ∙ ap (λ xs. Access addr write ∷ xs) a;
      second = p.second ∙ ap (λ xs. asked_on (touch_of s calls addr write) addr ++ xs) a';
    }

asked_translated : (t : Timing) (o : Option CacheConfig) (calls : List Call) (addr cycle : ℕ) (list : List Call) → LevelAsked o calls list → LevelAsked o (translated t o calls addr cycle).calls (Access addr false ∷ list)
unfolding translated
asked_translated t None calls addr cycle list a = tt
asked_translated t (Some s) calls addr cycle list a = asked_last t s calls addr false cycle ∙ ap (λ xs. Access addr false ∷ xs) a

-- every cache and TLB was asked these accesses
pub record CallsAsked (c : HierConfig) (s : Calls) (f : Which → List Call) : Type 0 where
  pub il1 : LevelAsked (own c.il1) s.il1 (f Il1)
  pub dl1 : LevelAsked (own c.dl1) s.dl1 (f Dl1)
  pub il2 : LevelAsked (own c.il2) s.il2 (f Il2)
  pub dl2 : LevelAsked (own c.dl2) s.dl2 (f Dl2)
  pub itlb : LevelAsked c.itlb s.itlb (f Itlb)
  pub dtlb : LevelAsked c.dtlb s.dtlb (f Dtlb)

asked_data : (c : HierConfig) (h : List Reference) (f : Which → List Call) (addr : ℕ) (write : Bool) (cycle : ℕ) → CallsAsked c (calls_of c h) f
    → CallsAsked c (data_answer c (calls_of c h) addr write cycle).calls (λ w. asked_by_data c h addr write w ++ f w)
unfolding data_answer data_way
asked_data c h f addr write cycle a =
    let s = calls_of c h in
    let p = asked_through (dl1_timing c) (own c.dl1) s.dl1 (dl2_timing c) (own c.dl2) s.dl2 addr write cycle (f Dl1) (f Dl2) a.dl1 a.dl2 in
    record {
      il1 = a.il1;
      dl1 = p.first;
      il2 = a.il2;
      dl2 = p.second;
      itlb = a.itlb;
      dtlb = asked_translated (tlb_timing c c.dtlb) c.dtlb s.dtlb addr cycle (f Dtlb) a.dtlb;
    }

-- the way of a fetch asks this of the caches, by the shared levels
way_asked : HierConfig → List Reference → ℕ → Bool → Bool → Which → List Call
way_asked c h pc first second Il1 = if first then [] else Access pc false ∷ []
way_asked c h pc first second Dl1 = if first then Access pc false ∷ [] else []
way_asked c h pc first second Il2 = if first then [] else (if second then [] else asked_behind (own c.il1) (calls_of c h).il1 pc false)
way_asked c h pc first second Dl2 =
    if first then asked_behind (own c.dl1) (calls_of c h).dl1 pc false
    else (if second then asked_behind (own c.il1) (calls_of c h).il1 pc false else [])
way_asked c h pc first second Itlb = []
way_asked c h pc first second Dtlb = []

asked_shape : (o o' : Option CacheConfig) (calls list : List Call) → o ≡ o' → LevelAsked o calls list → LevelAsked o' calls list
asked_shape o o' calls list e a = subst (λ x. LevelAsked x calls list) e a

asked_way : (c : HierConfig) (h : List Reference) (f : Which → List Call) (pc cycle : ℕ) → CallsAsked c (calls_of c h) f
    → CallsAsked c (fetch_way c (calls_of c h) pc cycle).calls (λ w. way_asked c h pc (is_shared c.il1) (is_shared c.il2) w ++ f w)
unfolding data_way way_asked
asked_way c h f pc cycle a =
    let s = calls_of c h in
    let Q : Calls → Bool → Bool → Type 0 = λ p b b'. CallsAsked c p (λ w. way_asked c h pc b b' w ++ f w) in
    fetch_cases (λ p. Q p.calls (is_shared c.il1) (is_shared c.il2)) c s pc cycle
    (λ e.
    let p = asked_through (dl1_timing c) (own c.dl1) s.dl1 (dl2_timing c) (own c.dl2) s.dl2 pc false cycle (f Dl1) (f Dl2) a.dl1 a.dl2 in
    subst (λ b. Q (data_way c s pc false cycle).calls b (is_shared c.il2)) (sym e)
    (record { il1 = a.il1; dl1 = p.first; il2 = a.il2; dl2 = p.second; itlb = a.itlb; dtlb = a.dtlb }))
    (λ e e' p is.
    let behind = behind_shared c e' in
    let w = asked_through (il1_timing c) (own c.il1) s.il1 (behind_il1_timing c) (behind_il1 c) s.dl2 pc false cycle (f Il1) (f Dl2) a.il1 (asked_shape _ _ _ _ (sym behind.shape) a.dl2) in
    let w' = subst (WayAsked (own c.il1) (behind_il1 c) s.il1 pc false (f Il1) (f Dl2)) (sym is) w in
    subst (λ b. Q (record s { il1 = p.first; dl2 = p.second }) b (is_shared c.il2)) (sym e)
    (subst (λ b. Q (record s { il1 = p.first; dl2 = p.second }) false b) (sym e')
    (record { il1 = w'.first; dl1 = a.dl1; il2 = a.il2; dl2 = asked_shape _ _ _ _ behind.shape w'.second; itlb = a.itlb; dtlb = a.dtlb })))
    (λ e e' p is.
    let behind = behind_own c e' in
    let w = asked_through (il1_timing c) (own c.il1) s.il1 (behind_il1_timing c) (behind_il1 c) s.il2 pc false cycle (f Il1) (f Il2) a.il1 (asked_shape _ _ _ _ (sym behind.shape) a.il2) in
    let w' = subst (WayAsked (own c.il1) (behind_il1 c) s.il1 pc false (f Il1) (f Il2)) (sym is) w in
    subst (λ b. Q (record s { il1 = p.first; il2 = p.second }) b (is_shared c.il2)) (sym e)
    (subst (λ b. Q (record s { il1 = p.first; il2 = p.second }) false b) (sym e')
    (record { il1 = w'.first; dl1 = a.dl1; il2 = asked_shape _ _ _ _ behind.shape w'.second; dl2 = a.dl2; itlb = a.itlb; dtlb = a.dtlb })))

asked_fetch : (c : HierConfig) (h : List Reference) (f : Which → List Call) (pc cycle : ℕ) → CallsAsked c (calls_of c h) f
    → CallsAsked c (fetch_answer c (calls_of c h) pc cycle).calls (λ w. asked_by_fetch c h pc w ++ f w)
unfolding fetch_answer way_asked
asked_fetch c h f pc cycle a =
    let way = asked_way c h f pc cycle a in
    record {
      il1 = way.il1;
      dl1 = way.dl1;
      il2 = way.il2;
      dl2 = way.dl2;
      itlb = asked_translated (tlb_timing c c.itlb) c.itlb (calls_of c h).itlb pc cycle (f Itlb) a.itlb;
      dtlb = way.dtlb;
    }

asked_none : (o : Option CacheConfig) → LevelAsked o [] []
asked_none None = tt
asked_none (Some s) = refl

asked_settled : (o : Option CacheConfig) (calls list : List Call) → LevelAsked o calls list → LevelAsked o (Settle ∷ calls) list
asked_settled None calls list a = tt
asked_settled (Some s) calls list a = a

all_asked : (c : HierConfig) (h : List Reference) → CallsAsked c (calls_of c h) (asked_of c h)
unfolding calls_of asked_of
all_asked c [] = record { il1 = asked_none _; dl1 = asked_none _; il2 = asked_none _; dl2 = asked_none _; itlb = asked_none _; dtlb = asked_none _ }
all_asked c (Fetch pc cycle ∷ h) = asked_fetch c h (asked_of c h) pc cycle (all_asked c h)
all_asked c (Load addr cycle ∷ h) = asked_data c h (asked_of c h) addr false cycle (all_asked c h)
all_asked c (Store addr cycle ∷ h) = asked_data c h (asked_of c h) addr true cycle (all_asked c h)
all_asked c (SettleAll ∷ h) =
    let a = all_asked c h in
    record {
      il1 = asked_settled _ _ _ a.il1;
      dl1 = asked_settled _ _ _ a.dl1;
      il2 = asked_settled _ _ _ a.il2;
      dl2 = asked_settled _ _ _ a.dl2;
      itlb = asked_settled _ _ _ a.itlb;
      dtlb = asked_settled _ _ _ a.dtlb;
    }

level_counted : (o : Option CacheConfig) (calls list : List Call) → LevelAsked o calls list → option_map (λ s. counts_of s calls) o ≡ option_map (λ s. counts_of s list) o
level_counted None calls list a = refl
level_counted (Some s) calls list a = ap Some ((references_kept s calls).counts ∙ ap (counts_of s) a)

pub all_counted : (c : HierConfig) (h : List Reference) (w : Which) → counts_at c h w ≡ option_map (λ s. counts_of s (asked_of c h w)) (shape_of c w)
all_counted c h Il1 = level_counted _ _ _ (all_asked c h).il1
all_counted c h Dl1 = level_counted _ _ _ (all_asked c h).dl1
all_counted c h Il2 = level_counted _ _ _ (all_asked c h).il2
all_counted c h Dl2 = level_counted _ _ _ (all_asked c h).dl2
all_counted c h Itlb = level_counted _ _ _ (all_asked c h).itlb
all_counted c h Dtlb = level_counted _ _ _ (all_asked c h).dtlb
