-- How many accesses pass from one level to the next.
use Rattle.std.proofs.Common.{◌≡◌, ℕ, ◌+◌, Bool, true, false, cond, List, [], ◌∷◌, Option, Some, None, refl, sym, ◌∙◌, ap, subst, arith}
use Rattle.std.specs.Prelude.{if◌then◌else◌, not}
use Rattle.std.specs.Option.{option_map_or}
use Rattle.cache_core.specs.declared.config.CacheConfig.{CacheConfig}
use Rattle.cache_core.specs.declared.answers.Victim.{Victim}
use Rattle.cache_core.specs.Replay.{Call, Access, Fill, block_of, set_of, lines_of, touch_of, number_of, writes_back}
use Rattle.cache_core.proofs.Places.{touched-hit_victim}
use Rattle.mem_hier.specs.declared.config.Level.{Level}
use Rattle.mem_hier.specs.declared.config.Level.TheVariants.{Own, Shared}
use Rattle.mem_hier.specs.declared.config.HierConfig.{HierConfig}
use Rattle.mem_hier.specs.Limits.{is_shared, own, behind_il1}
use Rattle.mem_hier.specs.Replay.{Reference, Fetch, Load, Store, SettleAll, Timing, Passed, Calls, il1_timing, dl1_timing, dl2_timing, behind_il1_timing, last_access, written_back, first_access, through, data_way, fetch_way, data_answer, fetch_answer, calls_of}
use Rattle.mem_hier.specs.Laws.{IsBalanced}
use Rattle.mem_hier.proofs.Fills.{last_cases}
use Rattle.mem_hier.proofs.Steps.{first_hit, first_missed}
use Rattle.mem_hier.proofs.Ways.{behind_shared, behind_own, fetch_cases}

-- how many accesses a level had, and how many it passed on
abbrev pub accesses : CacheConfig → List Call → ℕ
accesses s calls = number_of (λ t. true) s calls

abbrev pub passes : CacheConfig → List Call → ℕ
passes s calls = number_of (λ t. not t.hit) s calls + number_of writes_back s calls

abbrev dirty_of : Option Victim → Bool
dirty_of o = option_map_or (λ v. v.dirty) o false

accesses_last : (t : Timing) (shape : CacheConfig) (calls : List Call) (addr : ℕ) (write : Bool) (cycle : ℕ) → accesses shape (last_access t shape calls addr write cycle).calls ≡ accesses shape calls + 1
unfolding number_of
accesses_last t shape calls addr write cycle = last_cases (λ p. accesses shape p.calls ≡ accesses shape calls + 1) t shape calls addr write cycle refl refl

accesses_written : (t : Timing) (shape : CacheConfig) (calls : List Call) (o : Option Victim) (cycle : ℕ) → accesses shape (written_back t shape calls o cycle) ≡ accesses shape calls + (if dirty_of o then 1 else 0)
unfolding written_back
accesses_written t shape calls None cycle = omega arith
accesses_written t shape calls (Some v) cycle = by_case v.dirty
  where
    by_case : (b : Bool) → accesses shape (cond b (last_access t shape calls v.addr true cycle).calls calls) ≡ accesses shape calls + cond b 1 0
    by_case true = accesses_last t shape calls v.addr true cycle
    by_case false = omega arith

-- as many accesses more behind as are passed on more
record IsPassing (s : CacheConfig) (calls : List Call) (s' : CacheConfig) (calls' : List Call) (p : Passed) : Type 0 where
  pub balance : accesses s' p.second + passes s calls ≡ accesses s' calls' + passes s p.first

hit_victim : (s : CacheConfig) (calls : List Call) (addr : ℕ) (write : Bool) → (touch_of s calls addr write).hit ≡ true → (touch_of s calls addr write).victim ≡ None
unfolding touch_of
hit_victim s calls addr write e = touched-hit_victim s (block_of s addr) write (lines_of s (set_of s (block_of s addr)) calls) e

summed : (a b c d m n : ℕ) → a ≡ b + 1 → b ≡ c + d → m ≡ n + (1 + d) → a + n ≡ c + m
summed a b c d m n e q r = omega arith

abbrev one_if : Bool → ℕ
one_if b = if b then 1 else 0

passes_hit : (s : CacheConfig) (calls : List Call) (addr : ℕ) (write : Bool) → (touch_of s calls addr write).hit ≡ true → passes s (Access addr write ∷ calls) ≡ passes s calls
unfolding number_of
passes_hit s calls addr write e =
    let misses : one_if (not (touch_of s calls addr write).hit) ≡ 0 = ap (λ b. one_if (not b)) e in
    let back : one_if (writes_back (touch_of s calls addr write)) ≡ 0 = ap (λ o. one_if (option_map_or (λ (v : Victim). v.dirty) o false)) (hit_victim s calls addr write e) in
    omega (arith, misses, back)

passes_missed : (s : CacheConfig) (calls : List Call) (addr : ℕ) (write : Bool) → (touch_of s calls addr write).hit ≡ false
    → passes s (Access addr write ∷ calls) ≡ passes s calls + (1 + (if dirty_of (touch_of s calls addr write).victim then 1 else 0))
unfolding number_of
passes_missed s calls addr write e =
    let misses : one_if (not (touch_of s calls addr write).hit) ≡ 1 = ap (λ b. one_if (not b)) e in
    omega (arith, misses)

passes_filled : (s : CacheConfig) (calls : List Call) (addr end : ℕ) → passes s (Fill addr end ∷ calls) ≡ passes s calls
unfolding number_of
passes_filled s calls addr end = refl

passing_first : (t : Timing) (s : CacheConfig) (calls : List Call) (t' : Timing) (s' : CacheConfig) (calls' : List Call) (addr : ℕ) (write : Bool) (cycle : ℕ) → IsPassing s calls s' calls' (first_access t s calls t' s' calls' addr write cycle)
passing_first t s calls t' s' calls' addr write cycle = by_case (touch_of s calls addr write).hit refl
  where
    by_case : (b : Bool) → (touch_of s calls addr write).hit ≡ b → IsPassing s calls s' calls' (first_access t s calls t' s' calls' addr write cycle)
    by_case true e =
        subst (IsPassing s calls s' calls') (sym (first_hit t s calls t' s' calls' addr write cycle e))
        (record { balance = ap (λ n. accesses s' calls' + n) (sym (passes_hit s calls addr write e)) })
    by_case false e =
        let o = (touch_of s calls addr write).victim in
        let back = written_back t' s' calls' o cycle in
        let latency = t.lookup + (last_access t' s' back addr false cycle).latency in
        let more : accesses s' (last_access t' s' back addr false cycle).calls ≡ accesses s' back + 1 = accesses_last t' s' back addr false cycle in
        let dirty : accesses s' back ≡ accesses s' calls' + cond (dirty_of o) 1 0 = accesses_written t' s' calls' o cycle in
        let passed : passes s (Fill addr (cycle + latency) ∷ (Access addr write ∷ calls)) ≡ passes s calls + (1 + cond (dirty_of o) 1 0) = passes_filled s (Access addr write ∷ calls) addr (cycle + latency) ∙ passes_missed s calls addr write e in
        subst (IsPassing s calls s' calls') (sym (first_missed t s calls t' s' calls' addr write cycle e))
        (record { balance = summed _ _ _ _ _ _ more dirty passed })

passing_through : (t : Timing) (o : Option CacheConfig) (calls : List Call) (t' : Timing) (o' : Option CacheConfig) (calls' : List Call) (addr : ℕ) (write : Bool) (cycle : ℕ) (s s' : CacheConfig) → o ≡ Some s → o' ≡ Some s'
    → IsPassing s calls s' calls' (through t o calls t' o' calls' addr write cycle)
unfolding through
passing_through t o calls t' o' calls' addr write cycle s s' e e' =
    subst (λ x. IsPassing s calls s' calls' (through t x calls t' o' calls' addr write cycle)) (sym e)
    (subst (λ x. IsPassing s calls s' calls' (through t (Some s) calls t' x calls' addr write cycle)) (sym e') (passing_first t s calls t' s' calls' addr write cycle))

-- the balance of each second level
own_shared : (level : Level) (s : CacheConfig) → level ≡ Own s → is_shared level ≡ false
own_shared level s e = ap is_shared e

passing_fetch : (c : HierConfig) (s : Calls) (pc cycle : ℕ) (a b : CacheConfig) (calls' : List Call) (second : Option CacheConfig) (p : Passed) → own c.il1 ≡ Some a → behind_il1 c ≡ second → second ≡ Some b
    → p ≡ through (il1_timing c) (own c.il1) s.il1 (behind_il1_timing c) (behind_il1 c) calls' pc false cycle → IsPassing a s.il1 b calls' p
passing_fetch c s pc cycle a b calls' second p e behind e' is =
    subst (IsPassing a s.il1 b calls') (sym is) (passing_through (il1_timing c) (own c.il1) s.il1 (behind_il1_timing c) (behind_il1 c) calls' pc false cycle a b e (behind ∙ e'))

pub record Balances (c : HierConfig) (s : Calls) (il1 dl1 : CacheConfig) : Type 0 where
  pub il2 : (second : CacheConfig) → c.il1 ≡ Own il1 → c.il2 ≡ Own second → accesses second s.il2 ≡ passes il1 s.il1
  pub dl2 : (second : CacheConfig) → c.dl1 ≡ Own dl1 → c.dl2 ≡ Own second → is_shared c.il2 ≡ false → accesses second s.dl2 ≡ passes dl1 s.dl1
  pub shared : (second : CacheConfig) → c.il1 ≡ Own il1 → c.dl1 ≡ Own dl1 → c.dl2 ≡ Own second → c.il2 ≡ Shared → accesses second s.dl2 ≡ passes il1 s.il1 + passes dl1 s.dl1

-- after a step that passes accesses on, a balance holds where it held before
pass_on : (a a' n n' k : ℕ) → a' + n ≡ a + n' → a ≡ n + k → a' ≡ n' + k
pass_on a a' n n' k e before = omega arith

data_balances : (c : HierConfig) (s : Calls) (il1 dl1 : CacheConfig) (addr : ℕ) (write : Bool) (cycle : ℕ) → Balances c s il1 dl1 → Balances c (data_way c s addr write cycle).calls il1 dl1
unfolding data_way
data_balances c s il1 dl1 addr write cycle held =
    let passing = λ (second : CacheConfig) (e : c.dl1 ≡ Own dl1) (e' : c.dl2 ≡ Own second). passing_through (dl1_timing c) (own c.dl1) s.dl1 (dl2_timing c) (own c.dl2) s.dl2 addr write cycle dl1 second (ap own e) (ap own e') in
    record {
      il2 = held.il2;
      dl2 = λ second e e' u.
          let p = (passing second e e').balance in
          let q = held.dl2 second e e' u in
          omega (arith, p, q);
      shared = λ second e d e' u.
          let p = (passing second d e').balance in
          let q = held.shared second e d e' u in
          omega (arith, p, q);
    }

fetch_balances : (c : HierConfig) (s : Calls) (il1 dl1 : CacheConfig) (pc cycle : ℕ) → Balances c s il1 dl1 → Balances c (fetch_way c s pc cycle).calls il1 dl1
fetch_balances c s il1 dl1 pc cycle held =
    fetch_cases (λ p. Balances c p.calls il1 dl1) c s pc cycle
    (λ e. data_balances c s il1 dl1 pc false cycle held)
    (λ e e' p is. record {
      il2 = λ second i j. let no : true ≡ false = sym e' ∙ own_shared c.il2 second j in cc;
      dl2 = λ second d j u. let no : true ≡ false = sym e' ∙ u in cc;
      shared = λ second i d j u.
          let q = (passing_fetch c s pc cycle il1 second s.dl2 (own c.dl2) p (ap own i) (behind_shared c e').shape (ap own j) is).balance in
          let r = held.shared second i d j u in
          omega (arith, q, r);
    })
    (λ e e' p is. record {
      il2 = λ second i j.
          let q = (passing_fetch c s pc cycle il1 second s.il2 (own c.il2) p (ap own i) (behind_own c e').shape (ap own j) is).balance in
          let r = held.il2 second i j in
          omega (arith, q, r);
      dl2 = held.dl2;
      shared = λ second i d j u. let no : true ≡ false = sym (ap is_shared u) ∙ e' in cc;
    })

data_answer_balances : (c : HierConfig) (s : Calls) (il1 dl1 : CacheConfig) (addr : ℕ) (write : Bool) (cycle : ℕ) → Balances c s il1 dl1 → Balances c (data_answer c s addr write cycle).calls il1 dl1
unfolding data_answer
data_answer_balances c s il1 dl1 addr write cycle held = let b = data_balances c s il1 dl1 addr write cycle held in record { il2 = b.il2; dl2 = b.dl2; shared = b.shared }

fetch_answer_balances : (c : HierConfig) (s : Calls) (il1 dl1 : CacheConfig) (pc cycle : ℕ) → Balances c s il1 dl1 → Balances c (fetch_answer c s pc cycle).calls il1 dl1
unfolding fetch_answer
fetch_answer_balances c s il1 dl1 pc cycle held = let b = fetch_balances c s il1 dl1 pc cycle held in record { il2 = b.il2; dl2 = b.dl2; shared = b.shared }

balances : (c : HierConfig) (h : List Reference) (il1 dl1 : CacheConfig) → Balances c (calls_of c h) il1 dl1
unfolding calls_of number_of
balances c [] il1 dl1 = record { il2 = λ second e e'. refl; dl2 = λ second e e' u. refl; shared = λ second e d e' u. refl }
balances c (Fetch pc cycle ∷ h) il1 dl1 = fetch_answer_balances c (calls_of c h) il1 dl1 pc cycle (balances c h il1 dl1)
balances c (Load addr cycle ∷ h) il1 dl1 = data_answer_balances c (calls_of c h) il1 dl1 addr false cycle (balances c h il1 dl1)
balances c (Store addr cycle ∷ h) il1 dl1 = data_answer_balances c (calls_of c h) il1 dl1 addr true cycle (balances c h il1 dl1)
balances c (SettleAll ∷ h) il1 dl1 = let b = balances c h il1 dl1 in record { il2 = b.il2; dl2 = b.dl2; shared = b.shared }

pub balanced : (c : HierConfig) (h : List Reference) (il1 dl1 : CacheConfig) → IsBalanced c (calls_of c h) il1 dl1
balanced c h il1 dl1 = let b = balances c h il1 dl1 in record { il2 = b.il2; dl2 = b.dl2; shared = b.shared }
