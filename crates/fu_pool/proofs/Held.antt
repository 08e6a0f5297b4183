-- The laws of takes.
use Rattle.std.proofs.Common.{◌≡◌, ℕ, ◌+◌, ◌<◌, ◌≤◌, Bool, true, false, cond, List, [], ◌∷◌, refl, subst, arith}
use Rattle.std.specs.Prelude.{nat_le, nat_lt, ◌&&◌}
use Rattle.std.proofs.lemmas.List.Sums.{sum_by-cons}
use Rattle.std.proofs.lemmas.Bool.Decides.{nat_tests}
use Rattle.fu_pool.specs.declared.pools.Pool.{Pool}
use Rattle.fu_pool.specs.declared.pools.Pool.TheVariants.{Alu, Mult, Port}
use Rattle.fu_pool.specs.Takes.{Take, held, holds, same_pool, last_cycle}
use Rattle.fu_pool.specs.Laws.{IsGranted, HoldsItsUnit, KeepsApart}

one : Bool → ℕ
one b = cond b 1 0

held_cons : (p : Pool) (c : ℕ) (t : Take) (ts : List Take) → held p c (t ∷ ts) ≡ cond (same_pool t.pool p && holds c t) 1 0 + held p c ts
held_cons p c t ts = sum_by-cons (λ t. cond (same_pool t.pool p && holds c t) 1 0) t ts

same_self : (p : Pool) → same_pool p p ≡ true
same_self Alu = refl
same_self Mult = refl
same_self Port = refl

own_step : (same : Bool) (at hold c n more : ℕ) → same ≡ true → more ≡ cond (same && (nat_le at c && nat_lt c (at + hold))) 1 0 + n
    → (c < at → more ≡ n) × (at ≤ c → c < at + hold → more ≡ n + 1) × (at + hold ≤ c → more ≡ n)
own_step true at hold c n more s e = (λ h. grind (arith, nat_tests), λ h k. grind (arith, nat_tests), λ h. grind (arith, nat_tests))
own_step false at hold c n more s e = absurd cc

pub holds_its_unit : (t : Take) (older : List Take) (c : ℕ) → HoldsItsUnit t older c
holds_its_unit t older c =
    let (before, during, after) = own_step (same_pool t.pool t.pool) t.cycle t.hold c _ _ (same_self t.pool) (held_cons t.pool c t older) in
    record { before = before; during = during; after = after }

apart_step : (same rest : Bool) (n more : ℕ) → same ≡ false → more ≡ cond (same && rest) 1 0 + n → more ≡ n
apart_step true rest n more s e = absurd cc
apart_step false rest n more s e = omega arith

pub keeps_apart : (t : Take) (older : List Take) (c : ℕ) → KeepsApart t older c
keeps_apart t older c p other = apart_step (same_pool t.pool p) _ _ _ other (held_cons p c t older)

fall_step : (same : Bool) (at hold c d n m more less : ℕ) → at ≤ c → c ≤ d → m ≤ n
    → more ≡ cond (same && (nat_le at c && nat_lt c (at + hold))) 1 0 + n
    → less ≡ cond (same && (nat_le at d && nat_lt d (at + hold))) 1 0 + m → less ≤ more
fall_step true at hold c d n m more less h k le e f = grind (arith, nat_tests)
fall_step false at hold c d n m more less h k le e f = omega arith

-- from the newest take on, no more units are held later than earlier
pub held_falls : (sizes : Pool → ℕ) (takes : List Take) (p : Pool) (c d : ℕ) → IsGranted sizes takes → last_cycle takes ≤ c → c ≤ d
    → held p d takes ≤ held p c takes
held_falls sizes [] p c d granted h k = omega arith
held_falls sizes (t ∷ older) p c d (in_time, free, granted) h k =
    fall_step (same_pool t.pool p) t.cycle t.hold c d _ _ _ _ h k (held_falls sizes older p c d granted (omega arith) k) (held_cons p c t older) (held_cons p d t older)

same_is : (p q : Pool) → same_pool p q ≡ true → p ≡ q
same_is Alu Alu e = refl
same_is Mult Mult e = refl
same_is Port Port e = refl
same_is Alu Mult e = absurd cc
same_is Alu Port e = absurd cc
same_is Mult Alu e = absurd cc
same_is Mult Port e = absurd cc
same_is Port Alu e = absurd cc
same_is Port Mult e = absurd cc

one_more : (b : Bool) (n more : ℕ) → more ≡ cond b 1 0 + n → more ≤ n + 1
one_more true n more e = omega arith
one_more false n more e = omega arith

pub suffices : (sizes : Pool → ℕ) (takes : List Take) (p : Pool) (c : ℕ) → IsGranted sizes takes → last_cycle takes ≤ c → held p c takes ≤ sizes p
suffices sizes [] p c granted h = omega arith
suffices sizes (t ∷ older) p c (in_time, free, granted) h =
    by_pool (same_pool t.pool p) refl (λ k. suffices sizes older p c granted k)
  where
    by_pool : (b : Bool) → same_pool t.pool p ≡ b → (last_cycle older ≤ c → held p c older ≤ sizes p) → held p c (t ∷ older) ≤ sizes p
    by_pool true e ih =
        let is : t.pool ≡ p = same_is t.pool p e in
        let later : held t.pool c older ≤ held t.pool t.cycle older = held_falls sizes older t.pool t.cycle c granted in_time h in
        let more : held t.pool c (t ∷ older) ≤ held t.pool c older + 1 = one_more _ _ _ (held_cons t.pool c t older) in
        let own : held t.pool c (t ∷ older) ≤ sizes t.pool = omega arith in
        subst (λ (q : Pool). held q c (t ∷ older) ≤ sizes q) is own
    by_pool false e ih =
        let same : held p c (t ∷ older) ≡ held p c older = keeps_apart t older c p e in
        let before : held p c older ≤ sizes p = ih (omega arith) in
        omega arith
