-- The units after a take stand for the takes and it.
use Rattle.std.proofs.Common.{◌≡◌, ℕ, zero, suc, ◌+◌, ◌<◌, ◌≤◌, Bool, true, false, cond, List, [], ◌∷◌, length, refl, ap, ◌∙◌, arith, set}
use Rattle.std.specs.Prelude.{nat_lt, slice_index, IsTrue, ◌&&◌}
use Rattle.std.proofs.lemmas.List.Sums.{sum_by-cons}
use Rattle.std.proofs.lemmas.Bool.{le-leb, le-ltb}
use Rattle.fu_pool.specs.declared.pools.Pool.{Pool}
use Rattle.fu_pool.specs.declared.pools.Pool.TheVariants.{Alu, Mult, Port}
use Rattle.fu_pool.specs.Takes.{busy, IsTaken, Units, StandsFor, Take, held, holds, units_of, units_in, same_pool, HoldsMore}

busy_cons : (c x : ℕ) (xs : List ℕ) → busy c (x ∷ xs) ≡ cond (nat_lt c x) 1 0 + busy c xs
busy_cons c x xs = sum_by-cons (λ u. cond (nat_lt c u) 1 0) x xs

-- a unit that was free counts where it is busy now
busy_set : (c until : ℕ) (xs : List ℕ) (i : ℕ) → i < length xs → slice_index xs i ≤ c → busy c (set xs i until) ≡ cond (nat_lt c until) 1 0 + busy c xs
busy_set c until [] i h le = absurd (omega arith)
busy_set c until (x ∷ xs) zero h le =
    let e : cond (nat_lt c x) 1 0 ≡ 0 = ap (λ b. cond {A = ℕ} b 1 0) (le-ltb c x le) in
    omega (arith, busy_cons c x xs, busy_cons c until xs, e)
busy_set c until (x ∷ xs) (suc i) h le =
    omega (arith, busy_set c until xs i (omega arith) le, busy_cons c x xs, busy_cons c x (set xs i until))

length_set : (xs : List ℕ) (i v : ℕ) → length (set xs i v) ≡ length xs
length_set [] i v = refl
length_set (x ∷ xs) zero v = refl
length_set (x ∷ xs) (suc i) v = omega (arith, length_set xs i v)

held_cons : (p : Pool) (c : ℕ) (t : Take) (ts : List Take) → held p c (t ∷ ts) ≡ cond (same_pool t.pool p && holds c t) 1 0 + held p c ts
held_cons p c t ts = sum_by-cons (λ t. cond (same_pool t.pool p && holds c t) 1 0) t ts

-- what a take changes: its own pool as said, and no other
pub record Changes (old new : Units) (p : Pool) (cycle until : ℕ) : Type 0 where
  pub own : (q : Pool) → same_pool p q ≡ true → IsTaken cycle until (units_of old q) (units_of new q)
  pub others : (q : Pool) → same_pool p q ≡ false → units_of new q ≡ units_of old q

pub alu_changes : (old new : Units) (cycle until : ℕ) → IsTaken cycle until old.alus new.alus → new.mults ≡ old.mults → new.ports ≡ old.ports → Changes old new Alu cycle until
alu_changes old new cycle until t m p = record { own = own; others = others }
  where
    own : (q : Pool) → same_pool Alu q ≡ true → IsTaken cycle until (units_of old q) (units_of new q)
    own Alu e = t
    own Mult e = absurd cc
    own Port e = absurd cc

    others : (q : Pool) → same_pool Alu q ≡ false → units_of new q ≡ units_of old q
    others Alu e = absurd cc
    others Mult e = m
    others Port e = p

pub mult_changes : (old new : Units) (cycle until : ℕ) → IsTaken cycle until old.mults new.mults → new.alus ≡ old.alus → new.ports ≡ old.ports → Changes old new Mult cycle until
mult_changes old new cycle until t a p = record { own = own; others = others }
  where
    own : (q : Pool) → same_pool Mult q ≡ true → IsTaken cycle until (units_of old q) (units_of new q)
    own Mult e = t
    own Alu e = absurd cc
    own Port e = absurd cc

    others : (q : Pool) → same_pool Mult q ≡ false → units_of new q ≡ units_of old q
    others Mult e = absurd cc
    others Alu e = a
    others Port e = p

pub port_changes : (old new : Units) (cycle until : ℕ) → IsTaken cycle until old.ports new.ports → new.alus ≡ old.alus → new.mults ≡ old.mults → Changes old new Port cycle until
port_changes old new cycle until t a m = record { own = own; others = others }
  where
    own : (q : Pool) → same_pool Port q ≡ true → IsTaken cycle until (units_of old q) (units_of new q)
    own Port e = t
    own Alu e = absurd cc
    own Mult e = absurd cc

    others : (q : Pool) → same_pool Port q ≡ false → units_of new q ≡ units_of old q
    others Port e = absurd cc
    others Alu e = a
    others Mult e = m

pub holds_more : (old new : Units) (p : Pool) (cycle hold : ℕ) → Changes old new p cycle (cycle + hold) → HoldsMore p cycle hold old new
holds_more old new p cycle hold changes q c le = by_pool (same_pool p q) refl
  where
    by_pool : (b : Bool) → same_pool p q ≡ b → busy c (units_of new q) ≡ busy c (units_of old q) + cond (same_pool p q && nat_lt c (cycle + hold)) 1 0
    by_pool true e =
        let (i, inside, free, is) = changes.own q e in
        let k : busy c (set (units_of old q) i (cycle + hold)) ≡ cond (nat_lt c (cycle + hold)) 1 0 + busy c (units_of old q) = busy_set c (cycle + hold) (units_of old q) i inside (omega arith) in
        rw (e, is, k) (omega arith)
    by_pool false e = rw (e, changes.others q e) (omega arith)

pub keeps_sizes : (old new : Units) (p : Pool) (cycle until : ℕ) → Changes old new p cycle until → (q : Pool) → units_in new q ≡ units_in old q
keeps_sizes old new p cycle until changes q = by_pool (same_pool p q) refl
  where
    by_pool : (b : Bool) → same_pool p q ≡ b → units_in new q ≡ units_in old q
    by_pool true e = let (i, inside, free, is) = changes.own q e in ap length is ∙ length_set (units_of old q) i until
    by_pool false e = ap length (changes.others q e)

pub take_stands : (old new : Units) (p : Pool) (cycle hold : ℕ) (takes : List Take) → Changes old new p cycle (cycle + hold)
    → new.last ≡ cycle → old.last ≤ cycle → StandsFor old takes → StandsFor new (record { pool = p; cycle = cycle; hold = hold } ∷ takes)
take_stands old new p cycle hold takes changes last in_time stands =
    record { last = last; counts = counts }
  where
    counts : (q : Pool) (c : ℕ) → new.last ≤ c → busy c (units_of new q) ≡ held q c (record { pool = p; cycle = cycle; hold = hold } ∷ takes)
    counts q c h =
        let now : cycle ≤ c = omega arith in
        let more : busy c (units_of new q) ≡ busy c (units_of old q) + cond (same_pool p q && nat_lt c (cycle + hold)) 1 0 = holds_more old new p cycle hold changes q c now in
        let before : busy c (units_of old q) ≡ held q c takes = stands.counts q c (omega arith) in
        rw (held_cons, le-leb cycle c now, more, before) (omega arith)

pub free_stands : (v : Units) (p : Pool) (c : ℕ) (units : List ℕ) (answer : Bool) → units_of v p ≡ units → v.last ≤ c
    → (IsTrue answer → busy c units < length units) × (busy c units < length units → IsTrue answer)
    → (takes : List Take) → StandsFor v takes → (IsTrue answer → held p c takes < units_in v p) × (held p c takes < units_in v p → IsTrue answer)
free_stands v p c units answer e in_time iff takes stands = rw (e, ← stands.counts p c in_time, e) iff
