-- Laws of takes.
use Rattle.std.specs.Prelude.{◌≡◌, ℕ, ◌+◌, ◌<◌, ◌≤◌, false, List, [], ◌∷◌}
use Rattle.fu_pool.specs.declared.pools.Pool.{Pool}
use Rattle.fu_pool.specs.declared.pools.Pool.TheVariants.{Alu, Mult}
use Rattle.fu_pool.specs.Takes.{Take, same_pool, held, last_cycle}

-- each take found fewer units of its pool held than there are, and came no earlier than the one before it
abbrev pub IsGranted : (Pool → ℕ) → List Take → Type 0
IsGranted sizes [] = Unit {0}
IsGranted sizes (t ∷ older) =
    (last_cycle older ≤ t.cycle) × (held t.pool t.cycle older < sizes t.pool) × IsGranted sizes older

-- what the take adds to its own pool at the cycle
pub record HoldsItsUnit (t : Take) (older : List Take) (c : ℕ) : Type 0 where
  pub before : c < t.cycle → held t.pool c (t ∷ older) ≡ held t.pool c older
  pub during : t.cycle ≤ c → c < t.cycle + t.hold → held t.pool c (t ∷ older) ≡ held t.pool c older + 1
  pub after : t.cycle + t.hold ≤ c → held t.pool c (t ∷ older) ≡ held t.pool c older

-- and to the others
abbrev pub KeepsApart : Take → List Take → ℕ → Type 0
KeepsApart t older c = (p : Pool) → same_pool t.pool p ≡ false → held p c (t ∷ older) ≡ held p c older

-- a multiplier taken at cycle 3 for 19 cycles, and no other
abbrev pub one_divide : List Take
one_divide = record { pool = Mult; cycle = 3; hold = 19 } ∷ []

pub record Nineteen : Type 0 where
  pub first : held Mult 3 one_divide ≡ 1
  pub last : held Mult 21 one_divide ≡ 1
  pub over : held Mult 22 one_divide ≡ 0
  pub other : held Alu 3 one_divide ≡ 0
