-- The functional units that were taken, and what the units of the pools say of them.
use Rattle.std.specs.Prelude.{◌≡◌, ℕ, ◌+◌, ◌<◌, ◌≤◌, Bool, true, false, List, [], ◌∷◌, length, nat_lt, nat_le, ◌&&◌, count_by, slice_index, slice_set, if◌then◌else◌}
use Rattle.fu_pool.specs.declared.pools.Pool.{Pool}
use Rattle.fu_pool.specs.declared.pools.Pool.TheVariants.{Alu, Mult, Port}

-- a unit of the pool was taken at a cycle, to be held from then on for so many cycles. In a list of takes the newest is first
pub record Take : Type 0 where
  pub pool : Pool
  pub cycle : ℕ
  pub hold : ℕ

abbrev pub same_pool : Pool → Pool → Bool
same_pool Alu Alu = true
same_pool Mult Mult = true
same_pool Port Port = true
same_pool p q = false

-- the take holds its unit at the cycle
abbrev pub holds : ℕ → Take → Bool
holds c t = nat_le t.cycle c && nat_lt c (t.cycle + t.hold)

-- how many units of the pool these takes hold at the cycle
abbrev pub held : Pool → ℕ → List Take → ℕ
held p c takes = count_by (λ t. same_pool t.pool p && holds c t) takes

-- the cycle of the newest take, 0 before the first
abbrev pub last_cycle : List Take → ℕ
last_cycle [] = 0
last_cycle (t ∷ older) = t.cycle

-- ---- what the pools keep

-- each unit by the cycle from which it is free, and the cycle of the last take
pub record Units : Type 0 where
  pub alus : List ℕ
  pub mults : List ℕ
  pub ports : List ℕ
  pub last : ℕ

abbrev pub units_of : Units → Pool → List ℕ
units_of v Alu = v.alus
units_of v Mult = v.mults
units_of v Port = v.ports

-- how many units the pool has
abbrev pub units_in : Units → Pool → ℕ
units_in v p = length (units_of v p)

-- how many of these units are not free at the cycle
abbrev pub busy : ℕ → List ℕ → ℕ
busy c units = count_by (λ free_at. nat_lt c free_at) units

-- a unit of the pool is left at the cycle
abbrev pub IsFree : Units → Pool → ℕ → Type 0
IsFree v p c = busy c (units_of v p) < units_in v p

-- from the last take on, as many units are busy at each cycle as these takes hold
pub record StandsFor (v : Units) (takes : List Take) : Type 0 where
  pub last : v.last ≡ last_cycle takes
  pub counts : (p : Pool) (c : ℕ) → v.last ≤ c → busy c (units_of v p) ≡ held p c takes

-- from the cycle on, one unit more of the pool is busy until its hold is over, and all others are as they were
abbrev pub HoldsMore : Pool → ℕ → ℕ → Units → Units → Type 0
HoldsMore p cycle hold old new =
    (q : Pool) (c : ℕ) → cycle ≤ c
    → busy c (units_of new q) ≡ busy c (units_of old q) + (if same_pool p q && nat_lt c (cycle + hold) then 1 else 0)

-- of these units, one that was free at the cycle is busy until another
abbrev pub IsTaken : ℕ → ℕ → List ℕ → List ℕ → Type 0
IsTaken cycle until old new =
    (i : ℕ) × (i < length old) × (slice_index old i ≤ cycle) × (new ≡ slice_set old i until)
