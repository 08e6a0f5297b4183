-- The configurations that a hierarchy may have.
use Rattle.std.specs.Prelude.{◌≡◌, ℕ, ◌≤◌, Bool, true, false, not, Option, Some, None, IsTrue, ◌||◌, ◌&&◌, nat_lt}
use Rattle.std.specs.Int.{is_power_of_two}
use Rattle.cache_core.specs.declared.config.CacheConfig.{CacheConfig}
use Rattle.cache_core.specs.Limits.{IsWithinLimits}
use Rattle.mem_hier.specs.declared.config.Level.{Level}
use Rattle.mem_hier.specs.declared.config.Level.TheVariants.{Off, Own, Shared}
use Rattle.mem_hier.specs.declared.config.HierConfig.{HierConfig}

abbrev pub is_off : Level → Bool
is_off Off = true
is_off (Own shape) = false
is_off Shared = false

abbrev pub is_shared : Level → Bool
is_shared Off = false
is_shared (Own shape) = false
is_shared Shared = true

-- the shape of a level that has a cache of its own
abbrev pub own : Level → Option CacheConfig
own Off = None
own (Own shape) = Some shape
own Shared = None

-- the shape of a level that may be the data side's
abbrev pub own_or : Level → Option CacheConfig → Option CacheConfig
own_or Off shared = None
own_or (Own shape) shared = Some shape
own_or Shared shared = shared

-- the second level behind il1: its own, or the data side's
abbrev pub behind_il1 : HierConfig → Option CacheConfig
behind_il1 c = own_or c.il2 (own c.dl2)

-- the blocks of the second level are smaller than those of the first
abbrev pub has_smaller_blocks : Option CacheConfig → Option CacheConfig → Bool
has_smaller_blocks (Some second) (Some first) = nat_lt second.block first.block
has_smaller_blocks second first = false

-- Levels that can't stand together: a second level without a first one; a shared first level where the data side has
-- none, or beside a second one; a shared second level where the data side has none; and smaller blocks behind greater ones.
abbrev pub has_clash : HierConfig → Bool
has_clash c =
    (is_off c.il1 && not (is_off c.il2))
    || (is_off c.dl1 && not (is_off c.dl2))
    || (is_shared c.il1 && (is_off c.dl1 || not (is_off c.il2)))
    || (is_shared c.il2 && is_off c.dl2)
    || has_smaller_blocks (behind_il1 c) (own c.il1)
    || has_smaller_blocks (own c.dl2) (own c.dl1)

-- a shape that is there is one that a cache may have
pub record IsShape (shape : Option CacheConfig) : Type 0 where
  pub fits : (s : CacheConfig) → shape ≡ Some s → IsWithinLimits s

pub record IsBetween (low high n : ℕ) : Type 0 where
  pub least : low ≤ n
  pub most : n ≤ high

-- what a lookup of each level takes
pub record HasLookups (c : HierConfig) : Type 0 where
  pub il1 : IsBetween 1 100 c.il1lat
  pub il2 : IsBetween 1 100 c.il2lat
  pub dl1 : IsBetween 1 100 c.dl1lat
  pub dl2 : IsBetween 1 100 c.dl2lat

-- what memory and a miss of a TLB take
pub record HasMemory (c : HierConfig) : Type 0 where
  pub first : IsBetween 1 1000 c.mem_first
  pub inter : IsBetween 1 100 c.mem_inter
  pub width : IsBetween 1 64 c.mem_width
  pub power : IsTrue (is_power_of_two c.mem_width)
  pub tlb : IsBetween 1 1000 c.tlb_lat

pub record HasShapes (c : HierConfig) : Type 0 where
  pub il1 : IsShape (own c.il1)
  pub dl1 : IsShape (own c.dl1)
  pub il2 : IsShape (own c.il2)
  pub dl2 : IsShape (own c.dl2)
  pub itlb : IsShape c.itlb
  pub dtlb : IsShape c.dtlb

-- A configuration that a hierarchy may have: every number is within its limits, the data side has no shared level, and
-- its levels can stand together.
pub record IsAllowed (c : HierConfig) : Type 0 where
  pub shapes : HasShapes c
  pub lookups : HasLookups c
  pub memory : HasMemory c
  pub own_dl1 : is_shared c.dl1 ≡ false
  pub own_dl2 : is_shared c.dl2 ≡ false
  pub together : has_clash c ≡ false
