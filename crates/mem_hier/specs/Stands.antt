-- What a hierarchy holds, and the references that it stands for.
use Rattle.std.specs.Prelude.{◌≡◌, ℕ, ◌+◌, ◌≤◌, List, [], ◌∷◌, Option, Some, None}
use Rattle.cache_core.specs.declared.config.CacheConfig.{CacheConfig}
use Rattle.cache_core.specs.Replay.{Call}
use Rattle.cache_core.specs.Stands as cache
use Rattle.mem_hier.specs.declared.config.HierConfig.{HierConfig}
use Rattle.mem_hier.specs.Limits.{own, IsAllowed}
use Rattle.mem_hier.specs.Replay.{Reference, Fetch, Load, Store, SettleAll, Calls, calls_of}

-- the caches and TLBs, each where there is one of its own
pub record Caches : Type 0 where
  pub il1 : Option cache.Held
  pub dl1 : Option cache.Held
  pub il2 : Option cache.Held
  pub dl2 : Option cache.Held
  pub itlb : Option cache.Held
  pub dtlb : Option cache.Held

-- a hierarchy: its configuration, its caches and TLBs, how many references it got, and the cycle of the last one since
-- it was settled
pub record Held : Type 0 where
  pub config : HierConfig
  pub caches : Caches
  pub references : ℕ
  pub last_cycle : ℕ

-- a level stands for these calls, and is none exactly where it has no shape
abbrev pub LevelStands : Option cache.Held → Option CacheConfig → List Call → Type 0
LevelStands None None calls = Unit {0}
LevelStands None (Some shape) calls = ⊥
LevelStands (Some held) None calls = ⊥
LevelStands (Some held) (Some shape) calls = cache.StandsFor held shape calls

-- every cache and TLB stands for its own calls
pub record CachesStand (v : Caches) (c : HierConfig) (s : Calls) : Type 0 where
  pub il1 : LevelStands v.il1 (own c.il1) s.il1
  pub dl1 : LevelStands v.dl1 (own c.dl1) s.dl1
  pub il2 : LevelStands v.il2 (own c.il2) s.il2
  pub dl2 : LevelStands v.dl2 (own c.dl2) s.dl2
  pub itlb : LevelStands v.itlb c.itlb s.itlb
  pub dtlb : LevelStands v.dtlb c.dtlb s.dtlb

-- how many of these are references, and no settlings
abbrev pub references_in : List Reference → ℕ
references_in [] = 0
references_in (Fetch pc cycle ∷ h) = references_in h + 1
references_in (Load addr cycle ∷ h) = references_in h + 1
references_in (Store addr cycle ∷ h) = references_in h + 1
references_in (SettleAll ∷ h) = references_in h

-- the cycle of the last reference since the last settling, 0 where there is none
abbrev pub last_cycle_in : List Reference → ℕ
last_cycle_in [] = 0
last_cycle_in (Fetch pc cycle ∷ h) = cycle
last_cycle_in (Load addr cycle ∷ h) = cycle
last_cycle_in (Store addr cycle ∷ h) = cycle
last_cycle_in (SettleAll ∷ h) = 0

-- cycles don't fall between two settlings
abbrev pub CyclesRise : List Reference → Type 0
CyclesRise [] = Unit {0}
CyclesRise (Fetch pc cycle ∷ h) = (last_cycle_in h ≤ cycle) × CyclesRise h
CyclesRise (Load addr cycle ∷ h) = (last_cycle_in h ≤ cycle) × CyclesRise h
CyclesRise (Store addr cycle ∷ h) = (last_cycle_in h ≤ cycle) × CyclesRise h
CyclesRise (SettleAll ∷ h) = CyclesRise h

-- The hierarchy, whose configuration is allowed, stands for these references, the newest first: its caches and TLBs got
-- the calls of their replay.
pub record StandsFor (v : Held) (c : HierConfig) (h : List Reference) : Type 0 where
  pub config : v.config ≡ c
  pub allowed : IsAllowed c
  pub caches : CachesStand v.caches c (calls_of c h)
  pub references : v.references ≡ references_in h
  pub last_cycle : v.last_cycle ≡ last_cycle_in h
  pub rise : CyclesRise h

-- the configuration of a hierarchy, how many references it got, and the cycle of the last one since it was settled
abbrev pub config_of : Held → HierConfig
config_of v = v.config

abbrev pub references_of : Held → ℕ
references_of v = v.references

abbrev pub last_cycle_of : Held → ℕ
last_cycle_of v = v.last_cycle

-- after a reference of this cycle
pub record Referred (old new : Held) (cycle : ℕ) : Type 0 where
  pub config : config_of new ≡ config_of old
  pub references : references_of new ≡ references_of old + 1
  pub last_cycle : last_cycle_of new ≡ cycle

-- after a settling
pub record Settled (old new : Held) : Type 0 where
  pub config : config_of new ≡ config_of old
  pub references : references_of new ≡ references_of old
  pub last_cycle : last_cycle_of new ≡ 0
