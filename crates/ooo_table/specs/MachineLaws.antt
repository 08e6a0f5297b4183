-- The bound on commits for this processor.
use Rattle.std.specs.Prelude.{◌≡◌, ℕ, ◌+◌, ◌<◌, ◌≤◌, ◌||◌, Bool, true, false, None}
use Rattle.mem_hier.specs.declared.config.HierConfig.{HierConfig}
use Rattle.mem_hier.specs.declared.config.Level.TheVariants.{Off}
use Rattle.mem_hier.specs.Limits as hierarchy
use Rattle.mem_hier.specs.Replay.{greatest_fetch_of, greatest_load_of}
use Rattle.mem_hier.specs.Stands.{CyclesRise}
use Rattle.mem_hier.specs.Laws.{default_config}
use Rattle.ooo_table.specs.Limits.{IsAllowed}
use Rattle.ooo_table.specs.Cycle.{table}
use Rattle.ooo_table.specs.Ends.{commits_in, stops_in}
use Rattle.ooo_table.specs.Bound.{bound_of}
use Rattle.ooo_table.specs.Machine.{Given, setting_of}

-- the configurations are allowed, and the cycles of the references before the start never fell
pub record IsSound (g : Given) : Type 0 where
  pub config : IsAllowed g.config
  pub hier : hierarchy.IsAllowed g.hier
  pub rise : CyclesRise g.references

-- K: the bound with the greatest latencies that the hierarchy can give
abbrev pub k_of : Given → ℕ
k_of g = bound_of g.config.penalty (greatest_fetch_of g.hier) (greatest_load_of g.hier)

-- in one of K cycles from c on a row commits or the machine stops
abbrev pub IsTimely : Given → ℕ → Type 0
IsTimely g c = (x : ℕ) × (c ≤ x) × (x < c + k_of g) × ((commits_in (setting_of g) x (table (setting_of g) x) || stops_in (setting_of g) x (table (setting_of g) x)) ≡ true)

-- a hierarchy without any cache and TLB
abbrev pub bare_hierarchy : HierConfig
bare_hierarchy = record (default_config false) { il1 = Off; il2 = Off; dl1 = Off; dl2 = Off; itlb = None; dtlb = None }

-- K with the default penalty of 3
pub record WorkedBounds : Type 0 where
  pub defaults : (wait : Bool) → bound_of 3 (greatest_fetch_of (default_config wait)) (greatest_load_of (default_config wait)) ≡ 174
  pub bare : bound_of 3 (greatest_fetch_of bare_hierarchy) (greatest_load_of bare_hierarchy) ≡ 98
