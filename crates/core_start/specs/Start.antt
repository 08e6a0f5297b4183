-- The parts with which a run starts, and that they stand for the first table.
use Rattle.std.specs.Prelude.{◌≡◌, ℕ, false, List, [], ◌∷◌}
use Rattle.sim_safe.specs.State.{Storage, state_of}
use Rattle.mem_hier.specs.declared.config.HierConfig.{HierConfig}
use Rattle.mem_hier.specs.Replay.{Reference, SettleAll}
use Rattle.mem_hier.specs.Stands as hierarchy
use Rattle.mem_hier.specs.Stands.{Held, Settled}
use Rattle.bpred_unit.specs.declared.predictor.Predictor.{Predictor}
use Rattle.bpred_unit.specs.Stands as prediction
use Rattle.fu_pool.specs.declared.pools.Pool.TheVariants as pool
use Rattle.fu_pool.specs.Takes as units
use Rattle.fu_pool.specs.Takes.{Units, units_in}
use Rattle.ruu_core.specs.Window as window
use Rattle.ruu_core.specs.Window.{Window}
use Rattle.lsq_core.specs.Queue as accesses
use Rattle.lsq_core.specs.Queue.{Queue}
use Rattle.ooo_front.specs.Stands.{started}
use Rattle.spec_state.specs.Overlay as overlaid
use Rattle.spec_state.specs.Overlay.{Overlaid}
use Rattle.ooo_table.specs.declared.config.OooConfig.{OooConfig}
use Rattle.ooo_table.specs.Cycle.{table}
use Rattle.ooo_table.specs.Machine.{Given, setting_of}
use Rattle.core_parts.specs.Addresses.{AddressList}
use Rattle.core_parts.specs.declared.parts.Parts.{Parts}
use Rattle.core_parts.specs.Stands.{Stands}

-- ---- the parts

abbrev pub no_addresses : ℕ → AddressList
no_addresses n = record { rows = []; size = n }

-- no row is live, so no load or store is in flight
pub record AreEmpty (c : OooConfig) (u : Window) (q : Queue) (a : AddressList) : Type 0 where
  pub unit : u ≡ window.empty c.ruu
  pub queue : q ≡ accesses.empty c.lsq
  pub addresses : a ≡ no_addresses c.lsq

-- there are as many units as the configuration says, and none was taken
pub record AreFree (c : OooConfig) (v : Units) : Type 0 where
  pub alus : units_in v pool.Alu ≡ c.alus
  pub mults : units_in v pool.Mult ≡ c.mults
  pub ports : units_in v pool.Port ≡ c.ports
  pub time : v.last ≡ 0
  pub takes : units.StandsFor v []

-- nothing is written over the state, and there is room for an effect of each row that may be live
pub record IsClean (c : OooConfig) (o : Overlaid) : Type 0 where
  pub size : o.size ≡ c.ruu
  pub effects : overlaid.StandsFor o []

-- all blocks that are held are there
pub record IsSettled (old new : Held) : Type 0 where
  pub settled : Settled old new
  pub references : (hc : HierConfig) (h : List Reference) → hierarchy.StandsFor old hc h → hierarchy.StandsFor new hc (SettleAll ∷ h)

-- The configuration, the state and the predictor are those that were handed in, and the hierarchy is settled. Fetching
-- begins at the program counter, on the right path.
pub record Begins (c : OooConfig) (m : Storage) (h : Held) (v : Predictor) (parts : Parts) : Type 0 where
  pub config : parts.config ≡ c
  pub arch : parts.arch ≡ m
  pub predictor : parts.predictor ≡ v
  pub hier : IsSettled h parts.hier
  pub live : AreEmpty c parts.unit parts.queue parts.addresses
  pub front : parts.front ≡ started c.ifq c.decode m.pc
  pub pools : AreFree c parts.pools
  pub overlay : IsClean c parts.overlay
  pub wrong : parts.wrong ≡ false

-- ---- the table

-- a run is given these: it has the configuration, starts at the state, and its earlier references and events are those that
-- the hierarchy and the predictor stand for
pub record IsGiven (c : OooConfig) (m : Storage) (h : Held) (v : Predictor) (g : Given) : Type 0 where
  pub config : c ≡ g.config
  pub start : state_of m ≡ g.start
  pub references : hierarchy.StandsFor h g.hier g.references
  pub events : prediction.StandsFor v g.pred g.events

-- so begin the parts, and of every run that is given these they stand for the table before the first cycle
pub record Starts (c : OooConfig) (m : Storage) (h : Held) (v : Predictor) (parts : Parts) : Type 0 where
  pub begins : Begins c m h v parts
  pub stands : (g : Given) → IsGiven c m h v g → Stands g 0 false parts (table (setting_of g) 0)
