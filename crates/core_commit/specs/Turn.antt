-- A turn of the commit stage, over the parts.
use Rattle.std.specs.Prelude.{◌≡◌, ℕ, Bool, true, false, List, ◌∷◌, Option, Some, None, unwrap_or, nat_lt, ◌&&◌, ◌||◌, if◌then◌else◌}
use Rattle.sim_safe.specs.declared.record.CommitRecord.{CommitRecord}
use Rattle.mem_hier.specs.declared.config.HierConfig.{HierConfig}
use Rattle.mem_hier.specs.Replay.{Reference, Store}
use Rattle.mem_hier.specs.Stands as hierarchy
use Rattle.mem_hier.specs.Stands.{Held, Referred}
use Rattle.bpred_unit.specs.declared.config.PredConfig.{PredConfig}
use Rattle.bpred_unit.specs.declared.predictor.Predictor.{Predictor}
use Rattle.bpred_unit.specs.History.{Event, Update}
use Rattle.bpred_unit.specs.Stands as predictor
use Rattle.bpred_unit.specs.Stands.{cells_of}
use Rattle.fu_pool.specs.declared.pools.Pool.{Pool}
use Rattle.fu_pool.specs.declared.pools.Pool.TheVariants as pool
use Rattle.fu_pool.specs.Takes.{Units, units_of, units_in, busy, HoldsMore}
use Rattle.pisa_isa.specs.Classes.{control_of}
use Rattle.ruu_core.specs.declared.station.Station.{Station}
use Rattle.ruu_core.specs.Window as unit
use Rattle.ruu_core.specs.Window.{is_load, is_store, head_of, first}
use Rattle.lsq_core.specs.Queue as queue
use Rattle.lsq_core.specs.Queue.{Queue}
use Rattle.ooo_table.specs.Machine.{is_control}
use Rattle.core_parts.specs.Addresses as addresses
use Rattle.core_parts.specs.Addresses.{AddressList}
use Rattle.core_parts.specs.declared.parts.Parts.{Parts}

-- ---- the row that commits

-- a unit of the ports is left where a store commits
abbrev pub has_port : Bool → ℕ → Units → Bool
has_port true c v = nat_lt (busy c (units_of v pool.Port)) (units_in v pool.Port)
has_port false c v = true

-- of the commits of the cycle so many have come
abbrev pub may_leave : ℕ → ℕ → Parts → Station → Bool
may_leave c n parts s = nat_lt n parts.config.commit && has_port (is_store s) c parts.pools

abbrev pub if_may : ℕ → ℕ → Parts → Option Station → Option Station
if_may c n parts None = None
if_may c n parts (Some s) = if may_leave c n parts s then Some s else None

-- the oldest row, where it is right and was done before c, and finds width and a port
abbrev pub leaving : ℕ → ℕ → Parts → Option Station
leaving c n parts = if_may c n parts (head_of c (first parts.unit.rows))

-- ---- what it did

abbrev pub address_in : Option CommitRecord → ℕ
address_in None = 0
address_in (Some did) = unwrap_or did.access 0

abbrev pub stored_address : Station → ℕ
stored_address s = address_in s.commit

abbrev pub taken_in : Option CommitRecord → Bool
taken_in None = false
taken_in (Some did) = did.taken

abbrev pub was_taken : Station → Bool
was_taken s = taken_in s.commit

abbrev pub is_memory : Station → Bool
is_memory s = is_load s || is_store s

-- ---- what it leaves

-- a load or store leaves the queue
abbrev pub left_queue : Bool → Queue → Queue
left_queue true q = queue.retired q
left_queue false q = q

abbrev pub left_addresses : Bool → AddressList → AddressList
left_addresses true a = addresses.retired a
left_addresses false a = a

-- a store holds a port for the cycle and makes its reference
pub record HasReferred (c addr : ℕ) (v v' : Units) (h h' : Held) : Type 0 where
  pub pools : HoldsMore pool.Port c 1 v v'
  pub last : v'.last ≡ c
  pub sizes : (p : Pool) → units_in v' p ≡ units_in v p
  pub stands : (hc : HierConfig) (refs : List Reference) → hierarchy.StandsFor h hc refs → hierarchy.StandsFor h' hc (Store addr c ∷ refs)
  pub referred : Referred h h' c

abbrev pub Refers : Bool → ℕ → ℕ → Units → Units → Held → Held → Type 0
Refers true c addr v v' h h' = HasReferred c addr v v' h h'
Refers false c addr v v' h h' = (v' ≡ v) × (h' ≡ h)

-- a branch or jump updates the predictor
abbrev pub Teaches : Bool → Station → Predictor → Predictor → Type 0
Teaches true s p p' =
    (pc : PredConfig) (events : List Event) → predictor.StandsFor p pc events → predictor.StandsFor p' pc (Update s.pc s.instr (was_taken s) s.actual ∷ events)
Teaches false s p p' = p' ≡ p

pub record Leaves (c : ℕ) (s : Station) (old new : Parts) : Type 0 where
  pub same : new ≡ record old { unit = new.unit; queue = new.queue; addresses = new.addresses; pools = new.pools; hier = new.hier; predictor = new.predictor }
  pub unit : new.unit ≡ unit.retired old.unit
  pub queue : new.queue ≡ left_queue (is_memory s) old.queue
  pub addresses : new.addresses ≡ left_addresses (is_memory s) old.addresses
  pub refers : Refers (is_store s) c (stored_address s) old.pools new.pools old.hier new.hier
  pub teaches : Teaches (is_control (control_of s.instr)) s old.predictor new.predictor
  pub cells : cells_of new.predictor ≡ cells_of old.predictor

-- the turn: the row that commits leaves, or all stays
abbrev pub Turns : ℕ → ℕ → Parts → Parts → Option Station → Type 0
Turns c n old new None = (leaving c n old ≡ None) × (new ≡ old)
Turns c n old new (Some s) = (leaving c n old ≡ Some s) × Leaves c s old new
