-- What is always true of the parts in a cycle, whatever table they stand for: what the calls of the parts ask.
use Rattle.std.specs.Prelude.{◌≡◌, ℕ, ◌+◌, ◌*◌, ◌^◌, ◌<◌, ◌≤◌, Bool, true, List, All, Option, Some, None, length, map, filter, count_by, ◌||◌}
use Rattle.mem_hier.specs.Stands.{references_of, last_cycle_of}
use Rattle.bpred_unit.specs.Stands.{cells_of, IsTop}
use Rattle.fu_pool.specs.declared.pools.Pool.TheVariants as pool
use Rattle.fu_pool.specs.Takes.{units_in}
use Rattle.ruu_core.specs.Window as unit
use Rattle.ruu_core.specs.Window.{is_load, is_store, is_above}
use Rattle.lsq_core.specs.Queue.{Entry}
use Rattle.ooo_front.specs.declared.row.FetchRow.{FetchRow}
use Rattle.ooo_front.specs.Fetching.{FrontEnd}
use Rattle.ooo_table.specs.Limits.{IsAllowed}
use Rattle.core_parts.specs.declared.addresses.MemoryRow.{MemoryRow}
use Rattle.core_parts.specs.declared.parts.Parts.{Parts}

-- each part has the size that the configuration says
pub record HasSizes (parts : Parts) : Type 0 where
  pub allowed : IsAllowed parts.config
  pub unit : parts.unit.size ≡ parts.config.ruu
  pub queue : parts.queue.size ≡ parts.config.lsq
  pub addresses : parts.addresses.size ≡ parts.config.lsq
  pub front : parts.front.size ≡ parts.config.ifq
  pub width : parts.front.width ≡ parts.config.decode
  pub overlay : parts.overlay.size ≡ parts.config.ruu
  pub alus : units_in parts.pools pool.Alu ≡ parts.config.alus
  pub mults : units_in parts.pools pool.Mult ≡ parts.config.mults
  pub ports : units_in parts.pools pool.Port ≡ parts.config.ports

-- no part was asked of a later cycle than c
pub record IsInTime (c : ℕ) (parts : Parts) : Type 0 where
  pub cycle : c ≤ 10 ^ 13
  pub unit : is_above parts.unit.past c ≡ true
  pub pools : parts.pools.last ≤ c
  pub front : parts.front.cycle ≤ c
  pub hier : last_cycle_of parts.hier ≤ c

-- No count comes to its end: in a cycle no more than 32 stores, 32 loads and 32 fetches refer to memory, `used` of them so
-- far, and no more than 32 rows are fetched.
pub record HasNumbers (c used : ℕ) (parts : Parts) : Type 0 where
  pub references : references_of parts.hier ≤ 2 ^ 59 + 96 * c + used
  pub rows : parts.front.row ≤ 32 * c
  pub instructions : parts.arch.icnt + length parts.front.rows ≤ 2 ^ 61 + parts.front.row

-- ---- what one part says of another

-- a load or store, by its row
pub record Tag : Type 0 where
  pub row : ℕ
  pub store : Bool

abbrev pub is_memory : unit.Row → Bool
is_memory u = is_load u.station || is_store u.station

abbrev pub unit_tags : List unit.Row → List Tag
unit_tags rows = map (λ u. record { row = u.station.row; store = is_store u.station }) (filter is_memory rows)

abbrev pub queue_tags : List Entry → List Tag
queue_tags entries = map (λ e. record { row = e.row; store = e.store }) entries

abbrev pub address_tags : List MemoryRow → List Tag
address_tags rows = map (λ x. record { row = x.row; store = x.store }) rows

-- The rows that wait have the numbers right before the next one. They are above the last row that was dispatched.
abbrev pub IsBehind : Option ℕ → FrontEnd → Type 0
IsBehind None f = Unit {0}
IsBehind (Some last) f = last + length f.rows < f.row

-- the queue and the addresses are of the unit's loads and stores; waiting rows are behind all that were dispatched; tops are
-- ones to which the predictor may recover; and no more effects were applied than the unit has wrong rows
pub record Agree (parts : Parts) : Type 0 where
  pub queue : queue_tags parts.queue.entries ≡ unit_tags parts.unit.rows
  pub addresses : address_tags parts.addresses.rows ≡ unit_tags parts.unit.rows
  pub behind : IsBehind parts.unit.last parts.front
  pub memory_behind : IsBehind parts.queue.last parts.front
  pub tops : All (λ u. IsTop (cells_of parts.predictor) u.station.top) parts.unit.rows
  pub waiting_tops : All (λ (w : FetchRow). IsTop (cells_of parts.predictor) w.top) parts.front.rows
  pub applied : parts.overlay.applied ≤ count_by (λ u. u.station.wrong) parts.unit.rows

-- in cycle c, with so many references of this cycle
pub record Fits (c used : ℕ) (parts : Parts) : Type 0 where
  pub sizes : HasSizes parts
  pub time : IsInTime c parts
  pub numbers : HasNumbers c used parts
  pub agree : Agree parts
