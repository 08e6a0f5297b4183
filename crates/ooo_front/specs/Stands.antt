-- How a front shows, what it stands for together with the hierarchy and the predictor that it asks, and what a cycle
-- asks of their numbers and leaves of them.
use Rattle.std.specs.Prelude.{◌≡◌, ℕ, ◌+◌, ◌-◌, ◌^◌, ◌<◌, ◌≤◌, List, [], length, All, Option, Some, None, slice_get, nat_lt, if◌then◌else◌}
use Rattle.mem_hier.specs.declared.config.HierConfig.{HierConfig}
use Rattle.mem_hier.specs.Stands as hier
use Rattle.mem_hier.specs.Stands.{Held, config_of, references_of, last_cycle_of}
use Rattle.bpred_unit.specs.declared.config.PredConfig.{PredConfig}
use Rattle.bpred_unit.specs.declared.predictor.Predictor.{Predictor}
use Rattle.bpred_unit.specs.Stands as pred
use Rattle.bpred_unit.specs.Stands.{cells_of, IsTop}
use Rattle.ooo_front.specs.declared.row.FetchRow.{FetchRow}
use Rattle.ooo_front.specs.Fetching.{FrontEnd, Stage}

-- the front, the hierarchy and the predictor stand for this stage of fetching
pub record Stands (f : FrontEnd) (h : Held) (v : Predictor) (c : HierConfig) (p : PredConfig) (s : Stage) : Type 0 where
  pub front : f ≡ s.front
  pub hierarchy : hier.StandsFor h c s.references
  pub predictor : pred.StandsFor v p s.events

-- A cycle may be fetched in: it is above that of the call before, and no less than that of the last reference, and no
-- count comes to its end.
pub record MayFollow (f : FrontEnd) (h : Held) (at : ℕ) : Type 0 where
  pub next : f.cycle ≤ at
  pub order : last_cycle_of h ≤ at
  pub cycle : at < 2 ^ 62
  pub references : references_of h + f.width ≤ 2 ^ 60
  pub rows : f.row + f.width < 2 ^ 62

-- what up to this many fetches in a cycle leave of the hierarchy, whatever it stands for
pub record Refers (h h' : Held) (most cycle : ℕ) : Type 0 where
  pub config : config_of h' ≡ config_of h
  pub references : references_of h' ≤ references_of h + most
  pub last_cycle : last_cycle_of h' ≤ cycle

-- what the look-ups of these rows leave of the predictor: each top is one to which it may recover
pub record LooksUp (v v' : Predictor) (rows : List FetchRow) : Type 0 where
  pub cells : cells_of v' ≡ cells_of v
  pub tops : All (λ (r : FetchRow). IsTop (cells_of v) r.top) rows

-- what a cycle with these rows leaves of the front's numbers
pub record Counts (f f' : FrontEnd) (rows : List FetchRow) (at : ℕ) : Type 0 where
  pub size : f'.size ≡ f.size
  pub width : f'.width ≡ f.width
  pub row : f'.row ≡ f.row + length rows
  pub cycle : f'.cycle ≡ at + 1
  pub most : length rows ≤ f.width

-- the row is the next one, where it is fetched in this cycle
pub record IsNext (f : FrontEnd) (r : FetchRow) (cycle : ℕ) : Type 0 where
  pub row : r.row ≡ f.row
  pub pc : r.pc ≡ f.pc
  pub fetched : r.fetched ≡ cycle
  pub queued : cycle ≤ r.queued

-- the next row may be fetched, and no count comes to its end
pub record MayFetchOne (f : FrontEnd) (h : Held) (at : ℕ) : Type 0 where
  pub room : length f.rows < f.size
  pub earliest : f.earliest ≤ at
  pub order : last_cycle_of h ≤ at
  pub cycle : at < 2 ^ 62
  pub references : references_of h < 2 ^ 60
  pub rows : f.row < 2 ^ 62

-- the row may wait: there is room for it, it is the next one, and it isn't fetched too early
pub record MayWait (f : FrontEnd) (r : FetchRow) : Type 0 where
  pub room : length f.rows < f.size
  pub next : IsNext f r r.fetched
  pub early : f.earliest ≤ r.fetched
  pub fits : r.fetched < 2 ^ 62
  pub count : r.row < 2 ^ 62

-- ---- other calls

-- nothing waits, and the next row is the first, at this address
abbrev pub started : ℕ → ℕ → ℕ → FrontEnd
started size width pc = record { rows = []; size = size; width = width; row = 0; pc = pc; earliest = 0; cycle = 0 }

abbrev pub oldest : List FetchRow → Option FetchRow
oldest rows = slice_get rows (length rows - 1)

-- a row that is queued before the cycle
abbrev pub queued_before : ℕ → Option FetchRow → Option FetchRow
queued_before cycle None = None
queued_before cycle (Some r) = if nat_lt r.queued cycle then Some r else None

abbrev pub with_rows : List FetchRow → FrontEnd → FrontEnd
with_rows rows f = record f { rows = rows }

-- all rows are dropped, and the next one is fetched at this address, in this cycle at the earliest
abbrev pub redirected : ℕ → ℕ → FrontEnd → FrontEnd
redirected pc earliest f = record f { rows = []; pc = pc; earliest = earliest }
