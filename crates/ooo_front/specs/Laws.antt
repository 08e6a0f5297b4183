-- Laws of what cycles fetch, in words of their own.
use Rattle.std.specs.Prelude.{◌≡◌, ℕ, ◌+◌, ◌<◌, ◌≤◌, true, false, List, [], ◌∷◌, ◌++◌, All, length, drop, map, filter_map, Option, Some, None, is_some, if◌then◌else◌}
use Rattle.ecoff_load.specs.declared.image.Text.{Text}
use Rattle.ecoff_load.specs.Fetch.{fetch}
use Rattle.mem_hier.specs.declared.config.HierConfig.{HierConfig}
use Rattle.mem_hier.specs.Replay.{Reference, Fetch, latency_of, fetch_hit_of, greatest_fetch_of}
use Rattle.bpred_unit.specs.declared.config.PredConfig.{PredConfig}
use Rattle.bpred_unit.specs.History.{Event, LookUp}
use Rattle.ooo_front.specs.declared.row.FetchRow.{FetchRow}
use Rattle.ooo_front.specs.Fetching.{Stage, looked_up, goes_on, may_fetch, queued_at, fetch_cycle}
use Rattle.ooo_front.specs.Stands.{oldest, redirected}

-- the reference of a row, if it has one
abbrev pub reference_of : Text → FetchRow → Option Reference
reference_of text r = if is_some (fetch text r.pc) then Some (Fetch r.pc r.fetched) else None

abbrev pub lookup_of : FetchRow → Event
lookup_of r = LookUp r.pc (looked_up r.a r.b)

-- These rows, the newest first, are what a cycle adds. References and look-ups are theirs, in their order; there are no
-- more than the width and the queue have room for; behind each of them but the last fetching goes on; and it ends where
-- the width is used or no row may be fetched any more.
pub record Adds (text : Text) (cycle width : ℕ) (s s' : Stage) (fresh : List FetchRow) : Type 0 where
  pub rows : s'.front.rows ≡ fresh ++ s.front.rows
  pub references : s'.references ≡ filter_map (reference_of text) fresh ++ s.references
  pub events : s'.events ≡ map lookup_of fresh ++ s.events
  pub fetched : All (λ (r : FetchRow). r.fetched ≡ cycle) fresh
  pub most : length fresh ≤ width
  pub room : length s.front.rows ≤ s.front.size → length s'.front.rows ≤ s.front.size
  pub on : All (λ r. goes_on r ≡ true) (drop 1 fresh)
  pub whole : length fresh < width → may_fetch cycle s'.front ≡ false

abbrev pub AddsRows : Text → ℕ → Stage → Stage → Type 0
AddsRows text cycle s s' = (fresh : List FetchRow) × Adds text cycle s.front.width s s' fresh

-- cycles one after another, the newest first
abbrev pub cycles : HierConfig → PredConfig → Text → List ℕ → Stage → Stage
cycles c p text [] s = s
cycles c p text (n ∷ older) s = fetch_cycle c p text n (cycles c p text older s)

abbrev pub redirect : ℕ → ℕ → Stage → Stage
redirect pc earliest s = record s { front = redirected pc earliest s.front }

-- nothing was fetched, referred to or looked up
pub record IsIdle (s s' : Stage) : Type 0 where
  pub rows : s'.front.rows ≡ s.front.rows
  pub references : s'.references ≡ s.references
  pub events : s'.events ≡ s.events

-- the first of the rows that wait is this one
pub record Begins (s : Stage) (number address at : ℕ) : Type 0 where
  pub first : FetchRow
  pub waits : oldest s.front.rows ≡ Some first
  pub row : first.row ≡ number
  pub pc : first.pc ≡ address
  pub fetched : first.fetched ≡ at

-- after a redirection, and cycles before the earliest one, nothing waits and nothing was asked, and a cycle from the
-- earliest one on fetches first from the address
pub record GoesOnThere (c : HierConfig) (p : PredConfig) (text : Text) (pc earliest : ℕ) (before : List ℕ) (s : Stage) : Type 0 where
  pub idle : IsIdle (redirect pc earliest s) (cycles c p text before (redirect pc earliest s))
  pub begins : (cycle : ℕ) → earliest ≤ cycle → 0 < s.front.width → 0 < s.front.size
      → Begins (fetch_cycle c p text cycle (cycles c p text before (redirect pc earliest s))) s.front.row pc cycle

-- A row is queued when its reference is there, less what its first level takes for a lookup, and never later than the
-- greatest latency says.
pub record IsQueuedSo (c : HierConfig) (text : Text) (h : List Reference) (pc cycle : ℕ) : Type 0 where
  pub there : is_some (fetch text pc) ≡ true → queued_at c text cycle pc h + fetch_hit_of c ≡ cycle + latency_of c h (Fetch pc cycle)
  pub most : queued_at c text cycle pc h + fetch_hit_of c ≤ cycle + greatest_fetch_of c
