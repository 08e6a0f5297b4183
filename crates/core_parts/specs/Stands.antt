-- What it means that the parts stand for the table, within a cycle.
use Rattle.std.specs.Prelude.{◌≡◌, ℕ, suc, ◌≤◌, Bool, true, false, not, List, [], ◌∷◌, length, Option, Some, None, is_some, find, count_by, ◌&&◌, if◌then◌else◌}
use Rattle.std.specs.List.{AllZip}
use Rattle.sim_safe.specs.State.{State, reader_of, state_of}
use Rattle.mem_hier.specs.Stands as hierarchy
use Rattle.bpred_unit.specs.History.{Event}
use Rattle.bpred_unit.specs.Stands as predictor
use Rattle.fu_pool.specs.declared.pools.Pool as units
use Rattle.fu_pool.specs.declared.pools.Pool.TheVariants as pool
use Rattle.fu_pool.specs.Takes.{Units, units_of, busy}
use Rattle.spec_state.specs.Overlay as overlay
use Rattle.spec_state.specs.Overlay.{seen}
use Rattle.ooo_table.specs.Row.{Row}
use Rattle.ooo_table.specs.Execution.{Pool, Alus, Multipliers, Ports, uses_memory}
use Rattle.ooo_table.specs.Table.{Setting, NextFetch, Table}
use Rattle.ooo_table.specs.Path.{execution}
use Rattle.ooo_table.specs.Done.{live, waiting}
use Rattle.ooo_table.specs.References.{references_of, updates_of, predictor_events_of}
use Rattle.ooo_table.specs.Issue.{holds}
use Rattle.ooo_table.specs.CycleLaws.{as_next}
use Rattle.ooo_table.specs.Machine.{Given, setting_of}
use Rattle.core_parts.specs.declared.parts.Parts.{Parts}
use Rattle.core_parts.specs.Rows.{pick, newest_number, in_queue, Lives, Holds, HasAddress, Waits}

-- ---- rows

-- The unit is the live rows, the queue and its addresses are the loads and stores among them, and the front is the waiting
-- rows. The queue knows what is known of stores before cycle n.
pub record RowsStand (g : Given) (n : ℕ) (parts : Parts) (rows : List Row) : Type 0 where
  pub unit : AllZip (Lives g) parts.unit.rows (pick live rows)
  pub queue : AllZip (Holds (setting_of g) n) parts.queue.entries (pick (in_queue (setting_of g)) rows)
  pub addresses : AllZip (HasAddress (setting_of g)) parts.addresses.rows (pick (in_queue (setting_of g)) rows)
  pub front : AllZip (Waits g) parts.front.rows (pick waiting rows)

-- where numbers and fetching go on
pub record GoesOn (g : Given) (parts : Parts) (t : Table) : Type 0 where
  pub row : parts.front.row ≡ length t.rows
  pub pc : parts.front.pc ≡ t.next_fetch.pc
  pub earliest : parts.front.earliest ≡ t.next_fetch.earliest
  pub last : parts.unit.last ≡ newest_number (λ r. is_some r.dispatched) t.rows
  pub last_memory : parts.queue.last ≡ newest_number (λ r. is_some r.dispatched && uses_memory (execution (setting_of g) r).memory) t.rows

-- ---- functional units

abbrev pub pool_of : Pool → units.Pool
pool_of Alus = pool.Alu
pool_of Multipliers = pool.Mult
pool_of Ports = pool.Port

-- at each cycle from c on as many units are busy as the rows hold
abbrev pub PoolsStand : Setting → ℕ → Units → List Row → Type 0
PoolsStand set c v rows = (p : Pool) (x : ℕ) → c ≤ x → busy x (units_of v (pool_of p)) ≡ count_by (holds set p x) rows

-- ---- states

-- the next row to be dispatched, as it was to be fetched: the oldest that waits, or else the next that is fetched
abbrev pub next_of : List Row → NextFetch → NextFetch
next_of [] next = next
next_of (r ∷ older) next = next_of older (if waiting r then as_next r else next)

-- the state after a row, or that of the start
abbrev pub state_after : Setting → Option Row → State
state_after set None = set.start
state_after set (Some r) = (execution set r).after

-- the state after the last dispatched right row
abbrev pub settled : Setting → List Row → State
settled set rows = state_after set (find (λ r. r.fetched.right && is_some r.dispatched) rows)

-- the state under the overlay
abbrev pub acting : Parts → State
acting parts = record (state_of parts.arch) { reads = seen (reader_of parts.arch) parts.overlay }

-- The state is that after the last dispatched right row, and under the overlay it is the one on which the next row acts. No
-- more effects were applied than wrong rows are live, and none where the next row is right.
pub record Acts (g : Given) (parts : Parts) (t : Table) : Type 0 where
  pub wrong : parts.wrong ≡ not (next_of t.rows t.next_fetch).right
  pub base : state_of parts.arch ≡ settled (setting_of g) t.rows
  pub view : acting parts ≡ (next_of t.rows t.next_fetch).state
  pub applied : parts.overlay.applied ≤ count_by (λ r. live r && not r.fetched.right) t.rows
  pub clean : parts.wrong ≡ false → overlay.StandsFor parts.overlay []

-- ---- histories

-- the predictor's events so far: before the recovery of cycle c only its updates have come
abbrev pub events_by : Setting → ℕ → Bool → Table → List Event
events_by set c false t = updates_of set c t.rows t.predictor_events
events_by set c true t = predictor_events_of set c t.rows t.predictor_events

pub record HistoriesStand (g : Given) (c : ℕ) (recovered : Bool) (parts : Parts) (t : Table) : Type 0 where
  pub hierarchy : hierarchy.StandsFor parts.hier g.hier (references_of (setting_of g) c t.rows t.references)
  pub predictor : predictor.StandsFor parts.predictor g.pred (events_by (setting_of g) c recovered t)

-- ---- the whole

-- what is fixed for a run
pub record IsOf (g : Given) (parts : Parts) : Type 0 where
  pub config : parts.config ≡ g.config
  pub text : parts.arch.text ≡ g.start.text

-- Within cycle c the parts stand for the table, where the queue knows of stores what is known before cycle n, and the
-- predictor's recovery of the cycle has come or not.
pub record StandsBy (g : Given) (c n : ℕ) (recovered : Bool) (parts : Parts) (t : Table) : Type 0 where
  pub run : IsOf g parts
  pub rows : RowsStand g n parts t.rows
  pub next : GoesOn g parts t
  pub pools : PoolsStand (setting_of g) c parts.pools t.rows
  pub states : Acts g parts t
  pub histories : HistoriesStand g c recovered parts t

-- the cycle before which the queue knows of stores: the recovery stage of c brings it up to c
abbrev pub known_before : ℕ → Bool → ℕ
known_before c false = c
known_before c true = suc c

-- before or after the recovery stage of cycle c
abbrev pub Stands : Given → ℕ → Bool → Parts → Table → Type 0
Stands g c recovered parts t = StandsBy g c (known_before c recovered) recovered parts t
