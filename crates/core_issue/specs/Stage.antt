-- The whole stage over the live rows: each row has its turn behind the rows before it, as those are by then.
use Rattle.std.specs.Prelude.{◌≡◌, ℕ, ◌+◌, Bool, true, false, not, List, [], ◌∷◌, ◌++◌, length, nat_lt, is_none, ◌&&◌, ◌||◌}
use Rattle.std.specs.List.{list_all}
use Rattle.mem_hier.specs.Stands as hierarchy
use Rattle.fu_pool.specs.declared.pools.Pool.TheVariants as pool
use Rattle.fu_pool.specs.Takes.{Units}
use Rattle.lsq_core.specs.Queue.{Entry, load_answer}
use Rattle.ruu_core.specs.Window.{Row, is_ready, may_access, issuing, accessing}
use Rattle.ooo_table.specs.declared.config.OooConfig.{OooConfig}
use Rattle.ooo_table.specs.Execution.{unit_latency, unit_hold}
use Rattle.core_parts.specs.declared.addresses.MemoryRow.{MemoryRow}
use Rattle.core_parts.specs.Addresses.{address_of}
use Rattle.core_parts.specs.declared.answers.Issued.{Issued}
use Rattle.core_parts.specs.declared.answers.Issued.TheVariants as issued
use Rattle.core_parts.specs.declared.parts.Parts.{Parts}
use Rattle.core_parts.specs.Rows.{unit_class}
use Rattle.core_issue.specs.Turns.{pool_for, has_free, has_unit, Takes, TakesUnit, is_ok, is_forwarded, may_go, Returns}

-- what turns go by and leave as it is
pub record Rules : Type 0 where
  pub config : OooConfig
  pub queue : List Entry
  pub addresses : List MemoryRow

-- what turns share
pub record Shared : Type 0 where
  pub pools : Units
  pub hier : hierarchy.Held

abbrev pub rules_of : Parts → Rules
rules_of p = record { config = p.config; queue = p.queue.entries; addresses = p.addresses.rows }

abbrev pub shared_of : Parts → Shared
shared_of p = record { pools = p.pools; hier = p.hier }

-- where issue is in order, the main operation of every older row has issued
abbrev pub is_ordered : OooConfig → List Row → Bool
is_ordered k older = not k.in_order || list_all (λ o. not (is_none o.issued)) older

-- the main operation issues, the n-th of the cycle
abbrev pub main_issues : ℕ → ℕ → Rules → Units → List Row → Row → Bool
main_issues c n k v older s =
    is_ready c older s && may_go k.config s.station && is_ordered k.config older && nat_lt n k.config.issue
    && has_unit c v (pool_for (unit_class s.station))

-- the access issues
abbrev pub access_issues : ℕ → ℕ → Rules → Units → List Row → Row → Bool
access_issues c n k v older s =
    may_access c older s && is_ok (load_answer c s.station.row k.queue) && nat_lt n k.config.issue && has_free c v pool.Port

-- an older store gives the load its value
abbrev pub forwards : ℕ → Rules → Row → Bool
forwards c k s = is_forwarded (load_answer c s.station.row k.queue)

-- what the turn of the row makes of it, what issues in it, and what it takes
abbrev pub StepBy : Bool → Bool → ℕ → Rules → Shared → Row → Row → List Issued → Shared → Type 0
StepBy true d c k a s s' made b =
    (s' ≡ issuing c (c + unit_latency (unit_class s.station)) s) × (made ≡ issued.Main s.station.row ∷ [])
    × TakesUnit (pool_for (unit_class s.station)) c (unit_hold (unit_class s.station)) a.pools b.pools × (b.hier ≡ a.hier)
StepBy false true c k a s s' made b =
    (back : ℕ) × (s' ≡ accessing c back s) × (made ≡ issued.Access s.station.row (forwards c k s) ∷ [])
    × Takes pool.Port c 1 a.pools b.pools × Returns (forwards c k s) c (address_of s.station.row k.addresses) back a.hier b.hier
StepBy false false c k a s s' made b = (s' ≡ s) × (made ≡ []) × (b ≡ a)

-- These rows are left by the turns of those, in which this issued, from what was shared at the start.
abbrev pub Ran : ℕ → Rules → Shared → List Row → List Row → List Issued → Shared → Type 0
Ran c k start [] left all a = (left ≡ []) × (all ≡ []) × (a ≡ start)
Ran c k start (s ∷ older) left all a =
    (before : List Row) × (s' : Row) × (earlier : List Issued) × (made : List Issued) × (b : Shared)
    × (left ≡ s' ∷ before) × (all ≡ earlier ++ made) × Ran c k start older before earlier b
    × StepBy (main_issues c (length earlier) k b.pools before s) (access_issues c (length earlier) k b.pools before s) c k b s s' made a

-- the rows, the pools and the hierarchy are left as the turns of all rows leave them, and all else is as it was
pub record RanAll (c : ℕ) (old new : Parts) (answer : List Issued) : Type 0 where
  pub left : List Row
  pub parts : new ≡ record old { unit = record (old.unit) { rows = left }; pools = new.pools; hier = new.hier }
  pub ran : Ran c (rules_of old) (shared_of old) old.unit.rows left answer (shared_of new)
