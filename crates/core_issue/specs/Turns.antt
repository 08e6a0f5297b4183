-- The issue stage over the live rows of the unit: the turns of the rows, the oldest first.
use Rattle.std.specs.Prelude.{◌≡◌, ℕ, ◌+◌, ◌^◌, ◌<◌, Bool, true, false, not, List, ◌∷◌, max, min, Option, Some, None, Result, Ok, Err, option_map, nat_lt, nat_le, IsTrue, ◌==◌, ◌&&◌, ◌||◌}
use Rattle.pisa_isa.specs.declared.classes.UnitClass.{UnitClass}
use Rattle.pisa_isa.specs.declared.classes.UnitClass.TheVariants as class
use Rattle.mem_hier.specs.declared.config.HierConfig.{HierConfig}
use Rattle.mem_hier.specs.Replay.{Reference, Load, latency_of}
use Rattle.mem_hier.specs.Stands as hierarchy
use Rattle.fu_pool.specs.declared.pools.Pool.{Pool}
use Rattle.fu_pool.specs.declared.pools.Pool.TheVariants as pool
use Rattle.fu_pool.specs.Takes.{Units, units_of, units_in, busy, HoldsMore}
use Rattle.lsq_core.specs.Queue.{load_answer, holds_load}
use Rattle.ruu_core.specs.declared.station.Station.{Station}
use Rattle.ruu_core.specs.Window.{Row, is_ready, may_access, is_unissued, least, next, passes, is_live, row_of, at_row, issuing, accessing}
use Rattle.ooo_table.specs.declared.config.OooConfig.{OooConfig}
use Rattle.ooo_table.specs.Execution.{unit_latency, unit_hold}
use Rattle.core_parts.specs.Addresses.{address_of}
use Rattle.core_parts.specs.declared.answers.Issued.{Issued}
use Rattle.core_parts.specs.declared.answers.Issued.TheVariants as issued
use Rattle.core_parts.specs.declared.parts.Parts.{Parts}
use Rattle.core_parts.specs.Rows.{unit_class}
use Rattle.core_parts.specs.Fits.{IsInTime}
use Rattle.core_issue.specs.declared.turns.Turn.{Turn}

-- ---- units

-- the pool of which a main operation takes a unit, if it takes any
abbrev pub pool_for : UnitClass → Option Pool
pool_for class.Free = None
pool_for class.Alu = Some pool.Alu
pool_for class.Multiply = Some pool.Mult
pool_for class.Divide = Some pool.Mult

-- a unit of the pool is left at the cycle
abbrev pub has_free : ℕ → Units → Pool → Bool
has_free c v p = nat_lt (busy c (units_of v p)) (units_in v p)

abbrev pub has_unit : ℕ → Units → Option Pool → Bool
has_unit c v None = true
has_unit c v (Some p) = has_free c v p

-- a unit of the pool was taken at the cycle, to be held for so long
pub record Takes (p : Pool) (c hold : ℕ) (old new : Units) : Type 0 where
  pub more : HoldsMore p c hold old new
  pub sizes : (q : Pool) → units_in new q ≡ units_in old q
  pub last : new.last ≡ c

abbrev pub TakesUnit : Option Pool → ℕ → ℕ → Units → Units → Type 0
TakesUnit None c hold old new = new ≡ old
TakesUnit (Some p) c hold old new = Takes p c hold old new

-- ---- tests

abbrev pub is_ok : Result Bool ℕ → Bool
is_ok (Ok b) = true
is_ok (Err row) = false

abbrev pub is_forwarded : Result Bool ℕ → Bool
is_forwarded (Ok b) = b
is_forwarded (Err row) = false

-- a wrong row may issue where the configuration has it so
abbrev pub may_go : OooConfig → Station → Bool
may_go k s = not s.wrong || k.wrong_issue

-- the number isn't above this one, where there is one
abbrev pub reaches : Option ℕ → ℕ → Bool
reaches None row = true
reaches (Some first) row = nat_le row first

-- ---- whose turn is next

-- the lesser of two rows, where there is one
abbrev pub sooner : Option ℕ → Option ℕ → Option ℕ
sooner None b = b
sooner (Some a) None = Some a
sooner (Some a) (Some b) = Some (min a b)

abbrev pub is_that : ℕ → Option ℕ → Bool
is_that row None = false
is_that row (Some found) = found == row

abbrev pub turn_for : Option ℕ → Option ℕ → Option ℕ → Option Turn
turn_for ready access None = None
turn_for ready access (Some row) = Some (record { row = row; main = is_that row ready; access = is_that row access })

-- the least row above a number whose main operation is ready, or whose access is
abbrev pub next_turn : ℕ → Option ℕ → List Row → Option Turn
next_turn c after rows =
    turn_for (next (is_ready c) after rows) (next (may_access c) after rows) (sooner (next (is_ready c) after rows) (next (may_access c) after rows))

-- ---- a turn by the number of its row

-- what a turn needs
pub record MayTurn (c : ℕ) (t : Turn) (parts : Parts) : Type 0 where
  pub time : IsInTime c parts
  pub references : hierarchy.references_of parts.hier < 2 ^ 60
  pub live : IsTrue (is_live t.row parts.unit.rows)
  pub main : t.main ≡ true → IsTrue (passes (is_ready c) t.row parts.unit.rows)
  pub access : t.access ≡ true → IsTrue (passes (may_access c) t.row parts.unit.rows)
  pub held : t.access ≡ true → IsTrue (holds_load t.row parts.queue.entries)

-- the main operation issues, the n-th of the cycle, as far as the rules on order and paths, width and units say
abbrev pub main_allowed : ℕ → ℕ → Parts → ℕ → Station → Bool
main_allowed c n parts row s =
    may_go parts.config s && (not parts.config.in_order || reaches (least is_unissued parts.unit.rows) row)
    && nat_lt n parts.config.issue && has_unit c parts.pools (pool_for (unit_class s))

-- and so the access, as far as older stores, width and ports say
abbrev pub access_allowed : ℕ → ℕ → Parts → ℕ → Bool
access_allowed c n parts row =
    is_ok (load_answer c row parts.queue.entries) && nat_lt n parts.config.issue && has_free c parts.pools pool.Port

-- a forwarded load is back in the next cycle, any other after the latency of its reference, which is a cycle at least
abbrev pub Returns : Bool → ℕ → ℕ → ℕ → hierarchy.Held → hierarchy.Held → Type 0
Returns true c addr back old new = (back ≡ c + 1) × (new ≡ old)
Returns false c addr back old new =
    ((k : HierConfig) (h : List Reference) → hierarchy.StandsFor old k h
    → (back ≡ c + max (latency_of k h (Load addr c)) 1) × hierarchy.StandsFor new k (Load addr c ∷ h))
    × (c < back) × hierarchy.Referred old new c

-- the main operation issued
pub record MainIssued (c row : ℕ) (s : Station) (old new : Parts) : Type 0 where
  pub parts : new ≡ record old { unit = at_row row (issuing c (c + unit_latency (unit_class s))) old.unit; pools = new.pools }
  pub pools : TakesUnit (pool_for (unit_class s)) c (unit_hold (unit_class s)) old.pools new.pools

-- the access issued, and the load is back at that cycle
pub record AccessIssued (c row : ℕ) (forwarded : Bool) (back : ℕ) (old new : Parts) : Type 0 where
  pub parts : new ≡ record old { unit = at_row row (accessing c back) old.unit; pools = new.pools; hier = new.hier }
  pub pools : Takes pool.Port c 1 old.pools new.pools
  pub returns : Returns forwarded c (address_of row old.addresses.rows) back old.hier new.hier

abbrev pub TurnBy : Bool → Bool → ℕ → ℕ → Station → Parts → Parts → Option Issued → Type 0
TurnBy true d c row s old new answer = (answer ≡ Some (issued.Main row)) × MainIssued c row s old new
TurnBy false true c row s old new answer =
    (answer ≡ Some (issued.Access row (is_forwarded (load_answer c row old.queue.entries))))
    × ((back : ℕ) × AccessIssued c row (is_forwarded (load_answer c row old.queue.entries)) back old new)
TurnBy false false c row s old new answer = (answer ≡ None) × (new ≡ old)

-- the turn of the row, after n operations issued in the cycle
abbrev pub TurnOf : ℕ → ℕ → Turn → Parts → Parts → Option Issued → Type 0
TurnOf c n t old new answer =
    (s : Station) → option_map (λ r. r.station) (row_of t.row old.unit.rows) ≡ Some s
    → TurnBy (t.main && main_allowed c n old t.row s) (t.access && access_allowed c n old t.row) c t.row s old new answer
