-- The issue stage: main operations and the accesses of loads, the oldest row first.
use Rattle.std.specs.Prelude.{ℕ, suc, ◌+◌, Bool, true, false, not, List, Option, Some, None, nat_lt, nat_le, ◌&&◌, ◌||◌, if◌then◌else◌, count_by, is_none}
use Rattle.std.specs.List.{list_all, list_any}
use Rattle.pisa_isa.specs.declared.classes.UnitClass.{UnitClass}
use Rattle.pisa_isa.specs.declared.classes.UnitClass.TheVariants.{Free, Alu, Multiply, Divide}
use Rattle.mem_hier.specs.Replay.{Reference, Load}
use Rattle.ooo_table.specs.Row.{Row, MemoryAccess, is_at, is_before, accessed, every, sweep}
use Rattle.ooo_table.specs.Execution.{address, same_block, unit_hold, Pool, Alus, Multipliers, Ports, is_of, pool_size}
use Rattle.ooo_table.specs.Table.{Setting, Table}
use Rattle.ooo_table.specs.Path.{execution, loads, stores}
use Rattle.ooo_table.specs.Done.{live, written, have_produced, done_before}
use Rattle.ooo_table.specs.References.{store_references, load_references}

-- c is one of the n cycles from a mark on
abbrev pub spans : ℕ → ℕ → Option ℕ → Bool
spans c n None = false
spans c n (Some t) = nat_le t c && nat_lt c (t + n)

module _ (set : Setting) where
  -- ---- units and width

  -- the row holds a unit of the pool at c, squashed or not: by its main operation, by its access, or as a store that commits
  abbrev pub holds : Pool → ℕ → Row → Bool
  holds Ports c r = (loads set r && spans c 1 (accessed r)) || (stores set r && is_at c r.committed)
  holds p c r = is_of p (execution set r).unit && spans c (unit_hold (execution set r).unit) r.issued

  -- the row took a unit of the pool by an issue at c
  abbrev pub takes : Pool → ℕ → Row → Bool
  takes Ports c r = loads set r && is_at c (accessed r)
  takes p c r = is_of p (execution set r).unit && is_at c r.issued

  -- a unit of the pool is left, of which some were held as the stage began, and the rows before took some since
  abbrev pub has_unit : ℕ → List Row → List Row → Pool → Bool
  has_unit c start older p =
      nat_lt (count_by (holds p c) start + count_by (takes p c) older) (pool_size set.config p)

  abbrev pub has_unit_for : ℕ → List Row → List Row → UnitClass → Bool
  has_unit_for c start older Free = true
  has_unit_for c start older Alu = has_unit c start older Alus
  has_unit_for c start older Multiply = has_unit c start older Multipliers
  has_unit_for c start older Divide = has_unit c start older Multipliers

  -- an operation of the row issued at c
  abbrev pub issues_at : ℕ → Row → Bool
  issues_at c r = is_at c r.issued || is_at c (accessed r)

  abbrev pub has_width : ℕ → List Row → Bool
  has_width c older = nat_lt (count_by (issues_at c) older) set.config.issue

  -- ---- main operations

  -- a wrong row issues only where the configuration has it so, and where issue is in order every older live row has issued
  abbrev pub may_issue : ℕ → List Row → Row → Bool
  may_issue c older r =
      (r.fetched.right || set.config.wrong_issue)
      && (not set.config.in_order || list_all (λ o. not (live o) || is_before (suc c) o.issued) older)

  -- the main operation issues at c: the row was dispatched before, hasn't issued, isn't squashed, what it reads is done
  -- by c, and width and a unit are left
  abbrev pub issues : ℕ → List Row → List Row → Row → Bool
  issues c start older r =
      is_before c r.dispatched && is_none r.issued && is_none r.squashed && may_issue c older r
      && have_produced set (suc c) older r (execution set r).main && has_width c older && has_unit_for c start older (execution set r).unit

  -- ---- accesses of loads

  -- of the older live stores every address is known by c, and each one of the row's block is done by c
  abbrev pub is_clear : ℕ → List Row → Row → Bool
  is_clear c older r =
      every
      (λ before o. not (live o && stores set o) || (is_before (suc c) (written set o) && (not (same_block (execution set o).memory (execution set r).memory) || done_before set (suc c) before o)))
      older

  -- an older live store has the row's block
  abbrev pub is_forwarded : List Row → Row → Bool
  is_forwarded older r = list_any (λ o. live o && stores set o && same_block (execution set o).memory (execution set r).memory) older

  -- the access issues at c: the row is a load that isn't squashed, has no access, was written back by c, what it reads
  -- besides is done by c, no older store forbids it, and width and a port are left
  abbrev pub accesses : ℕ → List Row → List Row → Row → Bool
  accesses c start older r =
      loads set r && is_none r.access && is_none r.squashed && is_before (suc c) (written set r)
      && have_produced set (suc c) older r (execution set r).second && is_clear c older r && has_width c older && has_unit c start older Ports

  -- A forwarded load is back in the next cycle. Any other takes the latency of its reference, which comes after those
  -- of the stores that committed in this cycle and of the loads of the rows before.
  abbrev pub access_of : ℕ → List Reference → List Row → Row → MemoryAccess
  access_of c base older r =
      record {
        at = c;
        forwarded = is_forwarded older r;
        back = c + (if is_forwarded older r then 1 else set.latency (Load (address (execution set r).memory) c) (load_references set c older base));
      }

  -- ---- the stage

  abbrev pub issue_row : ℕ → List Reference → List Row → List Row → Row → Row
  issue_row c base start older r =
      if issues c start older r then record r { issued = Some c }
      else (if accesses c start older r
      then record r { access = Some (access_of c base older r) } else r)

  abbrev pub issue : ℕ → Table → Table
  issue c t = record t { rows = sweep (issue_row c (store_references set c t.rows t.references) t.rows) t.rows }
