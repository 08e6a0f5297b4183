-- What the program keeps of a row of the table: all but the state on which the row acts, of which it keeps what the row's
-- instruction does there.
use Rattle.std.specs.Prelude.{◌≡◌, ℕ, ◌+◌, ◌/◌, ◌==◌, Bool, not, ◌&&◌, ◌||◌, List, ◌∷◌, length, Option, take, drop, map, if◌then◌else◌, is_some, is_none, option_map}
use Rattle.ooo_table.specs.declared.config.OooConfig.{OooConfig}
use Rattle.ooo_table.specs.Row as table
use Rattle.ooo_table.specs.Row.{accessed, returned, not_forwarded, sweep}
use Rattle.ooo_table.specs.Execution.{address, unit_latency}
use Rattle.ooo_table.specs.Table.{Setting}
use Rattle.ooo_table.specs.Path.{execution, loads, stores, mispredicted, is_exit}
use Rattle.ooo_plain.specs.declared.row.Row.{Row}

-- the cycle at which its main operation writes back
abbrev pub written_of : Row → Option ℕ
written_of r = option_map (λ i. i + unit_latency r.unit) r.issued

abbrev pub is_live : Row → Bool
is_live r = is_some r.dispatched && is_none r.committed && is_none r.squashed

abbrev pub is_waiting : Row → Bool
is_waiting r = is_none r.dispatched && is_none r.squashed

-- both ask memory for addresses in one aligned block of 8 bytes
abbrev pub same_block_of : Row → Row → Bool
same_block_of a b = (a.load || a.store) && (b.load || b.store) && ((a.address / 8) == (b.address / 8))

-- What follows an instruction, and whether it stops or exits, is kept where it is asked for: of right rows, and of branches and
-- jumps.
abbrev pub kept : Setting → table.Row → Row
kept set r =
    record {
      pc = r.fetched.pc;
      predicted = r.fetched.predicted;
      top = r.fetched.top;
      right = r.fetched.right;
      at = r.fetched.at;
      queued = r.fetched.queued;
      instr = set.instruction r.fetched.pc;
      stops = r.fetched.right && (execution set r).stops;
      mispredicted = mispredicted set r;
      exit = is_exit set r;
      control = (execution set r).control;
      taken = (execution set r).taken;
      call = (execution set r).call;
      next = if r.fetched.right || (execution set r).control then (execution set r).next else 0;
      unit = (execution set r).unit;
      load = loads set r;
      store = stores set r;
      address = address (execution set r).memory;
      main = (execution set r).main;
      second = (execution set r).second;
      writes = (execution set r).writes;
      dispatched = r.dispatched;
      issued = r.issued;
      accessed = accessed r;
      returned = returned r;
      forwarded = not (not_forwarded r.access);
      committed = r.committed;
      squashed = r.squashed;
    }

-- the program's rows are these, the newest first
abbrev pub AreKept : Setting → List Row → List table.Row → Type 0
AreKept set rows olds = rows ≡ map (kept set) olds

-- ---- turns

-- The row at a place had its turn, behind the rows before it; the rows behind it are as they were.
pub record Turned (set : Setting) (f : List table.Row → table.Row → table.Row) (at : ℕ) (old new : List Row) : Type 0 where
  pub turn : (olds : List table.Row) (r : table.Row) → AreKept set (drop at old) (r ∷ olds) → AreKept set (drop at new) (f olds r ∷ olds)
  pub younger : take at new ≡ take at old
  pub many : length new ≡ length old

-- The rows from a place on had their turns, from the oldest on.
pub record Swept (set : Setting) (f : List table.Row → table.Row → table.Row) (at : ℕ) (old new : List Row) : Type 0 where
  pub sweep : (olds : List table.Row) → AreKept set (drop at old) olds → AreKept set (drop at new) (sweep f olds)
  pub younger : take at new ≡ take at old
  pub many : length new ≡ length old
