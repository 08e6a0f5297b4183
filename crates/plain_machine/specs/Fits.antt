-- What is always true of a machine in a cycle, whatever table it stands for: what the calls of its parts ask.
use Rattle.std.specs.Prelude.{◌≡◌, ℕ, ◌+◌, ◌*◌, ◌^◌, ◌<◌, ◌≤◌, length}
use Rattle.std.specs.Option.{ForSome}
use Rattle.paged_mem.specs.Memory.{byte_of}
use Rattle.sim_safe.specs.State.{Storage, HoldsText}
use Rattle.mem_hier.specs.Stands.{references_of, last_cycle_of}
use Rattle.bpred_unit.specs.Stands.{cells_of, IsTop}
use Rattle.ooo_table.specs.Limits.{IsAllowed}
use Rattle.plain_machine.specs.declared.machine.Plain.{Plain}

-- the text of a program stands in its memory
abbrev pub HoldsItsText : Storage → Type 0
HoldsItsText m = HoldsText (byte_of m.pages) m.text

-- a copy is of a state of the same program
pub record IsCopyOf (m copy : Storage) : Type 0 where
  pub text : copy.text ≡ m.text
  pub holds : HoldsItsText copy

-- a step leaves the text, which stands in memory, and counts one instruction at most
pub record StateKeeps (old new : Storage) : Type 0 where
  pub text : new.text ≡ old.text
  pub holds : HoldsItsText new
  pub count : new.icnt < old.icnt + 2

-- In cycle c so many references of this cycle were made and so many rows fetched. No count comes to its end: at most 32 rows are
-- fetched in a cycle, and in each at most one load and one store refer to memory for each row.
pub record Fits (c made fetched : ℕ) (p : Plain) : Type 0 where
  pub allowed : IsAllowed p.config
  pub cycle_fits : c ≤ 2 ^ 25
  pub time : last_cycle_of p.hier ≤ c
  pub references : references_of p.hier ≤ 2 ^ 59 + 2 ^ 32 * c + made
  pub number : length p.rows.items ≤ 32 * c + fetched
  pub instructions : p.arch.icnt ≤ 2 ^ 61 + length p.rows.items
  pub top_fits : ForSome p.top (IsTop (cells_of p.predictor))
  pub text : HoldsItsText p.arch
  pub copied : ForSome p.copy (IsCopyOf p.arch)
