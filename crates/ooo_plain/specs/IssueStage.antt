-- What the turns of the issue stage leave: the rows, and the references that the hierarchy stands for.
use Rattle.std.specs.Prelude.{◌≡◌, ℕ, false, List, ◌∷◌, length, Some, take, drop, if◌then◌else◌}
use Rattle.std.specs.List.{list_any}
use Rattle.mem_hier.specs.Replay.{Reference, Load}
use Rattle.mem_hier.specs.Stands.{Held, StandsFor}
use Rattle.ooo_table.specs.Row as table
use Rattle.ooo_table.specs.Row.{is_at, accessed, sweep}
use Rattle.ooo_table.specs.Execution.{address}
use Rattle.ooo_table.specs.Table.{Table}
use Rattle.ooo_table.specs.Path.{execution}
use Rattle.ooo_table.specs.References.{store_references, load_references}
use Rattle.ooo_table.specs.Issue.{issue, issue_row, access_of, is_forwarded}
use Rattle.ooo_table.specs.Machine.{Given, setting_of}
use Rattle.ooo_plain.specs.declared.row.Row.{Row}
use Rattle.ooo_plain.specs.Kept.{AreKept}
use Rattle.ooo_plain.specs.Asked.{referred_if}

-- no access of these rows is of the cycle
abbrev pub NoAccess : ℕ → List table.Row → Type 0
NoAccess c rows = list_any (λ r. is_at c (accessed r)) rows ≡ false

-- the access of the row at a place
pub record AccessLeft (g : Given) (c : ℕ) (base : List Reference) (at : ℕ) (old new : List Row) (after : Held) (olds : List table.Row) (r : table.Row) : Type 0 where
  pub rows : AreKept (setting_of g) (drop at new) (record r { access = Some (access_of (setting_of g) c base olds r) } ∷ olds)
  pub younger : take at new ≡ take at old
  pub many : length new ≡ length old
  pub hier : StandsFor after g.hier (referred_if (is_forwarded (setting_of g) olds r) (Load (address (execution (setting_of g) r).memory) c) (load_references (setting_of g) c olds base))

-- these rows, and the references of their accesses
pub record Left (g : Given) (c : ℕ) (base : List Reference) (news : List Row) (after : Held) (olds : List table.Row) : Type 0 where
  pub rows : AreKept (setting_of g) news olds
  pub hier : StandsFor after g.hier (load_references (setting_of g) c olds base)

pub record IssueTurned (g : Given) (c : ℕ) (base : List Reference) (start : List table.Row) (at : ℕ) (old new : List Row) (before after : Held) : Type 0 where
  pub turn : (olds : List table.Row) (r : table.Row) → AreKept (setting_of g) (drop at old) (r ∷ olds) → is_at c (accessed r) ≡ false
      → StandsFor before g.hier (load_references (setting_of g) c olds base) → Left g c base (drop at new) after (issue_row (setting_of g) c base start olds r ∷ olds)
  pub younger : take at new ≡ take at old
  pub many : length new ≡ length old

pub record IssueSwept (g : Given) (c : ℕ) (base : List Reference) (start : List table.Row) (at : ℕ) (old new : List Row) (before after : Held) : Type 0 where
  pub sweep : (olds : List table.Row) → AreKept (setting_of g) (drop at old) olds → NoAccess c olds
      → StandsFor before g.hier base → Left g c base (drop at new) after (sweep (issue_row (setting_of g) c base start) olds)
  pub younger : take at new ≡ take at old
  pub many : length new ≡ length old

-- the stage: the rows that it leaves are those of the table, and the hierarchy was told of their accesses after the stores
-- that committed in this cycle
abbrev pub Issues : Given → ℕ → Table → List Row → List Row → Held → Held → Type 0
Issues g c t old new before after =
    AreKept (setting_of g) old t.rows → NoAccess c t.rows → StandsFor before g.hier (store_references (setting_of g) c t.rows t.references)
    → Left g c (store_references (setting_of g) c t.rows t.references) new after (issue (setting_of g) c t).rows
