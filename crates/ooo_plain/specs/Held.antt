-- The units that are held as the issue stage begins.
use Rattle.std.specs.Prelude.{◌≡◌, ℕ, List, count_by}
use Rattle.ooo_table.specs.Row as table
use Rattle.ooo_table.specs.Execution as units
use Rattle.ooo_table.specs.Table.{Setting}
use Rattle.ooo_table.specs.Issue.{holds}
use Rattle.ooo_plain.specs.declared.issue.Pool.{Pool}
use Rattle.ooo_plain.specs.declared.issue.Pool.TheVariants as pool
use Rattle.ooo_plain.specs.declared.issue.Held.{Held}

abbrev pub pool_of : Pool → units.Pool
pool_of pool.Alus = units.Alus
pool_of pool.Multipliers = units.Multipliers
pool_of pool.Ports = units.Ports

-- so many units of each kind are held by these rows
pub record AreHeld (set : Setting) (c : ℕ) (start : List table.Row) (h : Held) : Type 0 where
  pub alus : h.alus ≡ count_by (holds set units.Alus c) start
  pub multipliers : h.multipliers ≡ count_by (holds set units.Multipliers c) start
  pub ports : h.ports ≡ count_by (holds set units.Ports c) start
