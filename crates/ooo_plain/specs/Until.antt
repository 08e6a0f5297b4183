-- A commit stage that ends with the run.
use Rattle.std.specs.Prelude.{◌≡◌, ℕ, List, length, Option, Some, None, take, drop}
use Rattle.ooo_table.specs.Row as table
use Rattle.ooo_table.specs.Row.{sweep}
use Rattle.ooo_table.specs.Table.{Setting}
use Rattle.ooo_table.specs.Commit.{commit_row}
use Rattle.ooo_table.specs.Ends.{commit_up_to, last_commit}
use Rattle.ooo_plain.specs.declared.row.Row.{Row}
use Rattle.ooo_plain.specs.Kept.{AreKept}

-- the turns of a stage that ends with the row of this number, or goes on to its end
abbrev pub committing : Setting → ℕ → Option ℕ → List table.Row → table.Row → table.Row
committing set c None = commit_row set c
committing set c (Some row) = commit_up_to set row c

-- these rows are what is left, and the answer is the last commit of the run among them
pub record LeftUntil (set : Setting) (c most : ℕ) (news : List Row) (answer : Option ℕ) (olds : List table.Row) : Type 0 where
  pub last : answer ≡ last_commit set most c (sweep (commit_row set c) olds)
  pub rows : AreKept set news (sweep (committing set c answer) olds)

-- The rows from a place on had their turns, from the oldest on, as far as the run goes.
pub record SweptUntil (set : Setting) (c most at : ℕ) (old new : List Row) (answer : Option ℕ) : Type 0 where
  pub sweep : (olds : List table.Row) → AreKept set (drop at old) olds → LeftUntil set c most (drop at new) answer olds
  pub younger : take at new ≡ take at old
  pub many : length new ≡ length old
