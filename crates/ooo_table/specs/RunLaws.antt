-- The table and the functional run: what right rows do, and that both end alike.
use Rattle.std.specs.Prelude.{◌≡◌, ℕ, ◌<◌, ◌≤◌, List, [], ◌∷◌, ◌++◌, if◌then◌else◌, count_by, is_some}
use Rattle.pisa_step.specs.declared.cause.Cause.{Cause}
use Rattle.sim_safe.specs.declared.observer.RunEnd.TheVariants as ends
use Rattle.sim_safe.specs.Record.{Item, item_of}
use Rattle.sim_safe.specs.Run.{items_of, after, end_of}
use Rattle.sim_safe.specs.Step.{Outcome, Next, Halt, step_of}
use Rattle.ooo_table.specs.Row.{Row}
use Rattle.ooo_table.specs.Machine.{Given, setting_of}
use Rattle.ooo_table.specs.Events.{committed_state}

abbrev pub right_rows : List Row → ℕ
right_rows rows = count_by (λ r. r.fetched.right) rows

abbrev pub commits_among : List Row → ℕ
commits_among rows = count_by (λ r. is_some r.committed) rows

module _ (g : Given) where
  -- the row acts on the state behind as many steps as there are right rows before it, and stands at the address of that state
  pub record IsStep (older : List Row) (r : Row) : Type 0 where
    pub state : r.fetched.state ≡ after g.trace (right_rows older) g.start
    pub pc : r.fetched.pc ≡ r.fetched.state.pc

  -- what the functional machine records of a row
  abbrev pub recorded_by : Outcome → List Item
  recorded_by (Next did t) = item_of g.trace did ∷ []
  recorded_by (Halt why) = []

  -- of the rows that have committed, in row order
  abbrev pub committed_items : List Row → List Item
  committed_items [] = []
  committed_items (r ∷ older) = committed_items older ++ (if is_some r.committed then recorded_by (step_of g.trace r.fetched.state) else [])

  -- the commits are the first steps of the functional run, each once and in order
  pub record IsRun (rows : List Row) : Type 0 where
    pub items : committed_items rows ≡ items_of g.trace (commits_among rows) g.start
    pub state : committed_state (setting_of g) rows ≡ after g.trace (commits_among rows) g.start

  -- with these commits the functional run is over, whatever its budget, and it ends for this cause
  pub record IsWhole (rows : List Row) (why : Cause) : Type 0 where
    pub items : (n : ℕ) → commits_among rows ≤ n → items_of g.trace n g.start ≡ committed_items rows
    pub state : (n : ℕ) → commits_among rows ≤ n → after g.trace n g.start ≡ committed_state (setting_of g) rows
    pub ending : (n : ℕ) → commits_among rows < n → end_of g.trace n g.start ≡ ends.Stop why
