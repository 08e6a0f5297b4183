-- When a table is a legal schedule: facts that hold of the marks, whatever sets them.
use Rattle.std.specs.Prelude.{◌≡◌, ℕ, suc, is_some, ◌==◌, ◌&&◌, ◌+◌, ◌<◌, ◌≤◌, ◌⊎◌, true, false, List, length, Some, None, count_by}
use Rattle.ooo_table.specs.Row.{Row, is_at, is_before, accessed}
use Rattle.ooo_table.specs.Execution.{MemoryUse, uses_memory, same_block, Pool, pool_size}
use Rattle.ooo_table.specs.Table.{Setting}
use Rattle.ooo_table.specs.Path.{execution, stores, mispredicted}
use Rattle.ooo_table.specs.Done.{live, waiting, unsquashed_before, written, have_produced, done_before}
use Rattle.ooo_table.specs.Issue.{holds}
use Rattle.ooo_table.specs.Ends.{Extent, Whole, AtCommit, AtStop, recovered_cycles, rows_at}
use Rattle.ooo_table.specs.Later.{Each, Where, By, Past}

-- a right row has committed by c
pub record InOrder (c : ℕ) (o : Row) : Type 0 where
  pub before : o.fetched.right ≡ true → By c o.committed

module _ (set : Setting) where
  -- ---- producers

  -- by m the row of an access was written back, and what it reads besides is done
  pub record AccessAllowed (older : List Row) (r : Row) (m : ℕ) : Type 0 where
    pub back : is_before (suc m) (written set r) ≡ true
    pub second : have_produced set (suc m) older r (execution set r).second ≡ true

  -- a main operation issues no earlier than its producers are done, and an access no earlier than the W of its row and
  -- the producers of what it reads besides
  pub record ProducersDone (older : List Row) (r : Row) : Type 0 where
    pub main : Where r.issued (λ i. have_produced set (suc i) older r (execution set r).main ≡ true)
    pub access : Where r.access (λ a. AccessAllowed older r a.at)

  -- ---- units, widths, places

  -- at c no pool has more units held, by operations and by stores that commit, than it has
  abbrev pub UnitsSuffice : List Row → ℕ → Type 0
  UnitsSuffice rows c = (p : Pool) → count_by (holds set p c) rows ≤ pool_size set.config p

  -- how much a cycle does of each
  pub record WidthsKept (rows : List Row) (c : ℕ) : Type 0 where
    pub fetches : count_by (λ r. r.fetched.at == c) rows ≤ set.config.decode
    pub dispatches : count_by (λ r. is_at c r.dispatched) rows ≤ set.config.decode
    pub issues : count_by (λ r. is_at c r.issued) rows + count_by (λ r. is_at c (accessed r)) rows ≤ set.config.issue
    pub commits : count_by (λ r. is_at c r.committed) rows ≤ set.config.commit

  -- the waiting rows, the live rows, and the live loads and stores have their places
  pub record PlacesKept (rows : List Row) : Type 0 where
    pub queue : count_by waiting rows ≤ set.config.ifq
    pub unit : count_by live rows ≤ set.config.ruu
    pub memory : count_by (λ r. live r && uses_memory (execution set r).memory) rows ≤ set.config.lsq

  -- ---- the order of commits

  -- a row that commits at c is right and was done before, and every right row before it has committed by then
  pub record CommitAllowed (older : List Row) (r : Row) (c : ℕ) : Type 0 where
    pub right : r.fetched.right ≡ true
    pub done : done_before set c older r ≡ true
    pub order : Each (λ _. InOrder c) older

  abbrev pub CommitsInOrder : List Row → Row → Type 0
  CommitsInOrder older r = Where r.committed (CommitAllowed older r)

  -- ---- the order of memory

  -- an older store lets an access come at m: its address is known by then, and it is done if it has the access's block
  pub record Allows (m : ℕ) (asked : MemoryUse) (before : List Row) (o : Row) : Type 0 where
    pub known : is_before (suc m) (written set o) ≡ true
    pub done : same_block (execution set o).memory asked ≡ true → done_before set (suc m) before o ≡ true

  -- the row is a dispatched store that isn't squashed by m
  pub record StoreStands (m : ℕ) (o : Row) : Type 0 where
    pub store : stores set o ≡ true
    pub came : is_some o.dispatched ≡ true
    pub stays : is_before (suc m) o.squashed ≡ false

  -- every such older store lets the access of a load come
  abbrev pub MemoryInOrder : List Row → Row → Type 0
  MemoryInOrder older r = Where r.access (λ a. Each (λ before o. StoreStands a.at o → Allows a.at (execution set r).memory before o) older)

  -- ---- squashes

  -- a mispredicted row o that wrote back before cycle n has squashed r at its W, if r was fetched before that
  abbrev pub Squashes : ℕ → Row → Row → Type 0
  Squashes n r o = mispredicted set o ≡ true → Where (written set o) (λ w. w < n → r.fetched.at < w → r.squashed ≡ Some w)

  -- no wrong row commits, and each mispredicted row before this one squashes it
  pub record WrongRowsSquashed (n : ℕ) (older : List Row) (r : Row) : Type 0 where
    pub commits : is_some r.committed ≡ true → r.fetched.right ≡ true
    pub squashed : Each (λ _ o. Squashes n r o) older

  -- ---- the two rules on issue

  -- Where issue is in order, the main operation issues no earlier than those of all older dispatched rows that aren't
  -- squashed by then. Where wrong rows don't issue, none has.
  pub record IssueRules (older : List Row) (r : Row) : Type 0 where
    pub in_order : set.config.in_order ≡ true
        → Where r.issued (λ i. Each (λ _ o. is_some o.dispatched ≡ true → is_before (suc i) o.squashed ≡ false → is_before (suc i) o.issued ≡ true) older)
    pub wrong : set.config.wrong_issue ≡ false → r.fetched.right ≡ false → r.issued ≡ None

-- ---- marks that have happened

-- D, I and MI of the row are before x, where they are set
pub record Before (x : ℕ) (r : Row) : Type 0 where
  pub dispatched : Where r.dispatched (λ d. d < x)
  pub issued : Where r.issued (λ i. i < x)
  pub access : Where r.access (λ a. a.at < x)

-- A squashed row gets no mark afterwards. An older row that wasn't squashed before the dispatch of this one isn't squashed
-- before the marks of this one. So no row waits for a mark that never happens.
pub record Quiet (older : List Row) (r : Row) : Type 0 where
  pub itself : Where r.squashed (λ x. Before x r)
  pub stood : is_some r.dispatched ≡ true → Each (λ _ o. unsquashed_before r.dispatched o ≡ true → Where o.squashed (λ x. Before x r)) older

-- Of whole cycles all marks have happened; at a commit only the commits up to that row, of its cycle; at a stop all but
-- fetches.
abbrev pub Happened : Extent → ℕ → List Row → Row → Type 0
Happened Whole c older r = Past c r
Happened (AtCommit row) c older r =
    Past c (record r { committed = None }) × Where r.committed (λ x. (x < c) ⊎ ((x ≡ c) × (length older ≤ row)))
Happened AtStop c older r = Past (suc c) r × (r.fetched.at < c)

-- the marks that have happened are a legal schedule
pub record Legal (set : Setting) (e : Extent) (c : ℕ) : Type 0 where
  pub producers : Each (ProducersDone set) (rows_at set e c)
  pub units : (x : ℕ) → UnitsSuffice set (rows_at set e c) x
  pub widths : (x : ℕ) → WidthsKept set (rows_at set e c) x
  pub places : PlacesKept set (rows_at set e c)
  pub commits : Each (CommitsInOrder set) (rows_at set e c)
  pub memory : Each (MemoryInOrder set) (rows_at set e c)
  pub recoveries : Each (WrongRowsSquashed set (recovered_cycles e c)) (rows_at set e c)
