-- What each stage of a cycle owes: it takes parts that stand for the table to parts that stand for the table behind the
-- stage, whatever the run.
use Rattle.std.specs.Prelude.{◌≡◌, ℕ, suc, Bool, true, false, List, [], ◌∷◌, ◌++◌, length, reverse, Option, Some, None, count_by, ◌==◌, ◌&&◌, ◌||◌, if◌then◌else◌}
use Rattle.std.specs.List.{AllZip, list_any}
use Rattle.event_trace.specs.declared.trace.Trace.{Trace}
use Rattle.sim_safe.specs.State.{state_of}
use Rattle.sim_safe.specs.Step.{Halt, step_of}
use Rattle.ruu_core.specs.declared.station.Station.{Station}
use Rattle.ooo_front.specs.declared.row.FetchRow.{FetchRow}
use Rattle.ooo_table.specs.Row.{Row, is_at, accessed, not_forwarded, sweep}
use Rattle.ooo_table.specs.Table.{Table}
use Rattle.ooo_table.specs.Path.{execution}
use Rattle.ooo_table.specs.Done.{live, waiting}
use Rattle.ooo_table.specs.Commit.{commits, commit_row}
use Rattle.ooo_table.specs.Recovery.{recovers}
use Rattle.ooo_table.specs.Dispatch.{dispatches, dispatch_row}
use Rattle.ooo_table.specs.Cycle.{table, after_commit, after_recover, after_issue, after_dispatch}
use Rattle.ooo_table.specs.Ends.{stops_in}
use Rattle.ooo_table.specs.Machine.{Given, setting_of}
use Rattle.ooo_table.specs.MachineLaws.{IsSound}
use Rattle.core_parts.specs.declared.answers.Dispatched.{Dispatched}
use Rattle.core_parts.specs.declared.answers.Dispatched.TheVariants as turn
use Rattle.core_parts.specs.declared.answers.Issued.{Issued}
use Rattle.core_parts.specs.declared.answers.Issued.TheVariants as issued
use Rattle.core_parts.specs.declared.parts.Parts.{Parts}
use Rattle.core_parts.specs.Rows.{pick, newest_number, Describes, Waits}
use Rattle.core_parts.specs.Stands.{Stands}

-- ---- commit

module _ (g : Given) (c : ℕ) where
  -- the table of the cycle after the turns of the older rows
  abbrev pub committed_up_to : List Row → List Row → Table
  committed_up_to younger older = record (table (setting_of g) c) { rows = younger ++ sweep (commit_row (setting_of g) c) older }

  -- Within the commit stage the older rows had their turns, in which so many rows committed. None of them is live any more: the
  -- next turn is that of the oldest live row.
  pub record Committing (n : ℕ) (younger older : List Row) (parts : Parts) : Type 0 where
    pub rows : (table (setting_of g) c).rows ≡ younger ++ older
    pub stands : Stands g c false parts (committed_up_to younger older)
    pub count : count_by (λ o. is_at c o.committed) (sweep (commit_row (setting_of g) c) older) ≡ n
    pub passed : pick live (sweep (commit_row (setting_of g) c) older) ≡ []

  -- the row r commits, behind these rows as they were before the stage, and the station is of it
  pub record CommitsAs (s : Station) (r : Row) (older : List Row) : Type 0 where
    pub commits : commits (setting_of g) c (sweep (commit_row (setting_of g) c) older) r ≡ true
    pub number : s.row ≡ length older
    pub is : Describes g s r.fetched

  -- a turn: the oldest row of the unit commits, and it is the next row of the table that does; or no row commits any more
  abbrev pub CommitTurn : ℕ → Parts → Parts → Option Station → Type 0
  CommitTurn n old new None =
      (younger older : List Row) → Committing n younger older old → Stands g c false new (after_commit (setting_of g) c)
  CommitTurn n old new (Some s) =
      (younger older : List Row) → Committing n younger older old
      → (left : List Row) × (r : Row) × (passed : List Row) × (younger ≡ left ++ (r ∷ passed))
      × CommitsAs s r (passed ++ older) × Committing (suc n) left (r ∷ (passed ++ older)) new

-- of the commits so far in the cycle, which have their turns in every run
abbrev pub CommitsOne : ℕ → ℕ → Parts → Parts → Option Station → Type 0
CommitsOne c n old new answer = (g : Given) → IsSound g → CommitTurn g c n old new answer

-- ---- recovery

-- the row that recovers in the cycle, by its number, if there is one
abbrev pub RecoversAt : ℕ → Parts → Option ℕ → Type 0
RecoversAt c parts answer =
    (g : Given) → IsSound g → Stands g c false parts (after_commit (setting_of g) c)
    → answer ≡ newest_number (recovers (setting_of g) c) (after_commit (setting_of g) c).rows

-- write-backs are noted and the recovery of the cycle is done, if there is one
abbrev pub Recovers : ℕ → Parts → Parts → Type 0
Recovers c old new =
    (g : Given) → IsSound g → Stands g c false old (after_commit (setting_of g) c)
    → Stands g c true new (after_recover (setting_of g) c)

-- ---- issue

-- what issued of each row at the cycle, the oldest row first
abbrev pub issued_of : ℕ → ℕ → Row → List Issued
issued_of c n r =
    (if is_at c r.issued then issued.Main n ∷ [] else [])
    ++ (if is_at c (accessed r) then issued.Access n (if not_forwarded r.access then false else true) ∷ [] else [])

abbrev pub issued_in : ℕ → List Row → List Issued
issued_in c [] = []
issued_in c (r ∷ older) = issued_in c older ++ issued_of c (length older) r

pub record IssuesSo (g : Given) (c : ℕ) (new : Parts) (answer : List Issued) : Type 0 where
  pub stands : Stands g c true new (after_issue (setting_of g) c)
  pub issued : answer ≡ issued_in c (after_issue (setting_of g) c).rows

abbrev pub Issues : ℕ → Parts → Parts → List Issued → Type 0
Issues c old new answer =
    (g : Given) → IsSound g → Stands g c true old (after_recover (setting_of g) c) → IssuesSo g c new answer

-- ---- dispatch

module _ (g : Given) (c : ℕ) where
  -- the table of the cycle after the turns of the older rows
  abbrev pub dispatched_up_to : List Row → List Row → Table
  dispatched_up_to younger older =
      record (after_issue (setting_of g) c) { rows = younger ++ sweep (dispatch_row (setting_of g) c) older }

  -- Within the dispatch stage the older rows had their turns, in which so many rows were dispatched, a call among them or none.
  -- None of them waits any more: the next turn is that of the oldest waiting row.
  pub record Dispatching (n : ℕ) (called : Bool) (younger older : List Row) (parts : Parts) : Type 0 where
    pub rows : (after_issue (setting_of g) c).rows ≡ younger ++ older
    pub stands : Stands g c true parts (dispatched_up_to younger older)
    pub count : count_by (λ o. is_at c o.dispatched) (sweep (dispatch_row (setting_of g) c) older) ≡ n
    pub call : list_any (λ o. is_at c o.dispatched && (execution (setting_of g) o).call) (sweep (dispatch_row (setting_of g) c) older) ≡ called
    pub passed : pick waiting (sweep (dispatch_row (setting_of g) c) older) ≡ []

  -- the row r with this number is dispatched, behind these rows as they were before the stage; it is a call or none
  pub record DispatchesAs (named : ℕ) (is_call : Bool) (r : Row) (older : List Row) : Type 0 where
    pub dispatches : dispatches (setting_of g) c (sweep (dispatch_row (setting_of g) c) older) r ≡ true
    pub number : named ≡ length older
    pub call : is_call ≡ (execution (setting_of g) r).call

  -- the stage is over, and the machine stops in it or doesn't
  pub record DispatchIsOver (stopped : Bool) (new : Parts) : Type 0 where
    pub stands : Stands g c true new (after_dispatch (setting_of g) c)
    pub stops : stops_in (setting_of g) c (table (setting_of g) c) ≡ stopped

  -- a turn: the oldest row of the front is dispatched, and it is the next row of the table that is; or no row is any more
  abbrev pub DispatchTurn : ℕ → Bool → Parts → Parts → Dispatched → Type 0
  DispatchTurn n called old new (turn.Row number call) =
      (younger older : List Row) → Dispatching n called younger older old
      → (left : List Row) × (r : Row) × (passed : List Row) × (younger ≡ left ++ (r ∷ passed))
      × DispatchesAs number call r (passed ++ older) × Dispatching (suc n) (called || call) left (r ∷ (passed ++ older)) new
  DispatchTurn n called old new turn.Over =
      (younger older : List Row) → Dispatching n called younger older old → DispatchIsOver false new
  DispatchTurn n called old new (turn.Stops why) =
      (younger older : List Row) → Dispatching n called younger older old
      → DispatchIsOver true new × (step_of g.trace (state_of new.arch) ≡ Halt why)
  DispatchTurn n called old new turn.OutOfMemory = Unit {0}

-- over the trace of the run
abbrev pub DispatchesOne : Trace → ℕ → ℕ → Bool → Parts → Parts → Dispatched → Type 0
DispatchesOne trace c n called old new answer =
    (g : Given) → IsSound g → g.trace ≡ trace → DispatchTurn g c n called old new answer

-- ---- fetch

-- These are the rows that were fetched at the cycle, the oldest first.
abbrev pub FetchedAt : Given → ℕ → List Row → List FetchRow → Type 0
FetchedAt g c rows answer = AllZip (Waits g) (reverse answer) (pick (λ r. r.fetched.at == c) rows)

-- and the cycle is closed: the next one begins
pub record FetchesSo (g : Given) (c : ℕ) (new : Parts) (answer : List FetchRow) : Type 0 where
  pub stands : Stands g (suc c) false new (table (setting_of g) (suc c))
  pub fetched : FetchedAt g c (table (setting_of g) (suc c)).rows answer

abbrev pub Fetches : ℕ → Parts → Parts → List FetchRow → Type 0
Fetches c old new answer =
    (g : Given) → IsSound g → Stands g c true old (after_dispatch (setting_of g) c) → FetchesSo g c new answer
