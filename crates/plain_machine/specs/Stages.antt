-- What the stages before the fetches leave.
use Rattle.std.specs.Prelude.{◌≡◌, ℕ, Bool, true, false, List, ◌∷◌, ◌++◌, Option, Some, None, find}
use Rattle.bpred_unit.specs.declared.config.PredConfig.{PredConfig}
use Rattle.bpred_unit.specs.Stands as prediction
use Rattle.bpred_unit.specs.Stands.{cells_of}
use Rattle.mem_hier.specs.Replay.{Reference}
use Rattle.bpred_unit.specs.History.{Event, Recover}
use Rattle.ooo_table.specs.Row as table
use Rattle.ooo_table.specs.Row.{sweep}
use Rattle.ooo_table.specs.Table.{NextFetch, Table}
use Rattle.ooo_table.specs.Path.{redirected}
use Rattle.ooo_table.specs.Commit.{commit_row}
use Rattle.ooo_table.specs.Recovery.{recovers, squash_row}
use Rattle.ooo_table.specs.References.{store_references, load_references, updates_of}
use Rattle.ooo_table.specs.Issue.{issue}
use Rattle.ooo_table.specs.Dispatch.{dispatch_row}
use Rattle.ooo_table.specs.Ends.{last_commit}
use Rattle.ooo_table.specs.Machine.{Given, setting_of}
use Rattle.ooo_plain.specs.Until.{committing}
use Rattle.ooo_plain.specs.IssueStage.{NoAccess}
use Rattle.plain_machine.specs.declared.machine.Plain.{Plain}
use Rattle.plain_machine.specs.Standing.{Stands, RecoversOnce, recoveries}

module _ (g : Given) (c : ℕ) where
  -- the rows after the commits, up to the one that ends the run
  abbrev pub committed_rows : Option ℕ → List table.Row → List table.Row
  committed_rows answer rows = sweep (committing (setting_of g) c answer) rows

  -- the answer is the last commit of the run, and hierarchy and predictor were told of the commits
  pub record CommitsSo (most : ℕ) (rows : List table.Row) (next : NextFetch) (h : List Reference) (e : List Event) (new : Plain) (answer : Option ℕ) : Type 0 where
    pub last : answer ≡ last_commit (setting_of g) most c (sweep (commit_row (setting_of g) c) rows)
    pub stands : Stands g (committed_rows answer rows) next (store_references (setting_of g) c (committed_rows answer rows) h) (updates_of (setting_of g) c (committed_rows answer rows) e) new

  abbrev pub RecoversSo : List table.Row → NextFetch → List Reference → List Event → Plain → Type 0
  RecoversSo rows next h e new =
      RecoversOnce (setting_of g) c rows (find (recovers (setting_of g) c) rows)
      → Stands g (sweep (squash_row (setting_of g) c) rows) (redirected (setting_of g) c (find (recovers (setting_of g) c) rows) next) h (recoveries (setting_of g) c rows ++ e) new

  abbrev pub issued_rows : Table → List table.Row
  issued_rows t = (issue (setting_of g) c t).rows

  abbrev pub IssuesSo : Table → List Event → Plain → Plain → Type 0
  IssuesSo t e old new =
      NoAccess c t.rows → Stands g t.rows t.next_fetch (store_references (setting_of g) c t.rows t.references) e old
      → Stands g (issued_rows t) t.next_fetch (load_references (setting_of g) c (issued_rows t) (store_references (setting_of g) c t.rows t.references)) e new

  abbrev pub dispatched_rows : List table.Row → List table.Row
  dispatched_rows rows = sweep (dispatch_row (setting_of g) c) rows

-- the history with the recovery to a top, if there is one
abbrev pub recovered_to : Option ℕ → List Event → List Event
recovered_to None h = h
recovered_to (Some top) h = Recover top ∷ h

-- the predictor recovered to the top of the newest right row, and nothing is left of what wrong rows did
pub record RollsBack (old new : Plain) : Type 0 where
  pub rest : new ≡ record old { predictor = new.predictor; copy = None }
  pub predictions : (c : PredConfig) (h : List Event) → prediction.StandsFor old.predictor c h → prediction.StandsFor new.predictor c (recovered_to old.top h)
  pub cells : cells_of new.predictor ≡ cells_of old.predictor

abbrev pub RollsBackIf : Bool → Plain → Plain → Type 0
RollsBackIf true old new = RollsBack old new
RollsBackIf false old new = new ≡ old
