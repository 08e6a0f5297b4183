-- What rows keep from stage to stage within a cycle.
use Rattle.std.specs.Prelude.{◌≡◌, ℕ, suc, ◌*◌, ◌<◌, ◌≤◌, ◌⊎◌, not, ◌&&◌, ◌==◌, true, false, List, [], ◌∷◌, ◌++◌, length, count_by, is_some}
use Rattle.ooo_table.specs.declared.event.Mark.TheVariants as mark
use Rattle.ooo_table.specs.Row.{Row, is_before, accessed}
use Rattle.ooo_table.specs.Table.{Setting, NextFetch}
use Rattle.ooo_table.specs.Path.{execution}
use Rattle.ooo_table.specs.Done.{live, waiting, written}
use Rattle.ooo_table.specs.Recovery.{recovers}
use Rattle.ooo_table.specs.Issue.{issues_at}
use Rattle.ooo_table.specs.Cycle.{table, after_commit, after_recover, after_issue, after_dispatch}
use Rattle.ooo_table.specs.Ends.{stops_in}
use Rattle.ooo_table.specs.Events.{event_at, by_row}
use Rattle.ooo_table.specs.Later.{Each, Where, By}
use Rattle.ooo_table.specs.Legal.{CommitAllowed}

-- F, I and MI of the row are of earlier cycles than c
pub record Fresh (c : ℕ) (r : Row) : Type 0 where
  pub at : r.fetched.at < c
  pub issued : Where r.issued (λ i. i < c)
  pub access : Where r.access (λ a. a.at < c)

-- an access is back no earlier than it issued, and its row was written back by then
pub record Comes (set : Setting) (r : Row) : Type 0 where
  pub back : Where r.access (λ a. a.at ≤ a.back)
  pub written : Where r.access (λ a. is_before (suc a.at) (written set r) ≡ true)

-- the waiting rows are the newest ones
pub record Newest (older : List Row) (r : Row) : Type 0 where
  pub passed : waiting r ≡ false → Each (λ _ o. waiting o ≡ false) older

-- a row as it was to be fetched
abbrev pub as_next : Row → NextFetch
as_next r = record { pc = r.fetched.pc; earliest = r.fetched.at; right = r.fetched.right; state = r.fetched.state }

-- the next row goes on where this one leads
pub record Leads (set : Setting) (r : Row) (n : NextFetch) : Type 0 where
  pub pc : n.pc ≡ r.fetched.predicted
  pub right : n.right ≡ (r.fetched.right && not (execution set r).stops && (r.fetched.predicted == (execution set r).next))
  pub state : n.state ≡ (execution set r).after

-- each waiting row leads to the row behind it, and the newest one to the next fetch
abbrev pub Linked : Setting → List Row → NextFetch → Type 0
Linked set [] n = Unit {0}
Linked set (r ∷ older) n = waiting r ≡ true → Leads set r n × Linked set older (as_next r)

-- a row that recovers at c is live
pub record RecoversLive (set : Setting) (c : ℕ) (r : Row) : Type 0 where
  pub live : recovers set c r ≡ true → live r ≡ true

-- ---- at each stage

abbrev pub Passed : List Row → Type 0
Passed older = Each (λ _ o. waiting o ≡ false) older

-- What a row keeps in cycle c. Its marks come one after another, rows are dispatched in order, and a commit was allowed.
pub record RowFacts (set : Setting) (c : ℕ) (older : List Row) (r : Row) : Type 0 where
  pub dispatched_by : Where r.dispatched (λ d. d ≤ c)
  pub committed_by : Where r.committed (λ d. d ≤ c)
  pub came : is_some r.issued ≡ true → is_some r.dispatched ≡ true
  pub reached : is_some r.access ≡ true → is_some r.issued ≡ true
  pub left : is_some r.committed ≡ true → is_some r.dispatched ≡ true
  pub first : is_some r.dispatched ≡ true → Passed older
  pub order : Where r.committed (CommitAllowed set older r)

-- a squash of an older row is one of this row too, unless this one was fetched later. So an unsquashed row was fetched after
-- all squashes of older ones
abbrev pub SquashSpreads : List Row → Row → Type 0
SquashSpreads older r = Each (λ _ o. Where o.squashed (λ x. (x ≤ r.fetched.at) ⊎ By x r.squashed)) older

-- a row that issued at c, or whose access did, is live
pub record IssuesLive (set : Setting) (c : ℕ) (r : Row) : Type 0 where
  pub live : issues_at set c r ≡ true → live r ≡ true

-- as a cycle begins, and after each stage that comes before its fetches
pub record AtStages (set : Setting) (c : ℕ) (P : List Row → Type 0) : Type 0 where
  pub table : P (table set c).rows
  pub commit : P (after_commit set c).rows
  pub recover : P (after_recover set c).rows
  pub issue : P (after_issue set c).rows
  pub dispatch : P (after_dispatch set c).rows

-- the links of waiting rows, up to the next fetch
pub record LinkedAtStages (set : Setting) (c : ℕ) : Type 0 where
  pub table : Linked set (table set c).rows (table set c).next_fetch
  pub commit : Linked set (after_commit set c).rows (after_commit set c).next_fetch
  pub recover : Linked set (after_recover set c).rows (after_recover set c).next_fetch
  pub issue : Linked set (after_issue set c).rows (after_issue set c).next_fetch
  pub dispatch : Linked set (after_dispatch set c).rows (after_dispatch set c).next_fetch

-- as the issue stage begins no row has an F, I or MI of this cycle, and accesses are back after they issued
pub record BeforeIssue (set : Setting) (c : ℕ) : Type 0 where
  pub fresh : Each (λ _. Fresh c) (after_recover set c).rows
  pub comes : Each (λ _. Comes set) (after_recover set c).rows

-- ---- how many

-- of the live rows fewer are wrong than the unit holds
abbrev pub WrongRowsFit : Setting → ℕ → Type 0
WrongRowsFit set c = count_by (λ r. live r && not r.fetched.right) (after_issue set c).rows < set.config.ruu

-- no more rows than widths
abbrev pub RowsFit : Setting → ℕ → Type 0
RowsFit set c = length (table set c).rows ≤ set.config.decode * c

-- ---- the stop

-- The machine stops at a row: it is the oldest waiting one, its words were there before c, it is right and can't be done, and no
-- row is live. Only rows behind it are younger.
pub record StopsAt (set : Setting) (c : ℕ) (older : List Row) (r : Row) : Type 0 where
  pub waits : waiting r ≡ true
  pub queued : r.fetched.queued < c
  pub right : r.fetched.right ≡ true
  pub stops : (execution set r).stops ≡ true
  pub passed : Passed older
  pub gone : Each (λ _ o. live o ≡ false) older

-- some row has a fact, with the rows before it
abbrev pub Focus : (List Row → Row → Type 0) → List Row → Type 0
Focus P rows = (younger : List Row) × (older : List Row) × (r : Row) × (rows ≡ younger ++ (r ∷ older)) × P older r

-- that is where it stops, and nowhere else
pub record StopsThere (set : Setting) (c : ℕ) : Type 0 where
  pub row : stops_in set c (table set c) ≡ true → Focus (StopsAt set c) (after_issue set c).rows
  pub stop : Focus (StopsAt set c) (after_issue set c).rows → stops_in set c (table set c) ≡ true

-- ---- events

-- The events of a cycle that a stage gives are those that its rows show right after it: no later stage adds or takes away any.
pub record EventsStand (set : Setting) (c : ℕ) : Type 0 where
  pub commits : by_row (λ n r. event_at c r.committed mark.Committed n) (table set (suc c)).rows
      ≡ by_row (λ n r. event_at c r.committed mark.Committed n) (after_commit set c).rows
  pub squashes : by_row (λ n r. event_at c r.squashed mark.Squashed n) (table set (suc c)).rows
      ≡ by_row (λ n r. event_at c r.squashed mark.Squashed n) (after_recover set c).rows
  pub issues : by_row (λ n r. event_at c r.issued mark.Issued n ++ event_at c (accessed r) mark.Accessed n) (table set (suc c)).rows
      ≡ by_row (λ n r. event_at c r.issued mark.Issued n ++ event_at c (accessed r) mark.Accessed n) (after_issue set c).rows
  pub dispatches : by_row (λ n r. event_at c r.dispatched mark.Dispatched n) (table set (suc c)).rows
      ≡ by_row (λ n r. event_at c r.dispatched mark.Dispatched n) (after_dispatch set c).rows
