-- What is gathered over rows and depends on marks of earlier cycles alone stays as it is.
use Rattle.std.proofs.Common.{◌≡◌, ℕ, zero, suc, ◌≤◌, true, List, [], ◌∷◌, Some, None, refl, ap, ◌∙◌, arith, inl, inr, length}
use Rattle.std.specs.Prelude.{nat_le}
use Rattle.std.proofs.lemmas.Bool.{cond_both, and_parts}
use Rattle.mem_hier.specs.Replay.{Reference}
use Rattle.bpred_unit.specs.declared.predictor.Look.{Look}
use Rattle.ooo_table.specs.Row.{Row, MemoryAccess, sweep}
use Rattle.ooo_table.specs.Table.{Setting, NextFetch, Table}
use Rattle.ooo_table.specs.Commit.{commits, commit_row}
use Rattle.ooo_table.specs.Recovery.{squash_row}
use Rattle.ooo_table.specs.References.{store_references, references_of, predictor_events_of}
use Rattle.ooo_table.specs.Issue.{issues, accesses, access_of, issue_row}
use Rattle.ooo_table.specs.Dispatch.{dispatches, dispatch_row}
use Rattle.ooo_table.specs.Fetch.{may_fetch, queue_cycle, fetched_row, fetch_one, fetch_up_to}
use Rattle.ooo_table.specs.Cycle.{table, after_commit, after_recover, after_issue, after_dispatch}
use Rattle.ooo_table.specs.Ends.{AtCommit, AtStop, rows_at, commit_up_to}
use Rattle.ooo_table.proofs.Marks.{none_of}
use Rattle.ooo_table.proofs.Order.{Changed, Now}
use Rattle.ooo_table.proofs.RowFacts.{changed_commit, changed_squash, changed_issue, changed_dispatch, same_changed}
use Rattle.ooo_table.proofs.Ends.{swept_length}

-- a value gathered over rows with their numbers, the oldest row first
abbrev pub gathered : {B : Type 0} → (ℕ → Row → B → B) → B → List Row → B
gathered f none [] = none
gathered f none (r ∷ older) = f (length older) r (gathered f none older)

-- a row before and behind a turn of cycle c: an access that is new is back no earlier
pub record Turned (c : ℕ) (r s : Row) : Type 0 where
  pub changed : Changed c r s
  pub back : Now (λ (a : MemoryAccess). c ≤ a.back) r.access s.access

module _ (set : Setting) (c : ℕ) where
  turned_same : (r : Row) → Turned c r r
  turned_same r = record { changed = same_changed set c r; back = inl refl }

  turned_commit : (older : List Row) (r : Row) → Turned c r (commit_row set c older r)
  turned_commit older r =
      record {
        changed = changed_commit set c older r;
        back = cond_both (commits set c older r) (record r { committed = Some c }) r (λ s. Now (λ (a : MemoryAccess). c ≤ a.back) r.access s.access) (λ _. inl refl) (λ _. inl refl);
      }

  turned_up_to : (row : ℕ) (older : List Row) (r : Row) → Turned c r (commit_up_to set row c older r)
  turned_up_to row older r = cond_both (nat_le (length older) row) (commit_row set c older r) r (Turned c r) (λ _. turned_commit older r) (λ _. turned_same r)

  turned_squash : (older : List Row) (r : Row) → Turned c r (squash_row set c older r)
  turned_squash older r =
      record {
        changed = changed_squash set c older r;
        back = cond_both _ (record r { squashed = Some c }) r (λ s. Now (λ (a : MemoryAccess). c ≤ a.back) r.access s.access) (λ _. inl refl) (λ _. inl refl);
      }

  turned_dispatch : (older : List Row) (r : Row) → Turned c r (dispatch_row set c older r)
  turned_dispatch older r =
      record {
        changed = changed_dispatch set c older r;
        back = cond_both (dispatches set c older r) (record r { dispatched = Some c }) r (λ s. Now (λ (a : MemoryAccess). c ≤ a.back) r.access s.access) (λ _. inl refl) (λ _. inl refl);
      }

  turned_issue : (base : List Reference) (start older : List Row) (r : Row) → Turned c r (issue_row set c base start older r)
  turned_issue base start older r =
      record {
        changed = changed_issue set c base start older r;
        back = cond_both (issues set c start older r) (record r { issued = Some c }) _ (λ s. Now (λ (a : MemoryAccess). c ≤ a.back) r.access s.access) (λ _. inl refl)
            (λ _. cond_both (accesses set c start older r) (record r { access = Some (access_of set c base older r) }) r (λ s. Now (λ (a : MemoryAccess). c ≤ a.back) r.access s.access)
            (λ e. inr (unread e, refl, omega arith)) (λ _. inl refl));
      }
    where
      unread : accesses set c start older r ≡ true → r.access ≡ None
      unread e = grind (arith, none_of, and_parts)

  module _ {B : Type 0} (f : ℕ → Row → B → B) (none : B) where
    gathered_sweep : (turn : List Row → Row → Row) → ((n : ℕ) (before : List Row) (r : Row) (b : B) → f n (turn before r) b ≡ f n r b) → (rows : List Row)
        → gathered f none (sweep turn rows) ≡ gathered f none rows
    gathered_sweep turn same [] = refl
    gathered_sweep turn same (r ∷ rows) =
        ap (λ b. f (length (sweep turn rows)) (turn (sweep turn rows) r) b) (gathered_sweep turn same rows)
        ∙ (ap (λ n. f n (turn (sweep turn rows) r) (gathered f none rows)) (swept_length set turn rows)
        ∙ same (length rows) (sweep turn rows) r (gathered f none rows))

    gathered_fetches : ((n : ℕ) (u : NextFetch) (look : Look) (queued : ℕ) (b : B) → f n (fetched_row set c u look queued) b ≡ b) → (n : ℕ) (t : Table)
        → gathered f none (fetch_up_to set n c t).rows ≡ gathered f none t.rows
    gathered_fetches fresh zero t = refl
    gathered_fetches fresh (suc n) t =
        cond_both (may_fetch set c t) (fetch_up_to set n c (fetch_one set c t)) t (λ u. gathered f none u.rows ≡ gathered f none t.rows)
        (λ _. gathered_fetches fresh n (fetch_one set c t)
        ∙ fresh (length t.rows) t.next_fetch (set.look t.next_fetch.pc (predictor_events_of set c t.rows t.predictor_events)) (queue_cycle set c t.next_fetch.pc (references_of set c t.rows t.references)) (gathered f none t.rows))
        (λ _. refl)

    -- over turns of cycle c, and over rows that are fetched in it
    module _ (same : (n : ℕ) (r s : Row) (b : B) → Turned c r s → f n s b ≡ f n r b) where
      pub stays_up_to : (row : ℕ) → gathered f none (rows_at set (AtCommit row) c) ≡ gathered f none (table set c).rows
      stays_up_to row = gathered_sweep (commit_up_to set row c) (λ n before r b. same n r (commit_up_to set row c before r) b (turned_up_to row before r)) (table set c).rows

      pub stays_commit : gathered f none (after_commit set c).rows ≡ gathered f none (table set c).rows
      stays_commit = gathered_sweep (commit_row set c) (λ n before r b. same n r (commit_row set c before r) b (turned_commit before r)) (table set c).rows

      pub stays_behind : gathered f none (after_dispatch set c).rows ≡ gathered f none (after_commit set c).rows
      stays_behind =
          let two = after_recover set c in
          let base = store_references set c two.rows two.references in
          gathered_sweep (dispatch_row set c) (λ n before r b. same n r (dispatch_row set c before r) b (turned_dispatch before r)) (after_issue set c).rows
          ∙ (gathered_sweep (issue_row set c base two.rows) (λ n before r b. same n r (issue_row set c base two.rows before r) b (turned_issue base two.rows before r)) two.rows
          ∙ gathered_sweep (squash_row set c) (λ n before r b. same n r (squash_row set c before r) b (turned_squash before r)) (after_commit set c).rows)

      pub stays_stop : gathered f none (rows_at set AtStop c) ≡ gathered f none (table set c).rows
      stays_stop = stays_behind ∙ stays_commit

      module _ (fresh : (n : ℕ) (u : NextFetch) (look : Look) (queued : ℕ) (b : B) → f n (fetched_row set c u look queued) b ≡ b) where
        pub stays_cycle : gathered f none (table set (suc c)).rows ≡ gathered f none (table set c).rows
        stays_cycle = gathered_fetches fresh set.config.decode (after_dispatch set c) ∙ stays_stop

    -- over fetches of cycle c
    pub over_fetches : ((n : ℕ) (u : NextFetch) (look : Look) (queued : ℕ) (b : B) → f n (fetched_row set c u look queued) b ≡ b)
        → gathered f none (table set (suc c)).rows ≡ gathered f none (after_dispatch set c).rows
    over_fetches fresh = gathered_fetches fresh set.config.decode (after_dispatch set c)

    -- over turns of the stages behind the commits of cycle c, none of which commits
    module _ (same : (n : ℕ) (before : List Row) (r : Row) (b : B) → f n (squash_row set c before r) b ≡ f n r b)
        (issued : (base : List Reference) (start : List Row) (n : ℕ) (before : List Row) (r : Row) (b : B) → f n (issue_row set c base start before r) b ≡ f n r b)
        (entered : (n : ℕ) (before : List Row) (r : Row) (b : B) → f n (dispatch_row set c before r) b ≡ f n r b) where
      pub behind_commits : gathered f none (after_dispatch set c).rows ≡ gathered f none (after_commit set c).rows
      behind_commits =
          let two = after_recover set c in
          gathered_sweep (dispatch_row set c) entered (after_issue set c).rows
          ∙ (gathered_sweep (issue_row set c (store_references set c two.rows two.references) two.rows) (issued (store_references set c two.rows two.references) two.rows) two.rows
          ∙ gathered_sweep (squash_row set c) same (after_commit set c).rows)
