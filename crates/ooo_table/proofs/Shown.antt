-- The events that a stage gives stay as they are in the stages behind it.
use Rattle.std.proofs.Common.{◌≡◌, ℕ, zero, suc, List, [], ◌∷◌, ◌++◌, length, Option, Some, refl, ap, ◌∙◌, append-nil}
use Rattle.std.specs.Prelude.{◌&&◌, is_none}
use Rattle.std.specs.List.{list_any}
use Rattle.std.proofs.lemmas.Bool.{cond_both}
use Rattle.mem_hier.specs.Replay.{Reference}
use Rattle.ooo_table.specs.declared.event.Event.{Event}
use Rattle.ooo_table.specs.declared.event.Mark.TheVariants as mark
use Rattle.ooo_table.specs.Row.{Row, accessed, sweep}
use Rattle.ooo_table.specs.Table.{Setting, Table}
use Rattle.ooo_table.specs.Recovery.{squash_row, recovers}
use Rattle.ooo_table.specs.References.{store_references}
use Rattle.ooo_table.specs.Issue.{issue_row, issues, accesses, access_of}
use Rattle.ooo_table.specs.Dispatch.{dispatch_row, dispatches}
use Rattle.ooo_table.specs.Fetch.{fetch_up_to, fetch_one, may_fetch}
use Rattle.ooo_table.specs.Cycle.{after_commit, after_recover, after_issue, after_dispatch}
use Rattle.ooo_table.specs.Events.{event_at, by_row}
use Rattle.ooo_table.specs.CycleLaws.{EventsStand}

swept_length : (g : List Row → Row → Row) (rows : List Row) → length (sweep g rows) ≡ length rows
swept_length g [] = refl
swept_length g (r ∷ rows) = ap suc (swept_length g rows)

-- a sweep leaves the events of a mark that its turns leave
swept : {A : Type 0} (mark : Row → A) (f : ℕ → A → List Event) (g : List Row → Row → Row) → ((before : List Row) (r : Row) → mark (g before r) ≡ mark r)
    → (rows : List Row) → by_row (λ n r. f n (mark r)) (sweep g rows) ≡ by_row (λ n r. f n (mark r)) rows
swept mark f g same [] = refl
swept mark f g same (r ∷ rows) =
    ap (λ l. l ++ f (length (sweep g rows)) (mark (g (sweep g rows) r))) (swept mark f g same rows)
    ∙ (ap (λ n. by_row (λ n r. f n (mark r)) rows ++ f n (mark (g (sweep g rows) r))) (swept_length g rows)
    ∙ ap (λ m. by_row (λ n r. f n (mark r)) rows ++ f (length rows) m) (same (sweep g rows) r))

module _ (set : Setting) where
  -- and so do fetches, where a new row has none
  fetched : {A : Type 0} (mark : Row → A) (f : ℕ → A → List Event) → ((n : ℕ) (c : ℕ) (t : Table) → by_row (λ n r. f n (mark r)) (fetch_one set c t).rows ≡ by_row (λ n r. f n (mark r)) t.rows)
      → (n c : ℕ) (t : Table) → by_row (λ n r. f n (mark r)) (fetch_up_to set n c t).rows ≡ by_row (λ n r. f n (mark r)) t.rows
  fetched mark f none zero c t = refl
  fetched mark f none (suc n) c t =
      cond_both (may_fetch set c t) (fetch_up_to set n c (fetch_one set c t)) t (λ u. by_row (λ n r. f n (mark r)) u.rows ≡ by_row (λ n r. f n (mark r)) t.rows)
      (λ _. fetched mark f none n c (fetch_one set c t) ∙ none n c t) (λ _. refl)

  squash_leaves : {A : Type 0} (mark : Row → A) → ((r : Row) (x : Option ℕ) → mark (record r { squashed = x }) ≡ mark r) → (c : ℕ) (before : List Row) (r : Row) → mark (squash_row set c before r) ≡ mark r
  squash_leaves mark same c before r = cond_both (list_any (recovers set c) before && is_none r.squashed) (record r { squashed = Some c }) r (λ s. mark s ≡ mark r) (λ _. same r (Some c)) (λ _. refl)

  issue_leaves : {A : Type 0} (mark : Row → A) (c : ℕ) (base : List Reference) (start before : List Row) (r : Row)
      → mark (record r { issued = Some c }) ≡ mark r → mark (record r { access = Some (access_of set c base before r) }) ≡ mark r → mark (issue_row set c base start before r) ≡ mark r
  issue_leaves mark c base start before r i a =
      cond_both (issues set c start before r) (record r { issued = Some c }) _ (λ s. mark s ≡ mark r) (λ _. i)
      (λ _. cond_both (accesses set c start before r) (record r { access = Some (access_of set c base before r) }) r (λ s. mark s ≡ mark r) (λ _. a) (λ _. refl))

  dispatch_leaves : {A : Type 0} (mark : Row → A) (c : ℕ) (before : List Row) (r : Row) → mark (record r { dispatched = Some c }) ≡ mark r → mark (dispatch_row set c before r) ≡ mark r
  dispatch_leaves mark c before r d = cond_both (dispatches set c before r) (record r { dispatched = Some c }) r (λ s. mark s ≡ mark r) (λ _. d) (λ _. refl)

  pub events_stand : (c : ℕ) → EventsStand set c
  events_stand c =
      let base : List Reference = store_references set c (after_recover set c).rows (after_recover set c).references in
      let start : List Row = (after_recover set c).rows in
      record {
        commits =
            fetched (λ r. r.committed) (λ n m. event_at c m mark.Committed n) (λ n c t. append-nil _) set.config.decode c (after_dispatch set c)
            ∙ (swept (λ r. r.committed) (λ n m. event_at c m mark.Committed n) (dispatch_row set c) (λ b r. dispatch_leaves (λ r. r.committed) c b r refl) (after_issue set c).rows
            ∙ (swept (λ r. r.committed) (λ n m. event_at c m mark.Committed n) (issue_row set c base start) (λ b r. issue_leaves (λ r. r.committed) c base start b r refl refl) start
            ∙ swept (λ r. r.committed) (λ n m. event_at c m mark.Committed n) (squash_row set c) (squash_leaves (λ r. r.committed) (λ r x. refl) c) (after_commit set c).rows));
        squashes =
            fetched (λ r. r.squashed) (λ n m. event_at c m mark.Squashed n) (λ n c t. append-nil _) set.config.decode c (after_dispatch set c)
            ∙ (swept (λ r. r.squashed) (λ n m. event_at c m mark.Squashed n) (dispatch_row set c) (λ b r. dispatch_leaves (λ r. r.squashed) c b r refl) (after_issue set c).rows
            ∙ swept (λ r. r.squashed) (λ n m. event_at c m mark.Squashed n) (issue_row set c base start) (λ b r. issue_leaves (λ r. r.squashed) c base start b r refl refl) start);
        issues =
            fetched {A = Option ℕ × Option ℕ} (λ r. (r.issued, accessed r)) (λ n m. event_at c m.0 mark.Issued n ++ event_at c m.1 mark.Accessed n) (λ n c t. append-nil _) set.config.decode c (after_dispatch set c)
            ∙ swept {A = Option ℕ × Option ℕ} (λ r. (r.issued, accessed r)) (λ n m. event_at c m.0 mark.Issued n ++ event_at c m.1 mark.Accessed n) (dispatch_row set c)
            (λ b r. dispatch_leaves {A = Option ℕ × Option ℕ} (λ r. (r.issued, accessed r)) c b r refl) (after_issue set c).rows;
        dispatches = fetched (λ r. r.dispatched) (λ n m. event_at c m mark.Dispatched n) (λ n c t. append-nil _) set.config.decode c (after_dispatch set c);
      }
