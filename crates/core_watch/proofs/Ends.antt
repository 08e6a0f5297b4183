-- What is shown of a cycle that is whole, that ends in its dispatch stage, or at a commit.
use Rattle.std.proofs.Common.{◌≡◌, ℕ, suc, ◌<◌, Bool, true, false, cond, List, [], ◌∷◌, ◌++◌, Option, Some, None, refl, ap, ◌∙◌, arith, length, append-nil}
use Rattle.std.specs.Prelude.{◌&&◌, ◌==◌, nat_lt}
use Rattle.std.proofs.lemmas.Bool.{ltb-true}
use Rattle.std.proofs.lemmas.Bool.Decides.{nat_tests}
use Rattle.ooo_table.specs.declared.event.Mark.{Mark}
use Rattle.ooo_table.specs.declared.event.Mark.TheVariants as mark
use Rattle.ooo_table.specs.declared.event.Event.{Event}
use Rattle.ooo_table.specs.Row.{Row, is_at, accessed, returned}
use Rattle.ooo_table.specs.Done.{written, unsquashed_before}
use Rattle.ooo_table.specs.Cycle.{table, after_commit, after_recover, after_issue, after_dispatch}
use Rattle.ooo_table.specs.Ends.{AtCommit, AtStop, Whole, rows_at, happened}
use Rattle.ooo_table.specs.Events.{by_row, event_at, fetch_mark}
use Rattle.ooo_table.specs.Later.{Each, Past}
use Rattle.ooo_table.specs.Legal.{Happened}
use Rattle.ooo_table.specs.Machine.{Given, setting_of}
use Rattle.ooo_table.specs.MachineLaws.{IsSound}
use Rattle.ooo_table.proofs.Counts.{access_past}
use Rattle.ooo_table.proofs.Ends.{happened_at}
use Rattle.ooo_table.proofs.Over.{not_at}
use Rattle.core_watch.specs.Shown.{Shown, events}
use Rattle.core_watch.specs.Items.{items_in}
use Rattle.core_watch.specs.StageItems.{commit_items, written_events, squashed_events, issued_events, dispatched_events, fetched_events, staged_items}
use Rattle.core_watch.specs.StageItemsLaws.{ShownByStage}
use Rattle.core_watch.proofs.Pieces.{items_split}
use Rattle.core_watch.proofs.Stages.{ShowsStages, stages_dispatched, stages_whole}

-- ---- by stage

parts_same : (a a' : List Shown) (w w' s s' i i' d d' f f' : List Event) → a ≡ a' → w ≡ w' → s ≡ s' → i ≡ i' → d ≡ d' → f ≡ f'
    → (a ++ (events w ++ (events s ++ (events i ++ (events d ++ events f))))) ≡ (a' ++ (events w' ++ (events s' ++ (events i' ++ (events d' ++ events f')))))
parts_same a a' w w' s s' i i' d d' f f' ea ew es ei ed ef = rw (ea, ew, es, ei, ed, ef) refl

by_pieces : (g : Given) (c : ℕ) (rows : List Row) (fetched : List Event) → ShowsStages g c rows → fetched_events g c rows ≡ fetched
    → (commit_items g c rows
    ++ (events (written_events g c rows) ++ (events (squashed_events g c rows) ++ (events (issued_events g c rows) ++ (events (dispatched_events g c rows) ++ events (fetched_events g c rows))))))
    ≡ staged_items g c fetched
by_pieces g c rows fetched s f =
    parts_same (commit_items g c rows) (commit_items g c (after_commit (setting_of g) c).rows)
    (written_events g c rows) (written_events g c (after_commit (setting_of g) c).rows)
    (squashed_events g c rows) (squashed_events g c (after_recover (setting_of g) c).rows)
    (issued_events g c rows) (issued_events g c (after_issue (setting_of g) c).rows)
    (dispatched_events g c rows) (dispatched_events g c (after_dispatch (setting_of g) c).rows)
    (fetched_events g c rows) fetched s.commits s.written s.squashes s.issues s.dispatches f

-- ---- rows with no mark of the cycle

none_by_row : (f : ℕ → Row → List Event) (P : Row → Type 0) → ((n : ℕ) (r : Row) → P r → f n r ≡ []) → (rows : List Row) → Each (λ _. P) rows → by_row f rows ≡ []
none_by_row f P none [] h = refl
none_by_row f P none (r ∷ rows) h = ap (λ l. l ++ f (length rows) r) (none_by_row f P none rows h.1) ∙ none (length rows) r h.0

none_at : (c : ℕ) (m : Option ℕ) (what : Mark) (n : ℕ) → is_at c m ≡ false → event_at c m what n ≡ []
none_at c m what n e = ap (λ b. cond b (record { cycle = c; row = n; mark = what } ∷ []) []) e

-- a mark that has happened before cycle c is none of it
happened_before : (c : ℕ) (r : Row) (m : Option ℕ) → is_at c (happened c r m) ≡ false
happened_before c r None = refl
happened_before c r (Some w) = by_test (nat_lt w c) refl
  where
    earlier : w < c → (w == c) ≡ false
    earlier lt = grind (arith, nat_tests)

    by_squash : (b : Bool) → w < c → is_at c (cond b (Some w) None) ≡ false
    by_squash true lt = earlier lt
    by_squash false lt = refl

    by_test : (b : Bool) → nat_lt w c ≡ b → is_at c (cond (b && unsquashed_before (Some w) r) (Some w) None) ≡ false
    by_test true e = by_squash (unsquashed_before (Some w) r) (ltb-true w c e)
    by_test false e = refl

not_then : (c n : ℕ) → n < c → (n == c) ≡ false
not_then c n lt = grind (arith, nat_tests)

-- all marks but commits are of earlier cycles
abbrev Early : ℕ → Row → Type 0
Early c r = Past c (record r { committed = None })

early_of : (g : Given) (c row : ℕ) (rows : List Row) → Each (Happened (AtCommit row) c) rows → Each (λ _. Early c) rows
early_of g c row [] h = tt
early_of g c row (r ∷ rows) h = (h.0.0, early_of g c row rows h.1)

unfetched_of : (c : ℕ) (rows : List Row) → Each (Happened AtStop c) rows → Each (λ _ r. r.fetched.at < c) rows
unfetched_of c [] h = tt
unfetched_of c (r ∷ rows) h = (h.0.1, unfetched_of c rows h.1)

fetched_none : (g : Given) (c : ℕ) (rows : List Row) → Each (λ _ r. r.fetched.at < c) rows → fetched_events g c rows ≡ []
fetched_none g c rows h =
    none_by_row (λ n r. event_at c (Some r.fetched.at) (fetch_mark r.fetched) n) (λ r. r.fetched.at < c)
    (λ n r lt. none_at c (Some r.fetched.at) (fetch_mark r.fetched) n (not_then c r.fetched.at lt)) rows h

-- ---- the laws

pub by_stage : (g : Given) (c : ℕ) → IsSound g → ShownByStage g c
by_stage g c sound =
    let whole : ShowsStages g c (table (setting_of g) (suc c)).rows = stages_whole g sound c in
    let stop : ShowsStages g c (after_dispatch (setting_of g) c).rows = stages_dispatched g sound c in
    record {
      whole =
          items_split g Whole (suc c) c
          ∙ by_pieces g c (table (setting_of g) (suc c)).rows (fetched_events g c (table (setting_of g) (suc c)).rows) whole refl;
      stop =
          items_split g AtStop c c
          ∙ by_pieces g c (after_dispatch (setting_of g) c).rows [] stop
          (fetched_none g c (after_dispatch (setting_of g) c).rows (unfetched_of c (after_dispatch (setting_of g) c).rows (happened_at (setting_of g) AtStop c)));
    }

-- of a cycle that ends at a commit nothing else is shown
module _ (g : Given) (c row : ℕ) where
  abbrev all : List Row
  all = rows_at (setting_of g) (AtCommit row) c

  early : Each (λ _. Early c) all
  early = early_of g c row all (happened_at (setting_of g) (AtCommit row) c)

  two_none : (xs ys : List Event) → xs ≡ [] → ys ≡ [] → (xs ++ ys) ≡ []
  two_none xs ys e f = rw (e, f) refl

  abbrev writes_at : ℕ → Row → List Event
  writes_at n r = event_at c (happened c r (written (setting_of g) r)) mark.Written n ++ event_at c (happened c r (returned r)) mark.Returned n

  no_writes : by_row writes_at all ≡ []
  no_writes =
      none_by_row writes_at (Early c)
      (λ n r h. two_none (event_at c (happened c r (written (setting_of g) r)) mark.Written n) (event_at c (happened c r (returned r)) mark.Returned n)
      (none_at c (happened c r (written (setting_of g) r)) mark.Written n (happened_before c r (written (setting_of g) r)))
      (none_at c (happened c r (returned r)) mark.Returned n (happened_before c r (returned r)))) all early

  no_squashes : squashed_events g c all ≡ []
  no_squashes = none_by_row (λ n r. event_at c r.squashed mark.Squashed n) (Early c) (λ n r h. none_at c r.squashed mark.Squashed n (not_at c r.squashed h.squashed)) all early

  no_issues : issued_events g c all ≡ []
  no_issues =
      none_by_row (λ n r. event_at c r.issued mark.Issued n ++ event_at c (accessed r) mark.Accessed n) (Early c)
      (λ n r h. two_none (event_at c r.issued mark.Issued n) (event_at c (accessed r) mark.Accessed n)
      (none_at c r.issued mark.Issued n (not_at c r.issued h.issued)) (none_at c (accessed r) mark.Accessed n (not_at c (accessed r) (access_past c r.access h.access)))) all early

  no_dispatches : dispatched_events g c all ≡ []
  no_dispatches =
      none_by_row (λ n r. event_at c r.dispatched mark.Dispatched n) (Early c) (λ n r h. none_at c r.dispatched mark.Dispatched n (not_at c r.dispatched h.dispatched)) all early

  no_fetches : fetched_events g c all ≡ []
  no_fetches =
      none_by_row (λ n r. event_at c (Some r.fetched.at) (fetch_mark r.fetched) n) (Early c)
      (λ n r h. none_at c (Some r.fetched.at) (fetch_mark r.fetched) n (not_then c r.fetched.at h.fetched)) all early

  pub shown_at_commit : items_in g (AtCommit row) c c ≡ commit_items g c all
  shown_at_commit =
      items_split g (AtCommit row) c c
      ∙ (parts_same (commit_items g c all) (commit_items g c all) (by_row writes_at all) [] (squashed_events g c all) [] (issued_events g c all) [] (dispatched_events g c all) []
      (fetched_events g c all) [] refl no_writes no_squashes no_issues no_dispatches no_fetches
      ∙ append-nil (commit_items g c all))
