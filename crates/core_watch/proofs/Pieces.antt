-- What is shown of events, one list of them after another.
use Rattle.std.proofs.Common.{◌≡◌, ℕ, ◌<◌, Bool, true, false, cond, List, [], ◌∷◌, ◌++◌, Option, Some, refl, sym, ap, ◌∙◌, arith, length, length-append, append_assoc, append-nil}
use Rattle.std.specs.Prelude.{map, ◌==◌}
use Rattle.std.proofs.lemmas.Bool.Decides.{nat_tests}
use Rattle.sim_safe.specs.Step.{step_of}
use Rattle.ooo_table.specs.declared.event.Mark.{Mark}
use Rattle.ooo_table.specs.declared.event.Mark.TheVariants as mark
use Rattle.ooo_table.specs.declared.event.Event.{Event}
use Rattle.ooo_table.specs.Row.{Row, is_at, accessed}
use Rattle.ooo_table.specs.Ends.{Extent, rows_at, written_by, returned_by}
use Rattle.ooo_table.specs.Events.{by_row, event_at, fetch_mark}
use Rattle.ooo_table.specs.Machine.{Given, setting_of}
use Rattle.ooo_table.specs.RunLaws.{recorded_by}
use Rattle.core_watch.specs.Shown.{Shown, Happened, Committed, events}
use Rattle.core_watch.specs.Items.{recorded_of, behind_event, items_of, items_in}
use Rattle.core_watch.specs.StageItems.{commit_items}

events_append : (xs ys : List Event) → events (xs ++ ys) ≡ events xs ++ events ys
events_append [] ys = refl
events_append (x ∷ xs) ys = ap (λ l. Happened x ∷ l) (events_append xs ys)

module _ (g : Given) (all : List Row) where
  items_append : (xs ys : List Event) → items_of g all (xs ++ ys) ≡ items_of g all xs ++ items_of g all ys
  items_append [] ys = refl
  items_append (e ∷ xs) ys =
      ap (λ l. Happened e ∷ l)
      (ap (λ l. behind_event g all e.row e.mark ++ l) (items_append xs ys) ∙ sym (append_assoc (behind_event g all e.row e.mark) (items_of g all xs) (items_of g all ys)))

  joined : (xs ys : List Event) (xs' ys' : List Shown) → items_of g all xs ≡ xs' → items_of g all ys ≡ ys' → items_of g all (xs ++ ys) ≡ xs' ++ ys'
  joined xs ys xs' ys' e f = items_append xs ys ∙ (ap (λ l. l ++ items_of g all ys) e ∙ ap (λ l. xs' ++ l) f)

  -- ---- events behind which nothing is shown

  abbrev Plain : List Event → Type 0
  Plain es = items_of g all es ≡ events es

  plain_append : (xs ys : List Event) → Plain xs → Plain ys → Plain (xs ++ ys)
  plain_append xs ys p q = joined xs ys (events xs) (events ys) p q ∙ sym (events_append xs ys)

  plain_rows : (f : ℕ → Row → List Event) → ((n : ℕ) (r : Row) → Plain (f n r)) → (rows : List Row) → Plain (by_row f rows)
  plain_rows f plain [] = refl
  plain_rows f plain (r ∷ rows) = plain_append (by_row f rows) (f (length rows) r) (plain_rows f plain rows) (plain (length rows) r)

  plain_at : (what : Mark) → ((n : ℕ) → behind_event g all n what ≡ []) → (x : ℕ) (m : Option ℕ) (n : ℕ) → Plain (event_at x m what n)
  plain_at what none x m n = by_test (is_at x m)
    where
      by_test : (b : Bool) → Plain (cond b (record { cycle = x; row = n; mark = what } ∷ []) [])
      by_test true = ap (λ l. Happened (record { cycle = x; row = n; mark = what }) ∷ (l ++ [])) (none n)
      by_test false = refl

  -- ---- commits

  same_number : (n : ℕ) → (n == n) ≡ true
  same_number n = grind (arith, nat_tests)

  other_number : (m n : ℕ) → n < m → (m == n) ≡ false
  other_number m n lt = grind (arith, nat_tests)

  found : (younger rows : List Row) (r : Row) → recorded_of g (length rows) (younger ++ (r ∷ rows)) ≡ map Committed (recorded_by g (step_of g.trace r.fetched.state))
  found [] rows r = ap (λ b. cond b (map Committed (recorded_by g (step_of g.trace r.fetched.state))) (recorded_of g (length rows) rows)) (same_number (length rows))
  found (y ∷ younger) rows r =
      ap (λ b. cond b (map Committed (recorded_by g (step_of g.trace y.fetched.state))) (recorded_of g (length rows) (younger ++ (r ∷ rows))))
      (other_number (length (younger ++ (r ∷ rows))) (length rows) (omega (arith, length-append younger (r ∷ rows))))
      ∙ found younger rows r

  one_commit : (c : ℕ) (rows : List Row) (r : Row) → recorded_of g (length rows) all ≡ map Committed (recorded_by g (step_of g.trace r.fetched.state))
      → items_of g all (event_at c r.committed mark.Committed (length rows))
      ≡ cond (is_at c r.committed) (Happened (record { cycle = c; row = length rows; mark = mark.Committed }) ∷ map Committed (recorded_by g (step_of g.trace r.fetched.state))) []
  one_commit c rows r e = by_test (is_at c r.committed)
    where
      by_test : (b : Bool) → items_of g all (cond b (record { cycle = c; row = length rows; mark = mark.Committed } ∷ []) [])
          ≡ cond b (Happened (record { cycle = c; row = length rows; mark = mark.Committed }) ∷ map Committed (recorded_by g (step_of g.trace r.fetched.state))) []
      by_test true = ap (λ l. Happened (record { cycle = c; row = length rows; mark = mark.Committed }) ∷ l) (append-nil (recorded_of g (length rows) all) ∙ e)
      by_test false = refl

  commits_part : (c : ℕ) (younger rows : List Row) → all ≡ younger ++ rows → items_of g all (by_row (λ n r. event_at c r.committed mark.Committed n) rows) ≡ commit_items g c rows
  commits_part c younger [] e = refl
  commits_part c younger (r ∷ rows) e =
      joined (by_row (λ n r. event_at c r.committed mark.Committed n) rows) (event_at c r.committed mark.Committed (length rows)) (commit_items g c rows)
      (cond (is_at c r.committed) (Happened (record { cycle = c; row = length rows; mark = mark.Committed }) ∷ map Committed (recorded_by g (step_of g.trace r.fetched.state))) [])
      (commits_part c (younger ++ r ∷ []) rows (e ∙ sym (append_assoc younger (r ∷ []) rows)))
      (one_commit c rows r (ap (recorded_of g (length rows)) e ∙ found younger rows r))

-- ---- a cycle

module _ (g : Given) (e : Extent) (c x : ℕ) where
  abbrev all : List Row
  all = rows_at (setting_of g) e c

  abbrev commits : List Event
  commits = by_row (λ n r. event_at x r.committed mark.Committed n) all

  abbrev writes_at : ℕ → Row → List Event
  writes_at n r = event_at x (written_by (setting_of g) e c r) mark.Written n ++ event_at x (returned_by (setting_of g) e c r) mark.Returned n

  abbrev squashes_at : ℕ → Row → List Event
  squashes_at n r = event_at x r.squashed mark.Squashed n

  abbrev issues_at : ℕ → Row → List Event
  issues_at n r = event_at x r.issued mark.Issued n ++ event_at x (accessed r) mark.Accessed n

  abbrev dispatches_at : ℕ → Row → List Event
  dispatches_at n r = event_at x r.dispatched mark.Dispatched n

  abbrev fetches_at : ℕ → Row → List Event
  fetches_at n r = event_at x (Some r.fetched.at) (fetch_mark r.fetched) n

  plain_writes : (n : ℕ) (r : Row) → Plain g all (writes_at n r)
  plain_writes n r =
      plain_append g all (event_at x (written_by (setting_of g) e c r) mark.Written n) (event_at x (returned_by (setting_of g) e c r) mark.Returned n)
      (plain_at g all mark.Written (λ n. refl) x (written_by (setting_of g) e c r) n) (plain_at g all mark.Returned (λ n. refl) x (returned_by (setting_of g) e c r) n)

  plain_issues : (n : ℕ) (r : Row) → Plain g all (issues_at n r)
  plain_issues n r =
      plain_append g all (event_at x r.issued mark.Issued n) (event_at x (accessed r) mark.Accessed n)
      (plain_at g all mark.Issued (λ n. refl) x r.issued n) (plain_at g all mark.Accessed (λ n. refl) x (accessed r) n)

  abbrev after_writes : List Event
  after_writes = by_row squashes_at all ++ (by_row issues_at all ++ (by_row dispatches_at all ++ by_row fetches_at all))

  plain_after : Plain g all after_writes
  plain_after =
      plain_append g all (by_row squashes_at all) (by_row issues_at all ++ (by_row dispatches_at all ++ by_row fetches_at all))
      (plain_rows g all squashes_at (λ n r. plain_at g all mark.Squashed (λ n. refl) x r.squashed n) all)
      (plain_append g all (by_row issues_at all) (by_row dispatches_at all ++ by_row fetches_at all) (plain_rows g all issues_at plain_issues all)
      (plain_append g all (by_row dispatches_at all) (by_row fetches_at all)
      (plain_rows g all dispatches_at (λ n r. plain_at g all mark.Dispatched (λ n. refl) x r.dispatched n) all)
      (plain_rows g all fetches_at (λ n r. plain_at g all (fetch_mark r.fetched) (λ n. refl) x (Some r.fetched.at) n) all)))

  plain_all : Plain g all (by_row writes_at all ++ after_writes)
  plain_all = plain_append g all (by_row writes_at all) after_writes (plain_rows g all writes_at plain_writes all) plain_after

  apart : (ws ss is ds fs : List Event) → events (ws ++ (ss ++ (is ++ (ds ++ fs)))) ≡ events ws ++ (events ss ++ (events is ++ (events ds ++ events fs)))
  apart ws ss is ds fs =
      events_append ws (ss ++ (is ++ (ds ++ fs)))
      ∙ ap (λ l. events ws ++ l)
      (events_append ss (is ++ (ds ++ fs))
      ∙ ap (λ l. events ss ++ l)
      (events_append is (ds ++ fs) ∙ ap (λ l. events is ++ l) (events_append ds fs)))

  -- what is shown of cycle x, over rows at the end
  pub items_split : items_in g e c x
      ≡ commit_items g x all ++ (events (by_row writes_at all) ++ (events (by_row squashes_at all) ++ (events (by_row issues_at all) ++ (events (by_row dispatches_at all) ++ events (by_row fetches_at all)))))
  unfolding items_in
  items_split =
      joined g all commits (by_row writes_at all ++ after_writes) (commit_items g x all) (events (by_row writes_at all ++ after_writes)) (commits_part g all x [] all refl) plain_all
      ∙ ap (λ l. commit_items g x all ++ l) (apart (by_row writes_at all) (by_row squashes_at all) (by_row issues_at all) (by_row dispatches_at all) (by_row fetches_at all))
