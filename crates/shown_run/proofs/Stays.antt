-- What was shown of a cycle never changes.
use Rattle.std.proofs.Common.{◌≡◌, ℕ, zero, suc, ◌+◌, ◌-◌, ◌<◌, ◌≤◌, Bool, true, false, cond, List, [], ◌∷◌, ◌++◌, Option, Some, None, refl, sym, ap, ◌∙◌, arith, inl, inr, length, append-nil}
use Rattle.std.specs.Prelude.{◌&&◌, ◌==◌, nat_lt, map, option_map}
use Rattle.std.proofs.lemmas.Bool.{eqb-true, le-ltb, lt-ltb}
use Rattle.std.proofs.lemmas.Bool.Decides.{nat_tests}
use Rattle.sim_safe.specs.Step.{step_of}
use Rattle.bpred_unit.specs.declared.predictor.Look.{Look}
use Rattle.ooo_table.specs.declared.event.Mark.{Mark}
use Rattle.ooo_table.specs.declared.event.Mark.TheVariants as mark
use Rattle.ooo_table.specs.declared.event.Event.{Event}
use Rattle.ooo_table.specs.Row.{Row, MemoryAccess, is_at, is_before, accessed, returned}
use Rattle.ooo_table.specs.Execution.{unit_latency}
use Rattle.ooo_table.specs.Table.{NextFetch}
use Rattle.ooo_table.specs.Path.{execution, execution_of}
use Rattle.ooo_table.specs.Done.{written, unsquashed_before}
use Rattle.ooo_table.specs.Fetch.{fetched_row}
use Rattle.ooo_table.specs.Cycle.{table}
use Rattle.ooo_table.specs.Ends.{Extent, Whole, AtCommit, AtStop, rows_at, recovered_cycles, happened, written_by, returned_by}
use Rattle.ooo_table.specs.Events.{by_row, event_at, fetch_mark}
use Rattle.ooo_table.specs.Machine.{Given, setting_of}
use Rattle.ooo_table.specs.RunLaws.{recorded_by}
use Rattle.ooo_table.proofs.Order.{Now}
use Rattle.ooo_table.proofs.Counts.{now_accessed, now_dispatched}
use Rattle.core_watch.specs.Shown.{Shown, Happened, Committed, events}
use Rattle.core_watch.specs.Items.{items_in, events_among}
use Rattle.core_watch.specs.StageItems.{commit_items}
use Rattle.core_watch.proofs.Items.{events_of_items}
use Rattle.core_watch.proofs.Pieces.{items_split}
use Rattle.core_watch.proofs.Stages.{written_at, written_when, written_tests}
use Rattle.shown_run.specs.Run.{ItemsStay}
use Rattle.shown_run.proofs.Gathered.{gathered, Turned, stays_up_to, stays_stop, stays_cycle}

-- ---- marks of an earlier cycle

pub other_cycle : (x y : ℕ) → x < y → (y == x) ≡ false
other_cycle x y lt = grind (arith, nat_tests)

module _ (x c : ℕ) (lt : x < c) where
  pub same_mark : (m n : Option ℕ) → Now (λ d. d ≡ c) m n → is_at x n ≡ is_at x m
  same_mark m n (inl e) = ap (is_at x) e
  same_mark None None (inr h) = refl
  same_mark None (Some y) (inr (e, i, at)) = other_cycle x y (omega (arith, at, lt))
  same_mark (Some z) n (inr (e, i, at)) = absurd cc

  same_before : (m n : Option ℕ) → Now (λ d. d ≡ c) m n → is_before x n ≡ is_before x m
  same_before m n (inl e) = ap (is_before x) e
  same_before None None (inr h) = refl
  same_before None (Some y) (inr (e, i, at)) = le-ltb y x (omega (arith, at, lt))
  same_before (Some z) n (inr (e, i, at)) = absurd cc

  same_shifted : (k : ℕ) (m n : Option ℕ) → Now (λ d. d ≡ c) m n → is_at x (option_map (λ i. i + k) n) ≡ is_at x (option_map (λ i. i + k) m)
  same_shifted k m n (inl e) = ap (λ o. is_at x (option_map (λ i. i + k) o)) e
  same_shifted k None None (inr h) = refl
  same_shifted k None (Some y) (inr (e, i, at)) = other_cycle x (y + k) (omega (arith, at, lt))
  same_shifted k (Some z) n (inr (e, i, at)) = absurd cc

  same_back : (m n : Option MemoryAccess) → Now (λ (a : MemoryAccess). c ≤ a.back) m n → is_at x (option_map (λ a. a.back) n) ≡ is_at x (option_map (λ a. a.back) m)
  same_back m n (inl e) = ap (λ o. is_at x (option_map (λ a. a.back) o)) e
  same_back None None (inr h) = refl
  same_back None (Some a) (inr (e, i, at)) = other_cycle x a.back (omega (arith, at, lt))
  same_back (Some z) n (inr (e, i, at)) = absurd cc

-- ---- what a row shows of a cycle

module _ (g : Given) (x : ℕ) where
  abbrev commit_shown : ℕ → Row → List Shown
  commit_shown n r =
      cond (is_at x r.committed) (Happened (record { cycle = x; row = n; mark = mark.Committed }) ∷ map Committed (recorded_by g (step_of g.trace r.fetched.state))) []

  abbrev squashed_shown : ℕ → Row → List Event
  squashed_shown n r = event_at x r.squashed mark.Squashed n

  abbrev issued_shown : ℕ → Row → List Event
  issued_shown n r = event_at x r.issued mark.Issued n ++ event_at x (accessed r) mark.Accessed n

  abbrev dispatched_shown : ℕ → Row → List Event
  dispatched_shown n r = event_at x r.dispatched mark.Dispatched n

  abbrev fetched_shown : ℕ → Row → List Event
  fetched_shown n r = event_at x (Some r.fetched.at) (fetch_mark r.fetched) n

  -- lists that are gathered
  abbrev adds : {A : Type 0} → (ℕ → Row → List A) → ℕ → Row → List A → List A
  adds f n r l = l ++ f n r

  commits_gathered : (rows : List Row) → commit_items g x rows ≡ gathered (adds commit_shown) [] rows
  commits_gathered [] = refl
  commits_gathered (r ∷ rows) = ap (λ l. l ++ commit_shown (length rows) r) (commits_gathered rows)

  rows_gathered : (f : ℕ → Row → List Event) (rows : List Row) → by_row f rows ≡ gathered (adds f) [] rows
  rows_gathered f [] = refl
  rows_gathered f (r ∷ rows) = ap (λ l. l ++ f (length rows) r) (rows_gathered f rows)

  module _ (c : ℕ) (lt : x < c) where
    -- a turn of a later cycle changes none of them
    commit_same : (n : ℕ) (r s : Row) → Turned c r s → commit_shown n s ≡ commit_shown n r
    commit_same n r s t =
        ap (λ b. cond b (Happened (record { cycle = x; row = n; mark = mark.Committed }) ∷ map Committed (recorded_by g (step_of g.trace s.fetched.state))) []) (same_mark x c lt r.committed s.committed t.changed.committed)
        ∙ ap (λ w. cond (is_at x r.committed) (Happened (record { cycle = x; row = n; mark = mark.Committed }) ∷ map Committed (recorded_by g (step_of g.trace w.state))) []) t.changed.fetched

    written_mark : (r s : Row) → Turned c r s → is_at x (written (setting_of g) s) ≡ is_at x (written (setting_of g) r)
    written_mark r s t =
        ap (λ w. is_at x (option_map (λ i. i + unit_latency (execution_of (setting_of g) w).unit) s.issued)) t.changed.fetched
        ∙ same_shifted x c lt (unit_latency (execution (setting_of g) r).unit) r.issued s.issued t.changed.issued

    written_same : (n : ℕ) (r s : Row) → Turned c r s → written_at (setting_of g) x n s ≡ written_at (setting_of g) x n r
    written_same n r s t =
        written_tests (setting_of g) x n s
        ∙ (ap (λ b. written_when (setting_of g) x n b (is_at x (returned s)) (is_before x s.squashed)) (written_mark r s t)
        ∙ (ap (λ b. written_when (setting_of g) x n (is_at x (written (setting_of g) r)) b (is_before x s.squashed)) (same_back x c lt r.access s.access t.back)
        ∙ (ap (λ b. written_when (setting_of g) x n (is_at x (written (setting_of g) r)) (is_at x (returned r)) b) (same_before x c lt r.squashed s.squashed t.changed.squashed)
        ∙ sym (written_tests (setting_of g) x n r))))

    at_same : (m m' : Option ℕ) (what : Mark) (n : ℕ) → is_at x m' ≡ is_at x m → event_at x m' what n ≡ event_at x m what n
    at_same m m' what n e = ap (λ b. cond b (record { cycle = x; row = n; mark = what } ∷ []) []) e

    squashed_same : (n : ℕ) (r s : Row) → Turned c r s → squashed_shown n s ≡ squashed_shown n r
    squashed_same n r s t = at_same r.squashed s.squashed mark.Squashed n (same_mark x c lt r.squashed s.squashed t.changed.squashed)

    issued_same : (n : ℕ) (r s : Row) → Turned c r s → issued_shown n s ≡ issued_shown n r
    issued_same n r s t =
        ap (λ l. l ++ event_at x (accessed s) mark.Accessed n) (at_same r.issued s.issued mark.Issued n (same_mark x c lt r.issued s.issued t.changed.issued))
        ∙ ap (λ l. event_at x r.issued mark.Issued n ++ l) (at_same (accessed r) (accessed s) mark.Accessed n (same_mark x c lt (accessed r) (accessed s) (now_accessed c r.access s.access t.changed.access)))

    dispatched_same : (n : ℕ) (r s : Row) → Turned c r s → dispatched_shown n s ≡ dispatched_shown n r
    dispatched_same n r s t = at_same r.dispatched s.dispatched mark.Dispatched n (same_mark x c lt r.dispatched s.dispatched (now_dispatched c r s t.changed))

    fetched_same : (n : ℕ) (r s : Row) → Turned c r s → fetched_shown n s ≡ fetched_shown n r
    fetched_same n r s t = ap (λ w. event_at x (Some w.at) (fetch_mark w) n) t.changed.fetched

    fetched_none : (n : ℕ) (u : NextFetch) (look : Look) (queued : ℕ) → fetched_shown n (fetched_row (setting_of g) c u look queued) ≡ []
    fetched_none n u look queued =
        ap (λ b. cond b (record { cycle = x; row = n; mark = fetch_mark (fetched_row (setting_of g) c u look queued).fetched } ∷ []) []) (other_cycle x c lt)

    -- ---- over rows

    module _ {A : Type 0} (f : ℕ → Row → List A) (same : (n : ℕ) (r s : Row) → Turned c r s → f n s ≡ f n r)
        (none : (n : ℕ) (u : NextFetch) (look : Look) (queued : ℕ) → f n (fetched_row (setting_of g) c u look queued) ≡ []) where
      adds_same : (n : ℕ) (r s : Row) (l : List A) → Turned c r s → adds f n s l ≡ adds f n r l
      adds_same n r s l t = ap (λ e. l ++ e) (same n r s t)

      adds_none : (n : ℕ) (u : NextFetch) (look : Look) (queued : ℕ) (l : List A) → adds f n (fetched_row (setting_of g) c u look queued) l ≡ l
      adds_none n u look queued l = ap (λ e. l ++ e) (none n u look queued) ∙ append-nil l

      list_next : gathered (adds f) [] (table (setting_of g) (suc c)).rows ≡ gathered (adds f) [] (table (setting_of g) c).rows
      list_next = stays_cycle (setting_of g) c (adds f) [] adds_same adds_none

      list_at : (e : Extent) → gathered (adds f) [] (rows_at (setting_of g) e c) ≡ gathered (adds f) [] (table (setting_of g) c).rows
      list_at Whole = refl
      list_at (AtCommit row) = stays_up_to (setting_of g) c (adds f) [] adds_same row
      list_at AtStop = stays_stop (setting_of g) c (adds f) [] adds_same

    module _ (f : ℕ → Row → List Event) (same : (n : ℕ) (r s : Row) → Turned c r s → f n s ≡ f n r)
        (none : (n : ℕ) (u : NextFetch) (look : Look) (queued : ℕ) → f n (fetched_row (setting_of g) c u look queued) ≡ []) where
      rows_next : by_row f (table (setting_of g) (suc c)).rows ≡ by_row f (table (setting_of g) c).rows
      rows_next = rows_gathered f (table (setting_of g) (suc c)).rows ∙ (list_next f same none ∙ sym (rows_gathered f (table (setting_of g) c).rows))

      rows_then : (e : Extent) → by_row f (rows_at (setting_of g) e c) ≡ by_row f (table (setting_of g) c).rows
      rows_then e = rows_gathered f (rows_at (setting_of g) e c) ∙ (list_at f same none e ∙ sym (rows_gathered f (table (setting_of g) c).rows))

    commits_next : commit_items g x (table (setting_of g) (suc c)).rows ≡ commit_items g x (table (setting_of g) c).rows
    commits_next = commits_gathered (table (setting_of g) (suc c)).rows ∙ (list_next commit_shown commit_same (λ n u look queued. refl) ∙ sym (commits_gathered (table (setting_of g) c).rows))

    commits_then : (e : Extent) → commit_items g x (rows_at (setting_of g) e c) ≡ commit_items g x (table (setting_of g) c).rows
    commits_then e = commits_gathered (rows_at (setting_of g) e c) ∙ (list_at commit_shown commit_same (λ n u look queued. refl) e ∙ sym (commits_gathered (table (setting_of g) c).rows))

  -- ---- all that is shown of a cycle, over rows

  abbrev shown_over : List Row → List Shown
  shown_over rows =
      commit_items g x rows
      ++ (events (by_row (written_at (setting_of g) x) rows)
      ++ (events (by_row squashed_shown rows) ++ (events (by_row issued_shown rows) ++ (events (by_row dispatched_shown rows) ++ events (by_row fetched_shown rows)))))

  parts_same : (a a' : List Shown) (w w' s s' i i' d d' f f' : List Event) → a ≡ a' → w ≡ w' → s ≡ s' → i ≡ i' → d ≡ d' → f ≡ f'
      → (a ++ (events w ++ (events s ++ (events i ++ (events d ++ events f))))) ≡ (a' ++ (events w' ++ (events s' ++ (events i' ++ (events d' ++ events f')))))
  parts_same a a' w w' s s' i i' d d' f f' ea ew es ei ed ef = rw (ea, ew, es, ei, ed, ef) refl

  shown_next : (c : ℕ) → x < c → shown_over (table (setting_of g) (suc c)).rows ≡ shown_over (table (setting_of g) c).rows
  shown_next c lt =
      parts_same _ _ _ _ _ _ _ _ _ _ _ _ (commits_next c lt)
      (rows_next c lt (written_at (setting_of g) x) (written_same c lt) (λ n u look queued. refl))
      (rows_next c lt squashed_shown (squashed_same c lt) (λ n u look queued. refl))
      (rows_next c lt issued_shown (issued_same c lt) (λ n u look queued. refl))
      (rows_next c lt dispatched_shown (dispatched_same c lt) (λ n u look queued. refl))
      (rows_next c lt fetched_shown (fetched_same c lt) (fetched_none c lt))

  shown_then : (c : ℕ) → x < c → (e : Extent) → shown_over (rows_at (setting_of g) e c) ≡ shown_over (table (setting_of g) c).rows
  shown_then c lt e =
      parts_same _ _ _ _ _ _ _ _ _ _ _ _ (commits_then c lt e)
      (rows_then c lt (written_at (setting_of g) x) (written_same c lt) (λ n u look queued. refl) e)
      (rows_then c lt squashed_shown (squashed_same c lt) (λ n u look queued. refl) e)
      (rows_then c lt issued_shown (issued_same c lt) (λ n u look queued. refl) e)
      (rows_then c lt dispatched_shown (dispatched_same c lt) (λ n u look queued. refl) e)
      (rows_then c lt fetched_shown (fetched_same c lt) (fetched_none c lt) e)

  shown_later : (k : ℕ) → shown_over (table (setting_of g) (k + suc x)).rows ≡ shown_over (table (setting_of g) (suc x)).rows
  shown_later zero = let none : 0 + suc x ≡ suc x = omega arith in ap (λ n. shown_over (table (setting_of g) n).rows) none
  shown_later (suc k) =
      let next : suc k + suc x ≡ suc (k + suc x) = omega arith in
      ap (λ n. shown_over (table (setting_of g) n).rows) next ∙ (shown_next (k + suc x) (omega arith) ∙ shown_later k)

-- ---- write-backs that have happened

module _ (x n : ℕ) (lt : x < n) (r : Row) where
  happened_same : (m : Option ℕ) → is_at x (happened n r m) ≡ is_at x (happened (suc x) r m)
  happened_same None = refl
  happened_same (Some w) = by_test (w == x) refl
    where
      none : (k : Bool) → (w == x) ≡ false → is_at x (cond k (Some w) None) ≡ false
      none true e = e
      none false e = refl

      same : w ≡ x → nat_lt w n ≡ nat_lt w (suc x)
      same e = lt-ltb w n (omega (arith, e, lt)) ∙ sym (lt-ltb w (suc x) (omega (arith, e)))

      by_test : (t : Bool) → (w == x) ≡ t
          → is_at x (cond (nat_lt w n && unsquashed_before (Some w) r) (Some w) None) ≡ is_at x (cond (nat_lt w (suc x) && unsquashed_before (Some w) r) (Some w) None)
      by_test true e = ap (λ k. is_at x (cond (k && unsquashed_before (Some w) r) (Some w) None)) (same (eqb-true w x e))
      by_test false e = none _ e ∙ sym (none _ e)

module _ (g : Given) (e : Extent) (c x : ℕ) (lt : x < c) where
  within : (e : Extent) → x < recovered_cycles e c
  within Whole = lt
  within (AtCommit row) = lt
  within AtStop = omega (arith, lt)

  writes_same : (n : ℕ) (r : Row)
      → (event_at x (written_by (setting_of g) e c r) mark.Written n ++ event_at x (returned_by (setting_of g) e c r) mark.Returned n) ≡ written_at (setting_of g) x n r
  writes_same n r =
      ap (λ b. cond b (record { cycle = x; row = n; mark = mark.Written } ∷ []) [] ++ event_at x (returned_by (setting_of g) e c r) mark.Returned n)
      (happened_same x (recovered_cycles e c) (within e) r (written (setting_of g) r))
      ∙ ap (λ b. event_at x (happened (suc x) r (written (setting_of g) r)) mark.Written n ++ cond b (record { cycle = x; row = n; mark = mark.Returned } ∷ []) [])
      (happened_same x (recovered_cycles e c) (within e) r (returned r))

  all_writes : (rows : List Row)
      → by_row (λ n r. event_at x (written_by (setting_of g) e c r) mark.Written n ++ event_at x (returned_by (setting_of g) e c r) mark.Returned n) rows ≡ by_row (written_at (setting_of g) x) rows
  all_writes [] = refl
  all_writes (r ∷ rows) =
      ap (λ l. l ++ (event_at x (written_by (setting_of g) e c r) mark.Written (length rows) ++ event_at x (returned_by (setting_of g) e c r) mark.Returned (length rows))) (all_writes rows)
      ∙ ap (λ l. by_row (written_at (setting_of g) x) rows ++ l) (writes_same (length rows) r)

  items_over : items_in g e c x ≡ shown_over g x (rows_at (setting_of g) e c)
  items_over =
      items_split g e c x
      ∙ ap
      (λ l. commit_items g x (rows_at (setting_of g) e c)
      ++ (events l
      ++ (events (by_row (squashed_shown g x) (rows_at (setting_of g) e c))
      ++ (events (by_row (issued_shown g x) (rows_at (setting_of g) e c))
      ++ (events (by_row (dispatched_shown g x) (rows_at (setting_of g) e c)) ++ events (by_row (fetched_shown g x) (rows_at (setting_of g) e c)))))))
      (all_writes (rows_at (setting_of g) e c))

-- ---- the law

pub items_same : (g : Given) (e : Extent) (c x : ℕ) → x < c → items_in g e c x ≡ items_in g Whole (suc x) x
items_same g e c x lt =
    let k : ℕ = c - suc x in
    let at : c ≡ k + suc x = omega (arith, lt) in
    items_over g e c x lt
    ∙ (shown_then g x c lt e
    ∙ (ap (λ n. shown_over g x (table (setting_of g) n).rows) at
    ∙ (shown_later g x k ∙ sym (items_over g Whole (suc x) x (omega arith)))))

pub items_stay : (g : Given) (e : Extent) (c x : ℕ) → ItemsStay g e c x
items_stay g e c x =
    record {
      items = items_same g e c x;
      events = λ lt. sym (events_of_items g e c x) ∙ (ap events_among (items_same g e c x lt) ∙ events_of_items g Whole (suc x) x);
    }
