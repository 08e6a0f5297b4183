-- The marks that a stage sets stay, and no later stage of the cycle adds to them.
use Rattle.std.proofs.Common.{◌≡◌, ℕ, zero, suc, ◌+◌, ◌≤◌, Bool, true, false, cond, List, [], ◌∷◌, ◌++◌, Option, Some, None, refl, sym, ap, ◌∙◌, arith, length, append-nil}
use Rattle.std.specs.Prelude.{◌&&◌, ◌==◌, not, nat_lt, is_none, map, option_map}
use Rattle.std.specs.List.{list_any}
use Rattle.std.proofs.lemmas.Bool.{cond_both, and_parts, eqb-true, le-ltb}
use Rattle.std.proofs.lemmas.Bool.Decides.{nat_tests}
use Rattle.sim_safe.specs.Step.{step_of}
use Rattle.mem_hier.specs.Replay.{Reference, Load}
use Rattle.mem_hier.proofs.LawProofs.{bounds}
use Rattle.bpred_unit.specs.declared.predictor.Look.{Look}
use Rattle.ooo_table.specs.declared.event.Mark.{Mark}
use Rattle.ooo_table.specs.declared.event.Mark.TheVariants as mark
use Rattle.ooo_table.specs.declared.event.Event.{Event}
use Rattle.ooo_table.specs.Row.{Row, is_at, is_before, accessed, returned, sweep}
use Rattle.ooo_table.specs.Execution.{unit_latency, address}
use Rattle.ooo_table.specs.Table.{Setting, NextFetch, Table}
use Rattle.ooo_table.specs.Path.{execution}
use Rattle.ooo_table.specs.Done.{written}
use Rattle.ooo_table.specs.Recovery.{recovers, squash_row}
use Rattle.ooo_table.specs.References.{store_references, load_references, references_of, predictor_events_of}
use Rattle.ooo_table.specs.Issue.{issues, accesses, access_of, is_forwarded, issue_row}
use Rattle.ooo_table.specs.Dispatch.{dispatches, dispatch_row}
use Rattle.ooo_table.specs.Fetch.{may_fetch, queue_cycle, fetched_row, fetch_one, fetch_up_to}
use Rattle.ooo_table.specs.Bound.{Rises}
use Rattle.ooo_table.specs.Cycle.{table, after_commit, after_recover, after_issue, after_dispatch}
use Rattle.ooo_table.specs.Ends.{happened}
use Rattle.ooo_table.specs.Events.{by_row, event_at}
use Rattle.ooo_table.specs.Machine.{Given, setting_of}
use Rattle.ooo_table.specs.MachineLaws.{IsSound}
use Rattle.ooo_table.specs.RunLaws.{recorded_by}
use Rattle.ooo_table.proofs.Marks.{none_of}
use Rattle.ooo_table.proofs.Route.{latency_some}
use Rattle.ooo_table.proofs.Rising.{rises_stores, rises_loads, rises_table}
use Rattle.core_watch.specs.Shown.{Shown, Happened, Committed}
use Rattle.core_watch.specs.StageItems.{commit_items, written_events, squashed_events, issued_events, dispatched_events}

pub swept_length : (f : List Row → Row → Row) (rows : List Row) → length (sweep f rows) ≡ length rows
swept_length f [] = refl
swept_length f (r ∷ rows) = ap (λ n. suc n) (swept_length f rows)

-- ---- lists over rows

-- a list over rows by their numbers, the oldest row first
abbrev listed : {A : Type 0} → (ℕ → Row → List A) → List Row → List A
listed f [] = []
listed f (r ∷ older) = listed f older ++ f (length older) r

by_row_listed : (f : ℕ → Row → List Event) (rows : List Row) → by_row f rows ≡ listed f rows
by_row_listed f [] = refl
by_row_listed f (r ∷ rows) = ap (λ l. l ++ f (length rows) r) (by_row_listed f rows)

-- what a commit shows
abbrev committed_at : Given → ℕ → ℕ → Row → List Shown
committed_at g c n r =
    cond (is_at c r.committed) (Happened (record { cycle = c; row = n; mark = mark.Committed }) ∷ map Committed (recorded_by g (step_of g.trace r.fetched.state))) []

commits_listed : (g : Given) (c : ℕ) (rows : List Row) → commit_items g c rows ≡ listed (committed_at g c) rows
commits_listed g c [] = refl
commits_listed g c (r ∷ rows) = ap (λ l. l ++ committed_at g c (length rows) r) (commits_listed g c rows)

-- a sweep leaves a list to which its turns add nothing
listed_sweep : {A : Type 0} (f : ℕ → Row → List A) (turn : List Row → Row → Row) → ((n : ℕ) (before : List Row) (r : Row) → f n (turn before r) ≡ f n r)
    → (rows : List Row) → listed f (sweep turn rows) ≡ listed f rows
listed_sweep f turn same [] = refl
listed_sweep f turn same (r ∷ rows) =
    ap (λ l. l ++ f (length (sweep turn rows)) (turn (sweep turn rows) r)) (listed_sweep f turn same rows)
    ∙ (ap (λ n. listed f rows ++ f n (turn (sweep turn rows) r)) (swept_length turn rows)
    ∙ ap (λ l. listed f rows ++ l) (same (length rows) (sweep turn rows) r))

module _ (set : Setting) where
  -- and fetches leave one in which a new row has nothing
  listed_fetches : {A : Type 0} (f : ℕ → Row → List A) (c : ℕ) → ((n : ℕ) (u : NextFetch) (look : Look) (queued : ℕ) → f n (fetched_row set c u look queued) ≡ [])
      → (n : ℕ) (t : Table) → listed f (fetch_up_to set n c t).rows ≡ listed f t.rows
  listed_fetches f c none zero t = refl
  listed_fetches {A = A} f c none (suc n) t =
      cond_both (may_fetch set c t) (fetch_up_to set n c (fetch_one set c t)) t (λ u. listed f u.rows ≡ listed f t.rows)
      (λ _. listed_fetches f c none n (fetch_one set c t)
      ∙ (ap (λ l. listed f t.rows ++ l) (none (length t.rows) t.next_fetch (set.look t.next_fetch.pc (predictor_events_of set c t.rows t.predictor_events)) (queue_cycle set c t.next_fetch.pc (references_of set c t.rows t.references))) ∙ append-nil (listed f t.rows)))
      (λ _. refl)

  -- ---- turns

  squash_turn : (c : ℕ) (P : Row → Type 0) (before : List Row) (r : Row) → (r.squashed ≡ None → P (record r { squashed = Some c })) → P r → P (squash_row set c before r)
  squash_turn c P before r f h =
      cond_both (list_any (recovers set c) before && is_none r.squashed) (record r { squashed = Some c }) r P
      (λ e. f (none_of r.squashed (and_parts (list_any (recovers set c) before) (is_none r.squashed) e).1)) (λ _. h)

  dispatch_turn : (c : ℕ) (P : Row → Type 0) (before : List Row) (r : Row) → P (record r { dispatched = Some c }) → P r → P (dispatch_row set c before r)
  dispatch_turn c P before r f h = cond_both (dispatches set c before r) (record r { dispatched = Some c }) r P (λ _. f) (λ _. h)

  issue_turn : (c : ℕ) (base : List Reference) (start : List Row) (P : Row → Type 0) (before : List Row) (r : Row)
      → (r.issued ≡ None → P (record r { issued = Some c })) → (r.access ≡ None → P (record r { access = Some (access_of set c base before r) })) → P r
      → P (issue_row set c base start before r)
  issue_turn c base start P before r f k h =
      cond_both (issues set c start before r) (record r { issued = Some c }) _ P (λ e. f (unissued e))
      (λ _. cond_both (accesses set c start before r) (record r { access = Some (access_of set c base before r) }) r P (λ e. k (unread e)) (λ _. h))
    where
      unissued : issues set c start before r ≡ true → r.issued ≡ None
      unissued e = grind (arith, none_of, and_parts)

      unread : accesses set c start before r ≡ true → r.access ≡ None
      unread e = grind (arith, none_of, and_parts)

-- ---- write-backs of the cycle

not_now : (c n : ℕ) → suc c ≤ n → (n == c) ≡ false
not_now c n le = grind (arith, nat_tests)

-- one event, or none
abbrev pub when : Bool → ℕ → ℕ → Mark → List Event
when b c n what = cond b (record { cycle = c; row = n; mark = what } ∷ []) []

-- a mark of the cycle has happened in it where the row wasn't squashed before
pub happened_now : (c : ℕ) (r : Row) (m : Option ℕ) → is_at c (happened (suc c) r m) ≡ (is_at c m && not (is_before c r.squashed))
happened_now c r None = refl
happened_now c r (Some w) = by_test (w == c) refl
  where
    within : nat_lt c (suc c) ≡ true
    within = grind (arith, nat_tests)

    itself : (c == c) ≡ true
    itself = grind (arith, nat_tests)

    by_squash : (x b : Bool) → b ≡ true → is_at c (cond (b && x) (Some c) None) ≡ (true && x)
    by_squash true true e = itself
    by_squash false true e = refl
    by_squash x false e = absurd cc

    here : w ≡ c → is_at c (cond (nat_lt w (suc c) && not (is_before w r.squashed)) (Some w) None) ≡ (true && not (is_before c r.squashed))
    here e = rw e (by_squash (not (is_before c r.squashed)) (nat_lt c (suc c)) within)

    elsewhere : (b : Bool) → (w == c) ≡ false → is_at c (cond b (Some w) None) ≡ false
    elsewhere true e = e
    elsewhere false e = refl

    by_test : (b : Bool) → (w == c) ≡ b → is_at c (cond (nat_lt w (suc c) && not (is_before w r.squashed)) (Some w) None) ≡ (b && not (is_before c r.squashed))
    by_test true e = here (eqb-true w c e)
    by_test false e = elsewhere (nat_lt w (suc c) && not (is_before w r.squashed)) e

module _ (set : Setting) (c : ℕ) where
  -- what a row's write-back and return show
  abbrev pub written_at : ℕ → Row → List Event
  written_at n r = event_at c (happened (suc c) r (written set r)) mark.Written n ++ event_at c (happened (suc c) r (returned r)) mark.Returned n

  abbrev pub written_when : ℕ → Bool → Bool → Bool → List Event
  written_when n w m s = when (w && not s) c n mark.Written ++ when (m && not s) c n mark.Returned

  pub written_tests : (n : ℕ) (r : Row) → written_at n r ≡ written_when n (is_at c (written set r)) (is_at c (returned r)) (is_before c r.squashed)
  written_tests n r =
      ap (λ b. when b c n mark.Written ++ event_at c (happened (suc c) r (returned r)) mark.Returned n) (happened_now c r (written set r))
      ∙ ap (λ b. when (is_at c (written set r) && not (is_before c r.squashed)) c n mark.Written ++ when b c n mark.Returned) (happened_now c r (returned r))

  written_same : (n : ℕ) (r s : Row) → is_at c (written set s) ≡ is_at c (written set r) → is_at c (returned s) ≡ is_at c (returned r) → is_before c s.squashed ≡ is_before c r.squashed
      → written_at n s ≡ written_at n r
  written_same n r s e f h =
      written_tests n s
      ∙ (ap (λ b. written_when n b (is_at c (returned s)) (is_before c s.squashed)) e
      ∙ (ap (λ b. written_when n (is_at c (written set r)) b (is_before c s.squashed)) f
      ∙ (ap (λ b. written_when n (is_at c (written set r)) (is_at c (returned r)) b) h
      ∙ sym (written_tests n r))))

  not_before_itself : nat_lt c c ≡ false
  not_before_itself = le-ltb c c (omega arith)

  written_squash : (n : ℕ) (before : List Row) (r : Row) → written_at n (squash_row set c before r) ≡ written_at n r
  written_squash n before r =
      squash_turn set c (λ s. written_at n s ≡ written_at n r) before r
      (λ e. written_same n r (record r { squashed = Some c }) refl refl (not_before_itself ∙ sym (ap (is_before c) e))) refl

  written_dispatch : (n : ℕ) (before : List Row) (r : Row) → written_at n (dispatch_row set c before r) ≡ written_at n r
  written_dispatch n before r = dispatch_turn set c (λ s. written_at n s ≡ written_at n r) before r refl refl

  module _ (slow : (a : ℕ) (h : List Reference) → Rises c h → 1 ≤ set.latency (Load a c) h) (base : List Reference) (rising : Rises c base) (start : List Row) where
    late_back : (before : List Row) (r : Row) → is_at c (Some (access_of set c base before r).back) ≡ false
    late_back before r = by_forward (is_forwarded set before r)
      where
        by_forward : (b : Bool) → ((c + cond b 1 (set.latency (Load (address (execution set r).memory) c) (load_references set c before base))) == c) ≡ false
        by_forward true = not_now c (c + 1) (omega arith)
        by_forward false =
            not_now c (c + set.latency (Load (address (execution set r).memory) c) (load_references set c before base))
            (omega (arith, slow (address (execution set r).memory) (load_references set c before base) (rises_loads set c before base rising)))

    written_issue : (n : ℕ) (before : List Row) (r : Row) → written_at n (issue_row set c base start before r) ≡ written_at n r
    written_issue n before r =
        issue_turn set c base start (λ s. written_at n s ≡ written_at n r) before r
        (λ e. written_same n r (record r { issued = Some c })
        (not_now c (c + unit_latency (execution set r).unit) (omega (arith, latency_some (execution set r).unit)) ∙ sym (ap (λ m. is_at c (option_map (λ i. i + unit_latency (execution set r).unit) m)) e)) refl refl)
        (λ e. written_same n r (record r { access = Some (access_of set c base before r) }) refl
        (late_back before r ∙ sym (ap (λ m. is_at c (option_map (λ a. a.back) m)) e)) refl)
        refl

-- ---- the stages

-- what is shown of the rows at the end of a cycle, by stage
pub record ShowsStages (g : Given) (c : ℕ) (rows : List Row) : Type 0 where
  pub commits : commit_items g c rows ≡ commit_items g c (after_commit (setting_of g) c).rows
  pub written : written_events g c rows ≡ written_events g c (after_commit (setting_of g) c).rows
  pub squashes : squashed_events g c rows ≡ squashed_events g c (after_recover (setting_of g) c).rows
  pub issues : issued_events g c rows ≡ issued_events g c (after_issue (setting_of g) c).rows
  pub dispatches : dispatched_events g c rows ≡ dispatched_events g c (after_dispatch (setting_of g) c).rows

module _ (g : Given) (sound : IsSound g) (c : ℕ) where
  abbrev start : List Row
  start = (after_recover (setting_of g) c).rows

  abbrev base : List Reference
  base = store_references (setting_of g) c start (after_recover (setting_of g) c).references

  slow : (a : ℕ) (h : List Reference) → Rises c h → 1 ≤ (setting_of g).latency (Load a c) h
  slow a h r = (bounds g.hier h a c sound.hier r.rise r.last).load.least

  rising : Rises c base
  rising = rises_stores (setting_of g) c start (after_recover (setting_of g) c).references (rises_table (setting_of g) sound.rise c)

  over_squash : {A : Type 0} (f : ℕ → Row → List A) → ((n : ℕ) (before : List Row) (r : Row) → f n (squash_row (setting_of g) c before r) ≡ f n r)
      → listed f (after_recover (setting_of g) c).rows ≡ listed f (after_commit (setting_of g) c).rows
  over_squash f same = listed_sweep f (squash_row (setting_of g) c) same (after_commit (setting_of g) c).rows

  over_issue : {A : Type 0} (f : ℕ → Row → List A) → ((n : ℕ) (before : List Row) (r : Row) → f n (issue_row (setting_of g) c base start before r) ≡ f n r)
      → listed f (after_issue (setting_of g) c).rows ≡ listed f (after_recover (setting_of g) c).rows
  over_issue f same = listed_sweep f (issue_row (setting_of g) c base start) same start

  over_dispatch : {A : Type 0} (f : ℕ → Row → List A) → ((n : ℕ) (before : List Row) (r : Row) → f n (dispatch_row (setting_of g) c before r) ≡ f n r)
      → listed f (after_dispatch (setting_of g) c).rows ≡ listed f (after_issue (setting_of g) c).rows
  over_dispatch f same = listed_sweep f (dispatch_row (setting_of g) c) same (after_issue (setting_of g) c).rows

  over_fetch : {A : Type 0} (f : ℕ → Row → List A) → ((n : ℕ) (u : NextFetch) (look : Look) (queued : ℕ) → f n (fetched_row (setting_of g) c u look queued) ≡ [])
      → listed f (table (setting_of g) (suc c)).rows ≡ listed f (after_dispatch (setting_of g) c).rows
  over_fetch f none = listed_fetches (setting_of g) f c none g.config.decode (after_dispatch (setting_of g) c)

  commit_squash : (n : ℕ) (before : List Row) (r : Row) → committed_at g c n (squash_row (setting_of g) c before r) ≡ committed_at g c n r
  commit_squash n before r = squash_turn (setting_of g) c (λ s. committed_at g c n s ≡ committed_at g c n r) before r (λ _. refl) refl

  commit_issue : (n : ℕ) (before : List Row) (r : Row) → committed_at g c n (issue_row (setting_of g) c base start before r) ≡ committed_at g c n r
  commit_issue n before r = issue_turn (setting_of g) c base start (λ s. committed_at g c n s ≡ committed_at g c n r) before r (λ _. refl) (λ _. refl) refl

  commit_dispatch : (n : ℕ) (before : List Row) (r : Row) → committed_at g c n (dispatch_row (setting_of g) c before r) ≡ committed_at g c n r
  commit_dispatch n before r = dispatch_turn (setting_of g) c (λ s. committed_at g c n s ≡ committed_at g c n r) before r refl refl

  abbrev squashed_at : ℕ → Row → List Event
  squashed_at n r = event_at c r.squashed mark.Squashed n

  abbrev issued_at : ℕ → Row → List Event
  issued_at n r = event_at c r.issued mark.Issued n ++ event_at c (accessed r) mark.Accessed n

  abbrev dispatched_at : ℕ → Row → List Event
  dispatched_at n r = event_at c r.dispatched mark.Dispatched n

  -- by_row as a list
  events_same : (f : ℕ → Row → List Event) (rows rows' : List Row) → listed f rows ≡ listed f rows' → by_row f rows ≡ by_row f rows'
  events_same f rows rows' e = by_row_listed f rows ∙ (e ∙ sym (by_row_listed f rows'))

  commits_same : (rows rows' : List Row) → listed (committed_at g c) rows ≡ listed (committed_at g c) rows' → commit_items g c rows ≡ commit_items g c rows'
  commits_same rows rows' e = commits_listed g c rows ∙ (e ∙ sym (commits_listed g c rows'))

  pub stages_dispatched : ShowsStages g c (after_dispatch (setting_of g) c).rows
  stages_dispatched =
      record {
        commits = commits_same (after_dispatch (setting_of g) c).rows (after_commit (setting_of g) c).rows (over_dispatch (committed_at g c) commit_dispatch ∙ (over_issue (committed_at g c) commit_issue ∙ over_squash (committed_at g c) commit_squash));
        written =
            events_same (written_at (setting_of g) c) (after_dispatch (setting_of g) c).rows (after_commit (setting_of g) c).rows
            (over_dispatch (written_at (setting_of g) c) (written_dispatch (setting_of g) c)
            ∙ (over_issue (written_at (setting_of g) c) (written_issue (setting_of g) c slow base rising start)
            ∙ over_squash (written_at (setting_of g) c) (written_squash (setting_of g) c)));
        squashes =
            events_same squashed_at (after_dispatch (setting_of g) c).rows (after_recover (setting_of g) c).rows
            (over_dispatch squashed_at (λ n before r. dispatch_turn (setting_of g) c (λ s. squashed_at n s ≡ squashed_at n r) before r refl refl)
            ∙ over_issue squashed_at (λ n before r. issue_turn (setting_of g) c base start (λ s. squashed_at n s ≡ squashed_at n r) before r (λ _. refl) (λ _. refl) refl));
        issues =
            events_same issued_at (after_dispatch (setting_of g) c).rows (after_issue (setting_of g) c).rows
            (over_dispatch issued_at (λ n before r. dispatch_turn (setting_of g) c (λ s. issued_at n s ≡ issued_at n r) before r refl refl));
        dispatches = refl;
      }

  pub stages_whole : ShowsStages g c (table (setting_of g) (suc c)).rows
  stages_whole =
      record {
        commits = commits_same (table (setting_of g) (suc c)).rows (after_dispatch (setting_of g) c).rows (over_fetch (committed_at g c) (λ n u look queued. refl)) ∙ stages_dispatched.commits;
        written = events_same (written_at (setting_of g) c) (table (setting_of g) (suc c)).rows (after_dispatch (setting_of g) c).rows (over_fetch (written_at (setting_of g) c) (λ n u look queued. refl)) ∙ stages_dispatched.written;
        squashes = events_same squashed_at (table (setting_of g) (suc c)).rows (after_dispatch (setting_of g) c).rows (over_fetch squashed_at (λ n u look queued. refl)) ∙ stages_dispatched.squashes;
        issues = events_same issued_at (table (setting_of g) (suc c)).rows (after_dispatch (setting_of g) c).rows (over_fetch issued_at (λ n u look queued. refl)) ∙ stages_dispatched.issues;
        dispatches = events_same dispatched_at (table (setting_of g) (suc c)).rows (after_dispatch (setting_of g) c).rows (over_fetch dispatched_at (λ n u look queued. refl));
      }
