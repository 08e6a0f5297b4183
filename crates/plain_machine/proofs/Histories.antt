-- The references and predictor events that the rows of a cycle give, stage by stage.
use Rattle.std.proofs.Common.{◌≡◌, ℕ, ◌+◌, ◌<◌, ◌≤◌, Bool, true, false, cond, List, [], ◌∷◌, ◌++◌, Option, Some, None, refl, sym, ap, ◌∙◌, subst, arith}
use Rattle.std.specs.Prelude.{◌&&◌, ◌||◌, ◌==◌, is_none, find, filter_map, option_map}
use Rattle.std.specs.List.{list_any, cons_option}
use Rattle.std.proofs.lemmas.Bool.{cond_both, and_parts}
use Rattle.std.proofs.lemmas.Bool.Decides.{nat_tests}
use Rattle.mem_hier.specs.Replay.{Reference, Fetch, Load, Store}
use Rattle.bpred_unit.specs.History.{Event, LookUp, Update, Recover}
use Rattle.ooo_table.specs.Row.{Row, is_at, accessed, not_forwarded, sweep}
use Rattle.ooo_table.specs.Execution.{address, unit_latency}
use Rattle.ooo_table.specs.Table.{Setting}
use Rattle.ooo_table.specs.Path.{execution, stores, mispredicted}
use Rattle.ooo_table.specs.Done.{written}
use Rattle.ooo_table.specs.Commit.{commit_row}
use Rattle.ooo_table.specs.Recovery.{recovers, squash_row}
use Rattle.ooo_table.specs.References.{store_references, load_references, references_of, updates_of, predictor_events_of}
use Rattle.ooo_table.specs.Issue.{issues, accesses, access_of, issue_row}
use Rattle.ooo_table.specs.Dispatch.{dispatches, dispatch_row}
use Rattle.ooo_table.specs.Cycle.{table, after_commit, after_recover, after_issue, after_dispatch}
use Rattle.ooo_table.specs.Later.{Each}
use Rattle.ooo_table.specs.CycleLaws.{Fresh}
use Rattle.ooo_table.proofs.CycleFacts.{fresh_two}
use Rattle.ooo_table.proofs.Marks.{none_of}
use Rattle.ooo_table.proofs.Quiet.{each_turn}
use Rattle.ooo_table.proofs.Route.{Route, latency_some, recovers_newest, right_stands, route_table, stage_keeps}
use Rattle.ooo_table.proofs.RowFacts.{changed_commit}
use Rattle.ooo_table.proofs.Units.{not_at, not_at_access}
use Rattle.ooo_plain.specs.IssueStage.{NoAccess}
use Rattle.plain_machine.specs.Standing.{RecoversOnce, recoveries}

-- ---- sweeps

pub filter_sweep : {Y : Type 0} (f : Row → Option Y) (g : List Row → Row → Row) → ((before : List Row) (r : Row) → f (g before r) ≡ f r) → (rows : List Row)
    → filter_map f (sweep g rows) ≡ filter_map f rows
filter_sweep f g same [] = refl
filter_sweep f g same (r ∷ rows) = ap (λ o. cons_option o (filter_map f (sweep g rows))) (same (sweep g rows) r) ∙ ap (λ l. cons_option (f r) l) (filter_sweep f g same rows)

pub and_none : (b : Bool) → (b && false) ≡ false
and_none true = refl
and_none false = refl

late : (c n : ℕ) → 1 ≤ n → (c + n == c) ≡ false
late c n h = grind (arith, nat_tests)

module _ (set : Setting) (c : ℕ) where
  abbrev store : Row → Option Reference
  store r = cond (stores set r && is_at c r.committed) (Some (Store (address (execution set r).memory) c)) None

  abbrev load : Row → Option Reference
  load r = cond (is_at c (accessed r) && not_forwarded r.access) (Some (Load (address (execution set r).memory) c)) None

  abbrev fetched : Row → Option Reference
  fetched r = cond ((r.fetched.at == c) && set.is_text r.fetched.pc) (Some (Fetch r.fetched.pc c)) None

  abbrev looked : Row → Option Event
  looked r = cond (r.fetched.at == c) (Some (LookUp r.fetched.pc (set.instruction r.fetched.pc))) None

  abbrev recovered : Row → Option Event
  recovered r = cond (recovers set c r) (Some (Recover r.fetched.top)) None

  abbrev update : Row → Option Event
  update r = cond (is_at c r.committed && (execution set r).control) (Some (Update r.fetched.pc (set.instruction r.fetched.pc) (execution set r).taken (execution set r).next)) None

  -- ---- what a turn leaves

  pub squash_same : {Y : Type 0} (f : Row → Y) → ((r : Row) → f (record r { squashed = Some c }) ≡ f r) → (before : List Row) (r : Row) → f (squash_row set c before r) ≡ f r
  squash_same f same before r =
      cond_both (list_any (recovers set c) before && is_none r.squashed) (record r { squashed = Some c }) r (λ s. f s ≡ f r) (λ _. same r) (λ _. refl)

  pub dispatch_same : {Y : Type 0} (f : Row → Y) → ((r : Row) → f (record r { dispatched = Some c }) ≡ f r) → (before : List Row) (r : Row) → f (dispatch_row set c before r) ≡ f r
  dispatch_same f same before r =
      cond_both (dispatches set c before r) (record r { dispatched = Some c }) r (λ s. f s ≡ f r) (λ _. same r) (λ _. refl)

  pub issue_same : {Y : Type 0} (f : Row → Y) (base : List Reference) (start : List Row)
      → ((before : List Row) (r : Row) → issues set c start before r ≡ true → f (record r { issued = Some c }) ≡ f r)
      → ((before : List Row) (r : Row) → f (record r { access = Some (access_of set c base before r) }) ≡ f r)
      → (before : List Row) (r : Row) → f (issue_row set c base start before r) ≡ f r
  issue_same f base start i a before r =
      cond_both (issues set c start before r) (record r { issued = Some c }) (cond (accesses set c start before r) (record r { access = Some (access_of set c base before r) }) r) (λ s. f s ≡ f r)
      (λ e. i before r e)
      (λ _. cond_both (accesses set c start before r) (record r { access = Some (access_of set c base before r) }) r (λ s. f s ≡ f r) (λ _. a before r) (λ _. refl))

  unissued : (start before : List Row) (r : Row) → issues set c start before r ≡ true → is_none r.issued ≡ true
  unissued start before r h = (and_parts _ _ (and_parts _ _ (and_parts _ _ (and_parts _ _ (and_parts _ _ (and_parts _ _ h).0).0).0).0).0).1

  -- an issue at c doesn't write back at c
  recovered_issue : (start before : List Row) (r : Row) → issues set c start before r ≡ true → recovered (record r { issued = Some c }) ≡ recovered r
  recovered_issue start before r h =
      let new : is_at c (written set (record r { issued = Some c })) ≡ false = late c (unit_latency (execution set r).unit) (latency_some (execution set r).unit) in
      let old : is_at c (written set r) ≡ false = ap (λ m. is_at c (option_map (λ i. i + unit_latency (execution set r).unit) m)) (none_of r.issued (unissued start before r h)) in
      ap (λ b. cond (mispredicted set r && b) (Some (Recover r.fetched.top)) None) (new ∙ sym old)

  -- ---- what isn't of this cycle

  abbrev Earlier : Row → Type 0
  Earlier r = r.fetched.at < c

  no_looks : (rows : List Row) → Each (λ _. Earlier) rows → filter_map looked rows ≡ []
  no_looks [] h = refl
  no_looks (r ∷ rows) h =
      ap (λ b. cons_option (cond b (Some (LookUp r.fetched.pc (set.instruction r.fetched.pc))) None) (filter_map looked rows)) (not_at c (Some r.fetched.at) h.0) ∙ no_looks rows h.1

  no_fetches : (rows : List Row) → Each (λ _. Earlier) rows → filter_map fetched rows ≡ []
  no_fetches [] h = refl
  no_fetches (r ∷ rows) h =
      ap (λ b. cons_option (cond (b && set.is_text r.fetched.pc) (Some (Fetch r.fetched.pc c)) None) (filter_map fetched rows)) (not_at c (Some r.fetched.at) h.0) ∙ no_fetches rows h.1

  no_access : (rows : List Row) → Each (λ _. Fresh c) rows → NoAccess c rows
  no_access [] h = refl
  no_access (r ∷ rows) h = ap (λ b. b || list_any (λ r. is_at c (accessed r)) rows) (not_at_access c r.access h.0.access) ∙ no_access rows h.1

  earlier : (rows : List Row) → Each (λ _. Fresh c) rows → Each (λ _. Earlier) rows
  earlier [] h = tt
  earlier (r ∷ rows) h = (h.0.at, earlier rows h.1)

  -- ---- the recovery

  none_found : (rows : List Row) → find (recovers set c) rows ≡ None → filter_map recovered rows ≡ []
  none_found [] e = refl
  none_found (r ∷ rows) e = by_case (recovers set c r) e (none_found rows)
    where
      by_case : (b : Bool) → cond b (Some r) (find (recovers set c) rows) ≡ None → (find (recovers set c) rows ≡ None → filter_map recovered rows ≡ [])
          → cons_option (cond b (Some (Recover r.fetched.top)) None) (filter_map recovered rows) ≡ []
      by_case true e ih = absurd cc
      by_case false e ih = ih e

  none_any : (rows : List Row) → list_any (recovers set c) rows ≡ false → filter_map recovered rows ≡ []
  none_any [] e = refl
  none_any (r ∷ rows) e = by_case (recovers set c r) e (none_any rows)
    where
      by_case : (b : Bool) → (b || list_any (recovers set c) rows) ≡ false → (list_any (recovers set c) rows ≡ false → filter_map recovered rows ≡ [])
          → cons_option (cond b (Some (Recover r.fetched.top)) None) (filter_map recovered rows) ≡ []
      by_case true e ih = absurd cc
      by_case false e ih = ih e

  is_right : (r : Row) → recovers set c r ≡ true → r.fetched.right ≡ true
  is_right r h = (and_parts _ _ (and_parts _ _ (and_parts _ _ h).0).0).0

  only_one : (rows : List Row) (m : Row) → Each (Route set c) rows → find (recovers set c) rows ≡ Some m → filter_map recovered rows ≡ Recover m.fetched.top ∷ []
  only_one [] m route e = absurd cc
  only_one (r ∷ rows) m route e = by_case (recovers set c r) refl e (only_one rows m route.1)
    where
      off : (b : Bool) → (b ≡ true → ⊥) → b ≡ false
      off true h = absurd (h refl)
      off false h = refl

      by_case : (b : Bool) → recovers set c r ≡ b → cond b (Some r) (find (recovers set c) rows) ≡ Some m
          → (find (recovers set c) rows ≡ Some m → filter_map recovered rows ≡ Recover m.fetched.top ∷ [])
          → cons_option (cond b (Some (Recover r.fetched.top)) None) (filter_map recovered rows) ≡ Recover m.fetched.top ∷ []
      by_case true f e ih =
          let same : r ≡ m = cc in
          let none : filter_map recovered rows ≡ [] = none_any rows (off (list_any (recovers set c) rows) (right_stands set c rows r route.1 route.0 (is_right r f))) in
          ap (λ l. Recover r.fetched.top ∷ l) none ∙ ap (λ (x : Row). Recover x.fetched.top ∷ []) same
      by_case false f e ih = ih e

  once : (rows : List Row) → Each (Route set c) rows → RecoversOnce set c rows (find (recovers set c) rows)
  once rows route = by_find (find (recovers set c) rows) refl
    where
      by_find : (o : Option Row) → find (recovers set c) rows ≡ o → RecoversOnce set c rows o
      by_find None e = none_found rows e
      by_find (Some m) e = ((recovers_newest set c rows m route e).0, only_one rows m route e)

-- ---- of the table

module _ (set : Setting) (c : ℕ) where
  pub recovers_once : 1 ≤ set.config.penalty → RecoversOnce set c (after_commit set c).rows (find (recovers set c) (after_commit set c).rows)
  recovers_once penalty =
      once set c (after_commit set c).rows
      (stage_keeps set c c (commit_row set c) (table set c).rows (table set c).next_fetch (omega arith) (changed_commit set c) (route_table set c penalty)).0

  pub none_accessed : NoAccess c (after_recover set c).rows
  none_accessed = no_access set c (after_recover set c).rows (fresh_two set c)

  pub stores_stay : (base : List Reference) → store_references set c (after_commit set c).rows base ≡ store_references set c (after_recover set c).rows base
  stores_stay base = ap (λ l. l ++ base) (sym (filter_sweep (store set c) (squash_row set c) (squash_same set c (store set c) (λ r. refl)) (after_commit set c).rows))

  abbrev before : List Reference
  before = store_references set c (after_recover set c).rows (after_recover set c).references

  earlier_rows : Each (λ _. Earlier set c) (after_dispatch set c).rows
  earlier_rows =
      each_turn (Earlier set c) (Earlier set c) (dispatch_row set c) (λ b r h. subst (λ n. n < c) (sym (dispatch_same set c (λ s. s.fetched.at) (λ s. refl) b r)) h) (after_issue set c).rows
      (each_turn (Earlier set c) (Earlier set c) (issue_row set c before (after_recover set c).rows)
      (λ b r h. subst (λ n. n < c) (sym (issue_same set c (λ s. s.fetched.at) before (after_recover set c).rows (λ b s e. refl) (λ b s. refl) b r)) h) (after_recover set c).rows
      (earlier set c (after_recover set c).rows (fresh_two set c)))

  -- behind the dispatches the rows give these references and events
  pub references_stand : references_of set c (after_dispatch set c).rows (table set c).references
      ≡ load_references set c (after_issue set c).rows (store_references set c (after_recover set c).rows (table set c).references)
  references_stand =
      joined (table set c).references (no_fetches set c (after_dispatch set c).rows earlier_rows)
      (filter_sweep (load set c) (dispatch_row set c) (dispatch_same set c (load set c) (λ r. refl)) (after_issue set c).rows)
      (filter_sweep (store set c) (dispatch_row set c) (dispatch_same set c (store set c) (λ r. refl)) (after_issue set c).rows
      ∙ filter_sweep (store set c) (issue_row set c before (after_recover set c).rows) (issue_same set c (store set c) before (after_recover set c).rows (λ b r e. refl) (λ b r. refl)) (after_recover set c).rows)
    where
      joined : (base : List Reference) {x y z v w : List Reference} → x ≡ [] → y ≡ v → z ≡ w → x ++ (y ++ (z ++ base)) ≡ v ++ (w ++ base)
      joined base e f h = rw (e, f, h) refl

  pub events_stand : predictor_events_of set c (after_dispatch set c).rows (table set c).predictor_events
      ≡ recoveries set c (after_commit set c).rows ++ updates_of set c (after_commit set c).rows (table set c).predictor_events
  events_stand =
      joined (table set c).predictor_events (no_looks set c (after_dispatch set c).rows earlier_rows)
      (filter_sweep (recovered set c) (dispatch_row set c) (dispatch_same set c (recovered set c) (λ r. refl)) (after_issue set c).rows
      ∙ (filter_sweep (recovered set c) (issue_row set c before (after_recover set c).rows)
      (issue_same set c (recovered set c) before (after_recover set c).rows (λ b r e. recovered_issue set c (after_recover set c).rows b r e) (λ b r. refl)) (after_recover set c).rows
      ∙ filter_sweep (recovered set c) (squash_row set c) (squash_same set c (recovered set c) (λ r. refl)) (after_commit set c).rows))
      (filter_sweep (update set c) (dispatch_row set c) (dispatch_same set c (update set c) (λ r. refl)) (after_issue set c).rows
      ∙ (filter_sweep (update set c) (issue_row set c before (after_recover set c).rows) (issue_same set c (update set c) before (after_recover set c).rows (λ b r e. refl) (λ b r. refl)) (after_recover set c).rows
      ∙ filter_sweep (update set c) (squash_row set c) (squash_same set c (update set c) (λ r. refl)) (after_commit set c).rows))
    where
      joined : (base : List Event) {x y z v w : List Event} → x ≡ [] → y ≡ v → z ≡ w → x ++ (y ++ (z ++ base)) ≡ v ++ (w ++ base)
      joined base e f h = rw (e, f, h) refl
