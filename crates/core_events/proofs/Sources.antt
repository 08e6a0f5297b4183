-- Each squash is of a recovery of a row before, when all rows before were there.
use Rattle.std.proofs.Common.{◌≡◌, ℕ, zero, suc, ◌+◌, ◌<◌, Bool, true, false, List, [], ◌∷◌, Option, Some, None, refl, sym, ap, ◌∙◌, subst, inl, inr}
use Rattle.std.specs.Prelude.{◌&&◌, ◌||◌, ◌⊎◌, is_none}
use Rattle.std.specs.List.{AllZip, list_any}
use Rattle.std.proofs.lemmas.Bool.{cond_both, and_parts}
use Rattle.mem_hier.specs.Replay.{Reference}
use Rattle.ooo_table.specs.Row.{Fetched, Row, is_at, sweep}
use Rattle.ooo_table.specs.Execution.{unit_latency}
use Rattle.ooo_table.specs.Table.{Setting, Table}
use Rattle.ooo_table.specs.Path.{execution, mispredicted}
use Rattle.ooo_table.specs.Done.{written}
use Rattle.ooo_table.specs.Commit.{commits, commit_row}
use Rattle.ooo_table.specs.Recovery.{recovers, squash_row}
use Rattle.ooo_table.specs.References.{store_references}
use Rattle.ooo_table.specs.Issue.{issues, accesses, access_of, issue_row}
use Rattle.ooo_table.specs.Dispatch.{dispatches, dispatch_row}
use Rattle.ooo_table.specs.Fetch.{may_fetch, fetch_one, fetch_up_to}
use Rattle.ooo_table.specs.Cycle.{table, after_commit, after_recover, after_issue, after_dispatch}
use Rattle.ooo_table.specs.Later.{Each, Where, Past}
use Rattle.ooo_table.proofs.Counts.{past_table}
use Rattle.ooo_table.proofs.Order.{Changed}
use Rattle.ooo_table.proofs.Route.{written_now}
use Rattle.ooo_table.proofs.RowFacts.{sweep_keeps, changed_commit, changed_squash, changed_issue, changed_dispatch}

-- rows that were fetched before x
abbrev pub Earlier : ℕ → List Row → Type 0
Earlier x rows = Each (λ _ o. o.fetched.at < x) rows

before_stays : (c x : ℕ) (older before : List Row) → AllZip (Changed c) older before → Earlier x older → Earlier x before
before_stays c x [] [] zip h = tt
before_stays c x (o ∷ older) (o' ∷ before) zip h = (subst (λ (w : Fetched). w.at < x) (sym zip.0.fetched) h.0, before_stays c x older before zip.1 h.1)
before_stays c x [] (o' ∷ before) zip h = absurd zip
before_stays c x (o ∷ older) [] zip h = absurd zip

module _ (set : Setting) where
  -- the row is unsquashed, or a row before it recovered then
  abbrev pub Sourced : List Row → Row → Type 0
  Sourced older r = Where r.squashed (λ x. (list_any (recovers set x) older ≡ true) × Earlier x older)

  -- a recovery stays
  recovers_stays : (c x : ℕ) (o o' : Row) → Changed c o o' → recovers set x o ≡ true → recovers set x o' ≡ true
  recovers_stays c x o o' ch h = by_mark (written_now set c o o' ch)
    where
      parts : (mispredicted set o ≡ true) × (is_at x (written set o) ≡ true)
      parts = and_parts (mispredicted set o) (is_at x (written set o)) h

      missed : mispredicted set o' ≡ true
      missed = ap (λ (w : Fetched). mispredicted set (record o { fetched = w })) ch.fetched ∙ parts.0

      unset : (m : Option ℕ) → m ≡ None → is_at x m ≡ true → ⊥
      unset None e k = cc
      unset (Some t) e k = cc

      both : (a b : Bool) → a ≡ true → b ≡ true → (a && b) ≡ true
      both a b e f = rw (e, f) refl

      by_mark : (written set o' ≡ written set o) ⊎ ((written set o ≡ None) × (written set o' ≡ Some (c + unit_latency (execution set o).unit))) → recovers set x o' ≡ true
      by_mark (inl e) = both (mispredicted set o') (is_at x (written set o')) missed (ap (is_at x) e ∙ parts.1)
      by_mark (inr (e, f)) = absurd (unset (written set o) e parts.1)

  any_stays : (c x : ℕ) (older before : List Row) → AllZip (Changed c) older before → list_any (recovers set x) older ≡ true → list_any (recovers set x) before ≡ true
  any_stays c x [] [] zip h = h
  any_stays c x (o ∷ older) (o' ∷ before) zip h = by_test (recovers set x o) refl h (λ k. any_stays c x older before zip.1 k)
    where
      first : (a b : Bool) → a ≡ true → (a || b) ≡ true
      first a b e = rw e refl

      second : (a b : Bool) → b ≡ true → (a || b) ≡ true
      second true b e = refl
      second false b e = e

      by_test : (b : Bool) → recovers set x o ≡ b → (b || list_any (recovers set x) older) ≡ true
          → (list_any (recovers set x) older ≡ true → list_any (recovers set x) before ≡ true) → (recovers set x o' || list_any (recovers set x) before) ≡ true
      by_test true e k ih = first (recovers set x o') (list_any (recovers set x) before) (recovers_stays c x o o' zip.0 e)
      by_test false e k ih = second (recovers set x o') (list_any (recovers set x) before) (ih k)
  any_stays c x [] (o' ∷ before) zip h = absurd zip
  any_stays c x (o ∷ older) [] zip h = absurd zip

  source_stays : (c : ℕ) (older before : List Row) → AllZip (Changed c) older before → (m : Option ℕ)
      → Where m (λ x. (list_any (recovers set x) older ≡ true) × Earlier x older) → Where m (λ x. (list_any (recovers set x) before ≡ true) × Earlier x before)
  source_stays c older before zip None h = tt
  source_stays c older before zip (Some x) h = (any_stays c x older before zip h.0, before_stays c x older before zip h.1)

  -- a turn that leaves squashes as they are
  source_turn : (c : ℕ) (older before : List Row) (r s : Row) → AllZip (Changed c) older before → s.squashed ≡ r.squashed → Sourced older r → Sourced before s
  source_turn c older before r s zip e h =
      subst (λ m. Where m (λ x. (list_any (recovers set x) before ≡ true) × Earlier x before)) (sym e) (source_stays c older before zip r.squashed h)

  -- and in cycle c all rows were fetched before, so far
  abbrev Old : ℕ → List Row → Row → Type 0
  Old c older r = Sourced older r × (r.fetched.at < c)

  early : (c : ℕ) (rows : List Row) → Each (Old c) rows → Earlier c rows
  early c [] h = tt
  early c (r ∷ rows) h = (h.0.1, early c rows h.1)

  still : (c : ℕ) (f : List Row → Row → Row) → ((before : List Row) (r : Row) → Changed c r (f before r)) → ((before : List Row) (r : Row) → (f before r).squashed ≡ r.squashed)
      → (rows : List Row) → Each (Old c) rows → Each (Old c) (sweep f rows)
  still c f changed same rows h =
      (sweep_keeps (Old c) (Changed c) f changed
      (λ older before r zip below k.
      (source_turn c older before r (f before r) zip (same before r) k.0, subst (λ (w : Fetched). w.at < c) (sym (changed before r).fetched) k.1)) rows h).1

  squashes : (c : ℕ) (rows : List Row) → Each (Old c) rows → Each (Old c) (sweep (squash_row set c) rows)
  squashes c rows h =
      (sweep_keeps (Old c) (Changed c) (squash_row set c) (changed_squash set c)
      (λ older before r zip below k.
      (turn older before r zip below k, subst (λ (w : Fetched). w.at < c) (sym (changed_squash set c before r).fetched) k.1)) rows h).1
    where
      turn : (older before : List Row) (r : Row) → AllZip (Changed c) older before → Each (Old c) before → Old c older r → Sourced before (squash_row set c before r)
      turn older before r zip below k =
          cond_both (list_any (recovers set c) before && is_none r.squashed) (record r { squashed = Some c }) r (Sourced before)
          (λ e. ((and_parts (list_any (recovers set c) before) (is_none r.squashed) e).0, early c before below))
          (λ _. source_turn c older before r r zip refl k.0)

  commit_squash : (c : ℕ) (before : List Row) (r : Row) → (commit_row set c before r).squashed ≡ r.squashed
  commit_squash c before r = cond_both (commits set c before r) (record r { committed = Some c }) r (λ s. s.squashed ≡ r.squashed) (λ _. refl) (λ _. refl)

  issue_squash : (c : ℕ) (base : List Reference) (start before : List Row) (r : Row) → (issue_row set c base start before r).squashed ≡ r.squashed
  issue_squash c base start before r =
      cond_both (issues set c start before r) (record r { issued = Some c }) _ (λ s. s.squashed ≡ r.squashed) (λ _. refl)
      (λ _. cond_both (accesses set c start before r) (record r { access = Some (access_of set c base before r) }) r (λ s. s.squashed ≡ r.squashed) (λ _. refl) (λ _. refl))

  dispatch_squash : (c : ℕ) (before : List Row) (r : Row) → (dispatch_row set c before r).squashed ≡ r.squashed
  dispatch_squash c before r = cond_both (dispatches set c before r) (record r { dispatched = Some c }) r (λ s. s.squashed ≡ r.squashed) (λ _. refl) (λ _. refl)

  with_past : (c : ℕ) (rows : List Row) → Each Sourced rows → Each (λ _. Past c) rows → Each (Old c) rows
  with_past c [] s h = tt
  with_past c (r ∷ rows) s h = ((s.0, h.0.fetched), with_past c rows s.1 h.1)

  sources_alone : (c : ℕ) (rows : List Row) → Each (Old c) rows → Each Sourced rows
  sources_alone c [] h = tt
  sources_alone c (r ∷ rows) h = (h.0.0, sources_alone c rows h.1)

  fetched_sources : (n c : ℕ) (t : Table) → Each Sourced t.rows → Each Sourced (fetch_up_to set n c t).rows
  fetched_sources zero c t h = h
  fetched_sources (suc n) c t h =
      cond_both (may_fetch set c t) (fetch_up_to set n c (fetch_one set c t)) t (λ u. Each Sourced u.rows) (λ _. fetched_sources n c (fetch_one set c t) (tt, h)) (λ _. h)

  old_commit : (c : ℕ) → Each Sourced (table set c).rows → Each (Old c) (after_commit set c).rows
  old_commit c h = still c (commit_row set c) (changed_commit set c) (commit_squash c) (table set c).rows (with_past c (table set c).rows h (past_table set c))

  sources_table : (c : ℕ) → Each Sourced (table set c).rows
  sources_table zero = tt
  sources_table (suc c) =
      let base : List Reference = store_references set c (after_recover set c).rows (after_recover set c).references in
      let start : List Row = (after_recover set c).rows in
      let one : Each (Old c) (after_commit set c).rows = old_commit c (sources_table c) in
      let two : Each (Old c) (after_recover set c).rows = squashes c (after_commit set c).rows one in
      let three : Each (Old c) (after_issue set c).rows = still c (issue_row set c base start) (changed_issue set c base start) (issue_squash c base start) start two in
      let four : Each (Old c) (after_dispatch set c).rows = still c (dispatch_row set c) (changed_dispatch set c) (dispatch_squash c) (after_issue set c).rows three in
      fetched_sources set.config.decode c (after_dispatch set c) (sources_alone c (after_dispatch set c).rows four)

  pub sources_commit : (c : ℕ) → Each Sourced (after_commit set c).rows
  sources_commit c = sources_alone c (after_commit set c).rows (old_commit c (sources_table c))
