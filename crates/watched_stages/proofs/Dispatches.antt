-- The turns of the dispatch stage under a watch.
use Rattle.std.proofs.Common.{◌≡◌, ℕ, suc, ◌≤◌, Bool, true, false, cond, List, [], ◌∷◌, ◌++◌, Some, refl, sym, ap, ◌∙◌, subst, arith, inl, length, length-append, append-nil, append_assoc, eq-eqb}
use Rattle.std.specs.Prelude.{◌||◌, count_by}
use Rattle.std.proofs.lemmas.Bool.{cond_both, and_parts}
use Rattle.ooo_table.specs.declared.event.Mark.TheVariants as mark
use Rattle.ooo_table.specs.declared.event.Event.{Event}
use Rattle.ooo_table.specs.Row.{Row, is_at, sweep}
use Rattle.ooo_table.specs.Table.{Setting}
use Rattle.ooo_table.specs.Done.{waiting}
use Rattle.ooo_table.specs.Commit.{commit_row}
use Rattle.ooo_table.specs.Recovery.{squash_row}
use Rattle.ooo_table.specs.References.{store_references}
use Rattle.ooo_table.specs.Issue.{issue_row}
use Rattle.ooo_table.specs.Dispatch.{dispatches, dispatch_row}
use Rattle.ooo_table.specs.Cycle.{table, after_commit, after_recover, after_issue, after_dispatch}
use Rattle.ooo_table.specs.Later.{Each, Past}
use Rattle.ooo_table.specs.Machine.{Given, setting_of}
use Rattle.ooo_table.proofs.Counts.{none_at, past_table}
use Rattle.ooo_table.proofs.Widths.{each_false, commit_same, squash_same, issue_same'}
use Rattle.core_parts.specs.declared.answers.Dispatched.TheVariants as turn
use Rattle.core_parts.specs.declared.parts.Parts.{Parts}
use Rattle.core_parts.specs.Rows.{pick, Waits}
use Rattle.core_parts.specs.Stands.{Stands}
use Rattle.core_parts.specs.Stages.{Dispatching, DispatchIsOver, DispatchTurn}
use Rattle.core_parts.proofs.Lists.{count_cons, zip_length, pick_length, length_sweep}
use Rattle.core_watch.specs.Shown.{Shown, Happened, behind, CutWithin, events}
use Rattle.core_watch.specs.StageItems.{dispatched_events}
use Rattle.core_statistics.specs.declared.stats.CoreStats.{CoreStats}
use Rattle.core_statistics.specs.Counted.{with_dispatches}
use Rattle.core_statistics.specs.Standing.{DispatchesCounted}
use Rattle.core_statistics.proofs.Standing.{counts_stand}
use Rattle.watched_stages.proofs.Showing.{map_append, behind_append, cut_front, cut_back}

-- no row was dispatched in the cycle before its stage
pub fresh_three : (set : Setting) (c : ℕ) → Each (λ _ o. is_at c o.dispatched ≡ false) (after_issue set c).rows
fresh_three set c =
    let base = store_references set c (after_recover set c).rows (after_recover set c).references in
    each_false (λ o. is_at c o.dispatched) (issue_row set c base (after_recover set c).rows) (issue_same' set (λ o. is_at c o.dispatched) c base (after_recover set c).rows (λ r. refl) (λ r a. refl)) (after_recover set c).rows
    (each_false (λ o. is_at c o.dispatched) (squash_row set c) (squash_same set (λ o. is_at c o.dispatched) c (λ r. refl)) (after_commit set c).rows
    (each_false (λ o. is_at c o.dispatched) (commit_row set c) (commit_same set (λ o. is_at c o.dispatched) c (λ r. refl)) (table set c).rows (all (table set c).rows (past_table set c))))
  where
    all : (rows : List Row) → Each (λ _. Past c) rows → Each (λ _ o. is_at c o.dispatched ≡ false) rows
    all [] h = tt
    all (r ∷ rows) h = (none_at c c r.dispatched (omega arith) h.0.dispatched, all rows h.1)

module _ (g : Given) (c : ℕ) where
  abbrev turned : List Row → List Row
  turned rows = sweep (dispatch_row (setting_of g) c) rows

  abbrev shown_of : List Row → List Event
  shown_of rows = dispatched_events g c (turned rows)

  abbrev event_of : ℕ → Event
  event_of n = record { cycle = c; row = n; mark = mark.Dispatched }

  abbrev is_now : Row → Bool
  is_now r = is_at c r.dispatched

  -- ---- the rows that a turn passed by

  count_least : (passed older : List Row) → count_by is_now (turned older) ≤ count_by is_now (turned (passed ++ older))
  count_least [] older = omega arith
  count_least (x ∷ passed) older =
      let h : count_by is_now (turned older) ≤ count_by is_now (turned (passed ++ older)) = count_least passed older in
      omega (arith, h, count_cons is_now (dispatch_row (setting_of g) c (turned (passed ++ older)) x) (turned (passed ++ older)))

  passed_none : (passed older : List Row) → count_by is_now (turned (passed ++ older)) ≤ count_by is_now (turned older) → shown_of (passed ++ older) ≡ shown_of older
  passed_none [] older le = refl
  passed_none (x ∷ passed) older le = by_test (is_now next) refl (passed_none passed older)
    where
      next : Row
      next = dispatch_row (setting_of g) c (turned (passed ++ older)) x

      by_test : (b : Bool) → is_now next ≡ b → (count_by is_now (turned (passed ++ older)) ≤ count_by is_now (turned older) → shown_of (passed ++ older) ≡ shown_of older)
          → shown_of (passed ++ older) ++ cond b (event_of (length (turned (passed ++ older))) ∷ []) [] ≡ shown_of older
      by_test true e ih =
          let k : cond {A = ℕ} (is_now next) 1 0 ≡ 1 = ap (λ b. cond {A = ℕ} b 1 0) e in
          absurd (omega (arith, le, k, count_least passed older, count_cons is_now next (turned (passed ++ older))))
      by_test false e ih =
          let k : cond {A = ℕ} (is_now next) 1 0 ≡ 0 = ap (λ b. cond {A = ℕ} b 1 0) e in
          append-nil (shown_of (passed ++ older)) ∙ ih (omega (arith, le, k, count_cons is_now next (turned (passed ++ older))))

  -- the row that is dispatched has the next event
  dispatched_next : (passed older : List Row) (r : Row) (n number : ℕ) → count_by is_now (turned older) ≡ n → count_by is_now (turned (r ∷ (passed ++ older))) ≡ suc n
      → dispatches (setting_of g) c (turned (passed ++ older)) r ≡ true → number ≡ length (passed ++ older)
      → shown_of (r ∷ (passed ++ older)) ≡ shown_of older ++ event_of number ∷ []
  dispatched_next passed older r n number before after d is =
      ap (λ es. es ++ cond (is_now next) (event_of (length (turned (passed ++ older))) ∷ []) []) (passed_none passed older (omega (arith, before, after, k, count_cons is_now next (turned (passed ++ older)))))
      ∙ (ap (λ b. shown_of older ++ cond b (event_of (length (turned (passed ++ older))) ∷ []) []) at
      ∙ ap (λ m. shown_of older ++ event_of m ∷ []) (length_sweep (dispatch_row (setting_of g) c) (passed ++ older) ∙ sym is))
    where
      next : Row
      next = dispatch_row (setting_of g) c (turned (passed ++ older)) r

      at : is_now next ≡ true
      at = ap (λ b. is_at c (cond b (record r { dispatched = Some c }) r).dispatched) d ∙ eq-eqb c c refl

      k : cond {A = ℕ} (is_now next) 1 0 ≡ 1
      k = ap (λ b. cond {A = ℕ} b 1 0) at

  -- ---- the rows that are left at the end

  waiting_most : (younger older : List Row) → count_by waiting (turned (younger ++ older)) ≤ count_by waiting (younger ++ turned older)
  waiting_most [] older = omega arith
  waiting_most (x ∷ younger) older =
      let h : count_by waiting (turned (younger ++ older)) ≤ count_by waiting (younger ++ turned older) = waiting_most younger older in
      omega (arith, h, less, count_cons waiting next (turned (younger ++ older)), count_cons waiting x (younger ++ turned older))
    where
      next : Row
      next = dispatch_row (setting_of g) c (turned (younger ++ older)) x

      less : cond {A = ℕ} (waiting next) 1 0 ≤ cond {A = ℕ} (waiting x) 1 0
      less =
          cond_both (dispatches (setting_of g) c (turned (younger ++ older)) x) (record x { dispatched = Some c }) x (λ s. cond {A = ℕ} (waiting s) 1 0 ≤ cond {A = ℕ} (waiting x) 1 0)
          (λ _. omega arith) (λ _. omega arith)

  -- where as many rows wait as before none is dispatched
  left_none : (younger older : List Row) → Each (λ _ o. is_at c o.dispatched ≡ false) (younger ++ older)
      → count_by waiting (younger ++ turned older) ≤ count_by waiting (turned (younger ++ older)) → shown_of (younger ++ older) ≡ shown_of older
  left_none [] older fresh le = refl
  left_none (x ∷ younger) older fresh le = by_test (dispatches (setting_of g) c before x) refl (left_none younger older fresh.1)
    where
      before : List Row
      before = turned (younger ++ older)

      next : Row
      next = dispatch_row (setting_of g) c before x

      waits : dispatches (setting_of g) c before x ≡ true → waiting x ≡ true
      waits e = grind (arith, and_parts)

      by_test : (b : Bool) → dispatches (setting_of g) c before x ≡ b → (count_by waiting (younger ++ turned older) ≤ count_by waiting before → shown_of (younger ++ older) ≡ shown_of older)
          → shown_of (x ∷ (younger ++ older)) ≡ shown_of older
      by_test true e ih =
          let gone : cond {A = ℕ} (waiting next) 1 0 ≡ 0 = ap (λ b. cond {A = ℕ} (waiting (cond b (record x { dispatched = Some c }) x)) 1 0) e in
          let was : cond {A = ℕ} (waiting x) 1 0 ≡ 1 = ap (λ b. cond {A = ℕ} b 1 0) (waits e) in
          absurd (omega (arith, le, gone, was, waiting_most younger older, count_cons waiting next before, count_cons waiting x (younger ++ turned older)))
      by_test false e ih =
          let same : next ≡ x = ap (λ b. cond b (record x { dispatched = Some c }) x) e in
          let k : cond {A = ℕ} (waiting next) 1 0 ≡ cond {A = ℕ} (waiting x) 1 0 = ap (λ (s : Row). cond {A = ℕ} (waiting s) 1 0) same in
          ap (λ b. shown_of (younger ++ older) ++ cond b (event_of (length before) ∷ []) []) (ap (λ (s : Row). is_at c s.dispatched) same ∙ fresh.0)
          ∙ (append-nil (shown_of (younger ++ older))
          ∙ ih (omega (arith, le, k, count_cons waiting next before, count_cons waiting x (younger ++ turned older))))

  -- what the turns of older rows show comes first in what the stage shows
  comes_first : (younger older : List Row) → (more : List Event) × (shown_of (younger ++ older) ≡ shown_of older ++ more)
  comes_first [] older = ([], sym (append-nil (shown_of older)))
  comes_first (x ∷ younger) older =
      let (more, is) = comes_first younger older in
      let last = cond (is_now (dispatch_row (setting_of g) c (turned (younger ++ older)) x)) (event_of (length (turned (younger ++ older))) ∷ []) [] in
      (more ++ last, ap (λ es. es ++ last) is ∙ append_assoc (shown_of older) more last)

  -- as many are shown as were dispatched
  shown_length : (rows : List Row) → length (dispatched_events g c rows) ≡ count_by is_now rows
  shown_length [] = refl
  shown_length (r ∷ older) =
      omega (arith, length-append (dispatched_events g c older) (cond (is_now r) (event_of (length older) ∷ []) []), shown_length older, one_event (is_now r) (event_of (length older)), count_cons is_now r older)
    where
      one_event : (b : Bool) (e : Event) → length (cond b (e ∷ []) []) ≡ cond {A = ℕ} b 1 0
      one_event true e = refl
      one_event false e = refl

  -- ---- the stage so far

  module _ {S : Type 0} (took cut : S → List Shown → S → Type 0) where
    -- So many rows were dispatched, a call among them or none, and the watch has taken them.
    pub record Midway (n : ℕ) (called : Bool) (parts : Parts) (before now : S) : Type 0 where
      pub younger : List Row
      pub older : List Row
      pub turns : Dispatching g c n called younger older parts
      pub shown : (start : S) (h : List Shown) → took start h before → took start (behind (events (shown_of older)) h) now

    pub midway_begin : (parts : Parts) (before : S) → Stands g c true parts (after_issue (setting_of g) c) → Midway 0 false parts before before
    midway_begin parts before st =
        record {
          younger = (after_issue (setting_of g) c).rows;
          older = [];
          turns = record {
            rows = sym (append-nil (after_issue (setting_of g) c).rows);
            stands = subst (λ l. Stands g c true parts (record (after_issue (setting_of g) c) { rows = l })) (sym (append-nil (after_issue (setting_of g) c).rows)) st;
            count = refl;
            call = refl;
            passed = refl;
          };
          shown = λ start h t. t;
        }

    -- the row that a turn dispatched is shown
    pub midway_next : (n : ℕ) (called : Bool) (old new : Parts) (number : ℕ) (call : Bool) (before now after : S) → Midway n called old before now
        → DispatchTurn g c n called old new (turn.Row number call) → ((start : S) (h : List Shown) → took start h now → took start (Happened (event_of number) ∷ h) after)
        → Midway (suc n) (called || call) new before after
    midway_next n called old new number call before now after m step takes =
        let (left, r, passed, split, does, next) = step m.younger m.older m.turns in
        record {
          younger = left;
          older = r ∷ (passed ++ m.older);
          turns = next;
          shown = λ start h t.
              subst (λ l. took start l after) (sym (one_more (shown_of m.older) (shown_of (r ∷ (passed ++ m.older))) number h (dispatched_next passed m.older r n number m.turns.count next.count does.dispatches does.number)))
              (takes start (behind (events (shown_of m.older)) h) (m.shown start h t));
        }
      where
        one_more : (xs ys : List Event) (k : ℕ) (h : List Shown) → ys ≡ xs ++ event_of k ∷ [] → behind (events ys) h ≡ Happened (event_of k) ∷ behind (events xs) h
        one_more xs ys k h e =
            ap (λ es. behind (events es) h) e
            ∙ (ap (λ l. behind l h) (map_append Happened xs (event_of k ∷ [])) ∙ behind_append (events xs) (Happened (event_of k) ∷ []) h)

    -- the watch was cut within its event
    pub midway_cut : (n : ℕ) (called : Bool) (old new : Parts) (number : ℕ) (call : Bool) (before now after : S) → Midway n called old before now
        → DispatchTurn g c n called old new (turn.Row number call) → ((start : S) (h : List Shown) → took start h now → cut start (Happened (event_of number) ∷ h) after)
        → (start : S) (h : List Shown) → took start h before → CutWithin cut start h (events (dispatched_events g c (after_dispatch (setting_of g) c).rows)) after
    midway_cut n called old new number call before now after m step cuts start h t =
        let (left, r, passed, split, does, next) = step m.younger m.older m.turns in
        let (more, whole) = comes_first left (r ∷ (passed ++ m.older)) in
        let rows : (after_issue (setting_of g) c).rows ≡ left ++ (r ∷ (passed ++ m.older)) = next.rows in
        let all : dispatched_events g c (after_dispatch (setting_of g) c).rows ≡ (shown_of m.older ++ event_of number ∷ []) ++ more =
        ap shown_of rows ∙ (whole ∙ ap (λ es. es ++ more) (dispatched_next passed m.older r n number m.turns.count next.count does.dispatches does.number)) in
        let parts : events (dispatched_events g c (after_dispatch (setting_of g) c).rows) ≡ (events (shown_of m.older) ++ Happened (event_of number) ∷ []) ++ events more =
        ap events all ∙ (map_append Happened (shown_of m.older ++ event_of number ∷ []) more ∙ ap (λ l. l ++ events more) (map_append Happened (shown_of m.older) (event_of number ∷ []))) in
        subst (λ l. CutWithin cut start h l after) (sym parts)
        (cut_front took cut start (events (shown_of m.older) ++ Happened (event_of number) ∷ []) (events more) h after
        (cut_back took cut start (events (shown_of m.older)) (Happened (event_of number) ∷ []) h after
        (inl (cuts start (behind (events (shown_of m.older)) h) (m.shown start h t)))))

    -- it has taken those of the turns so far, where no further one comes
    pub midway_front : (n : ℕ) (called : Bool) (parts : Parts) (before now : S) → Midway n called parts before now
        → (start : S) (h : List Shown) → took start h before
        → (front more : List Event) × (dispatched_events g c (after_dispatch (setting_of g) c).rows ≡ front ++ more) × took start (behind (events front) h) now
    midway_front n called parts before now m start h t =
        let (more, whole) = comes_first m.younger m.older in
        (shown_of m.older, more, ap shown_of m.turns.rows ∙ whole, m.shown start h t)

    -- The stage is over where the parts stand for the table behind it as they are: no further row is dispatched.
    none_left : (n : ℕ) (called stopped : Bool) (parts : Parts) (before now : S) (m : Midway n called parts before now) → DispatchIsOver g c stopped parts
        → dispatched_events g c (after_dispatch (setting_of g) c).rows ≡ shown_of m.older
    none_left n called stopped parts before now m over =
        ap shown_of m.turns.rows
        ∙ left_none m.younger m.older (subst (λ l. Each (λ _ o. is_at c o.dispatched ≡ false) l) m.turns.rows (fresh_three (setting_of g) c))
        (omega (arith, as_before ∙ ap (λ l. count_by waiting (turned l)) m.turns.rows))
      where
        as_before : count_by waiting (m.younger ++ turned m.older) ≡ count_by waiting (turned (after_issue (setting_of g) c).rows)
        as_before =
            sym (zip_length (Waits g) parts.front.rows (pick waiting (m.younger ++ turned m.older)) m.turns.stands.rows.front ∙ pick_length waiting (m.younger ++ turned m.older))
            ∙ (zip_length (Waits g) parts.front.rows (pick waiting (after_dispatch (setting_of g) c).rows) over.stands.rows.front ∙ pick_length waiting (after_dispatch (setting_of g) c).rows)

    pub midway_over : (n : ℕ) (called stopped : Bool) (parts : Parts) (before now : S) → Midway n called parts before now → DispatchIsOver g c stopped parts
        → (start : S) (h : List Shown) → took start h before → took start (behind (events (dispatched_events g c (after_dispatch (setting_of g) c).rows)) h) now
    midway_over n called stopped parts before now m over start h t =
        subst (λ es. took start (behind (events es) h) now) (sym (none_left n called stopped parts before now m over)) (m.shown start h t)

    -- and so many are counted
    pub midway_counted : (n : ℕ) (called stopped : Bool) (parts : Parts) (counted counts : CoreStats) (before now : S) → Midway n called parts before now → DispatchIsOver g c stopped parts
        → counts ≡ with_dispatches n counted → DispatchesCounted g c counted counts
    midway_counted n called stopped parts counted counts before now m over is =
        let so_many : count_by is_now (after_dispatch (setting_of g) c).rows ≡ n =
        sym (shown_length (after_dispatch (setting_of g) c).rows)
        ∙ (ap length (none_left n called stopped parts before now m over) ∙ (shown_length (turned m.older) ∙ m.turns.count)) in
        subst (DispatchesCounted g c counted) (sym is) ((counts_stand g c).dispatches n counted so_many)
