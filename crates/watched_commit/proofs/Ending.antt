-- How the stage goes on or ends behind a row that commits, and what is then shown of it.
use Rattle.std.proofs.Common.{◌≡◌, ℕ, suc, ◌≤◌, true, false, cond, List, [], ◌∷◌, ◌++◌, length, Option, Some, None, refl, sym, ap, ◌∙◌, subst, arith}
use Rattle.std.specs.Prelude.{◌||◌, ◌==◌, is_some}
use Rattle.ruu_core.specs.declared.station.Station.{Station}
use Rattle.ooo_table.specs.declared.event.EndWord.{EndWord}
use Rattle.ooo_table.specs.Row.{Row, sweep}
use Rattle.ooo_table.specs.Commit.{commit_row}
use Rattle.ooo_table.specs.Cycle.{table, after_commit}
use Rattle.ooo_table.specs.Ends.{stops_in, commit_up_to, is_last, last_commit, or_else, or_stop}
use Rattle.ooo_table.specs.Events.{committed_state, state_behind, exit_word}
use Rattle.ooo_table.specs.Machine.{Given, setting_of}
use Rattle.ooo_table.specs.TurnLaws.{EndsThere}
use Rattle.ooo_table.proofs.Deadlines.{sweep_split}
use Rattle.ooo_table.proofs.Ends.{swept_length, same_commits}
use Rattle.ooo_table.proofs.Turns.{ends_there}
use Rattle.core_parts.specs.declared.parts.Parts.{Parts}
use Rattle.core_parts.specs.Stands.{Stands}
use Rattle.core_parts.specs.Stages.{committed_up_to}
use Rattle.core_watch.specs.Shown.{Shown}
use Rattle.core_watch.specs.StageItems.{commit_items}
use Rattle.core_watch.proofs.Ends.{shown_at_commit}
use Rattle.core_statistics.specs.declared.stats.CoreStats.{CoreStats}
use Rattle.core_statistics.specs.Standing.{CommitsCounted}
use Rattle.core_events.specs.Exits.{exit_by}
use Rattle.watched_commit.specs.Stage.{shown_by, budget, last_row, rows_behind, stage_items, EndsWith}
use Rattle.watched_commit.proofs.Marks.{has_committed, marked, joint, find_over, last_within, items_over, items_more}
use Rattle.watched_commit.proofs.Turn.{Turned}

module _ (g : Given) (c most n : ℕ) (older left : List Row) (r : Row) (rest : List Row) (s : Station) (t : Turned g c most n older left r rest s) where
  abbrev rest_now : List Row
  rest_now = sweep (commit_row (setting_of g) c) rest

  swept : sweep (commit_row (setting_of g) c) (r ∷ rest) ≡ marked c r ∷ rest_now
  swept = ap (λ x. x ∷ rest_now) t.turn

  -- a row that is no exit and not the last of the budget doesn't end the run
  pub goes_on : (is_some (exit_by s.commit) || (suc n == most)) ≡ false → last_commit (setting_of g) (budget g c most) c (sweep (commit_row (setting_of g) c) (r ∷ rest)) ≡ None
  goes_on e =
      ap (last_commit (setting_of g) (budget g c most) c) swept
      ∙ (ap (λ o. or_else o (cond (is_last (setting_of g) (budget g c most) c rest_now (marked c r)) (Some (length rest_now)) None)) t.before
      ∙ ap (λ b. cond b (Some (length rest_now)) None) (t.last ∙ e))

  module _ (e : (is_some (exit_by s.commit) || (suc n == most)) ≡ true) where
    there : EndsThere (setting_of g) (budget g c most) c left rest r
    there =
        ends_there (setting_of g) (budget g c most) c left rest r t.rows
        (record { before = t.before; last = ap (is_last (setting_of g) (budget g c most) c rest_now) t.turn ∙ (t.last ∙ e) })

    -- and any other does
    pub ends_here : (word : EndWord) (new : Parts) (counted counts : CoreStats) → exit_word (exit_by s.commit) ≡ word → Stands g c false new (committed_up_to g c left (r ∷ rest))
        → CommitsCounted g c (left ++ sweep (commit_row (setting_of g) c) (r ∷ rest)) counted counts → EndsWith g c most (length rest) word new counted counts
    ends_here word new counted counts is stands stats =
        record {
          last = there.number;
          ends = ap (or_stop (stops_in (setting_of g) c (table (setting_of g) c))) there.number;
          told = ap (λ l. exit_word (committed_state (setting_of g) l).ended) (there.rows ∙ ap (λ l. left ++ l) swept)
              ∙ (ap (λ o. exit_word (state_behind (setting_of g) o).ended) (find_over has_committed left (marked c r ∷ rest_now) t.none)
              ∙ (ap exit_word t.code ∙ is));
          items = ap (λ o. commit_items g c (rows_behind g c o)) there.number ∙ sym (shown_at_commit g c (length rest));
          stands = subst (λ l. Stands g c false new (record (table (setting_of g) c) { rows = l })) (sym there.rows) stands;
          stats = subst (λ l. CommitsCounted g c l counted counts) (sym there.rows) stats;
        }

    -- with it all is shown
    pub all_shown : stage_items g c most ≡ commit_items g c (sweep (commit_row (setting_of g) c) older) ++ shown_by g.trace c s.row s.commit
    all_shown =
        ap (λ o. commit_items g c (rows_behind g c o)) there.number
        ∙ (ap (commit_items g c) there.rows
        ∙ (items_over g c left (sweep (commit_row (setting_of g) c) (r ∷ rest)) t.still ∙ t.items))

  -- what is shown of the stage begins with what is shown of these rows
  begins : (o : Option ℕ) → last_row g c most ≡ o
      → (more : List Shown) × (commit_items g c (rows_behind g c o) ≡ commit_items g c (sweep (commit_row (setting_of g) c) (r ∷ rest)) ++ more)
  begins None e =
      let new : (new : List Row) × (sweep (commit_row (setting_of g) c) (left ++ (r ∷ rest)) ≡ new ++ sweep (commit_row (setting_of g) c) (r ∷ rest)) =
      sweep_split (commit_row (setting_of g) c) left (r ∷ rest) in
      let it : (more : List Shown) × (commit_items g c (new.0 ++ sweep (commit_row (setting_of g) c) (r ∷ rest)) ≡ commit_items g c (sweep (commit_row (setting_of g) c) (r ∷ rest)) ++ more) =
      items_more g c new.0 (sweep (commit_row (setting_of g) c) (r ∷ rest)) in
      (it.0, ap (commit_items g c) (ap (sweep (commit_row (setting_of g) c)) t.rows ∙ new.1) ∙ it.1)
  begins (Some row) e =
      let old : (new : List Row) × (sweep (commit_row (setting_of g) c) (left ++ (r ∷ rest)) ≡ new ++ sweep (commit_row (setting_of g) c) (r ∷ rest)) =
      sweep_split (commit_row (setting_of g) c) left (r ∷ rest) in
      let turn : Row = commit_row (setting_of g) c rest_now r in
      let rows : (after_commit (setting_of g) c).rows ≡ (old.0 ++ (turn ∷ [])) ++ rest_now =
      ap (sweep (commit_row (setting_of g) c)) t.rows ∙ (old.1 ∙ sym (joint old.0 (turn ∷ []) rest_now)) in
      let le : length rest_now ≤ row =
      last_within (setting_of g) (budget g c most) c row (old.0 ++ (turn ∷ [])) rest_now t.before
      (sym (ap (last_commit (setting_of g) (budget g c most) c) rows) ∙ e) in
      let new : (new : List Row) × (sweep (commit_up_to (setting_of g) row c) (left ++ (r ∷ rest)) ≡ new ++ sweep (commit_up_to (setting_of g) row c) (r ∷ rest)) =
      sweep_split (commit_up_to (setting_of g) row c) left (r ∷ rest) in
      let within : length (r ∷ rest) ≤ suc row = omega (arith, le, swept_length (setting_of g) (commit_row (setting_of g) c) rest) in
      let it : (more : List Shown) × (commit_items g c (new.0 ++ sweep (commit_row (setting_of g) c) (r ∷ rest)) ≡ commit_items g c (sweep (commit_row (setting_of g) c) (r ∷ rest)) ++ more) =
      items_more g c new.0 (sweep (commit_row (setting_of g) c) (r ∷ rest)) in (
        it.0,
        ap (commit_items g c)
            (ap (sweep (commit_up_to (setting_of g) row c)) t.rows ∙ (new.1 ∙ ap (λ l. new.0 ++ l) (same_commits (setting_of g) row c (r ∷ rest) within)))
            ∙ it.1,
      )

  pub begins_so : (more : List Shown) × (stage_items g c most ≡ (commit_items g c (sweep (commit_row (setting_of g) c) older) ++ shown_by g.trace c s.row s.commit) ++ more)
  begins_so =
      let it : (more : List Shown) × (stage_items g c most ≡ commit_items g c (sweep (commit_row (setting_of g) c) (r ∷ rest)) ++ more) = begins (last_row g c most) refl in
      (it.0, it.1 ∙ ap (λ l. l ++ it.0) t.items)
