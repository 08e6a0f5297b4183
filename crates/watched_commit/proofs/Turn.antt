-- A row that commits within the stage.
use Rattle.std.proofs.Common.{◌≡◌, ℕ, suc, ◌+◌, true, false, cond, List, [], ◌∷◌, ◌++◌, length, None, sym, ap, ◌∙◌, subst, arith}
use Rattle.std.specs.Prelude.{◌&&◌, ◌||◌, ◌==◌, is_some, map, count_by}
use Rattle.std.proofs.lemmas.Bool.{cond-true}
use Rattle.ruu_core.specs.declared.station.Station.{Station}
use Rattle.ooo_table.specs.declared.event.Mark.TheVariants as mark
use Rattle.ooo_table.specs.Row.{Row, is_at, sweep}
use Rattle.ooo_table.specs.Path.{execution, is_exit}
use Rattle.ooo_table.specs.Commit.{commits, commit_row}
use Rattle.ooo_table.specs.Cycle.{table}
use Rattle.ooo_table.specs.Ends.{is_last, last_commit}
use Rattle.ooo_table.specs.Later.{Each}
use Rattle.ooo_table.specs.CycleLaws.{RowFacts}
use Rattle.ooo_table.specs.Machine.{Given, setting_of}
use Rattle.ooo_table.specs.MachineLaws.{IsSound}
use Rattle.ooo_table.specs.RunLaws.{recorded_by, commits_among}
use Rattle.ooo_table.proofs.RowFacts.{facts_table}
use Rattle.ooo_table.proofs.Deadlines.{sweep_split, each_split}
use Rattle.core_parts.specs.declared.parts.Parts.{Parts}
use Rattle.core_parts.specs.Rows.{Did}
use Rattle.core_parts.specs.Stages.{Committing, CommitsAs}
use Rattle.core_parts.proofs.Lists.{count_take, length_sweep, same_number}
use Rattle.core_watch.specs.Shown.{Happened, Committed}
use Rattle.core_watch.specs.StageItems.{commit_items}
use Rattle.core_watch.specs.StageItemsLaws.{shown_commit}
use Rattle.core_events.specs.Exits.{exit_by, CommitIsOf}
use Rattle.core_events.proofs.Exits.{commit_is_of}
use Rattle.watched_commit.specs.Stage.{shown_by, budget}
use Rattle.watched_commit.proofs.Marks.{has_committed, marked, NoneAt, count_join, count_none, none_counted, last_over, items_over, right_fresh, count_swept, none_behind, shifted, not_yet, front_none}

-- What the turn of the row r does, behind these rows, of which the older ones had their turns before: it is shown as the
-- station's row, and it ends the run where it is an exit or the last of the budget.
pub record Turned (g : Given) (c most n : ℕ) (older left : List Row) (r : Row) (rest : List Row) (s : Station) : Type 0 where
  pub rows : (table (setting_of g) c).rows ≡ left ++ (r ∷ rest)
  pub still : NoneAt c left
  pub none : Each (λ _ o. is_some o.committed ≡ false) left
  pub turn : commit_row (setting_of g) c (sweep (commit_row (setting_of g) c) rest) r ≡ marked c r
  pub before : last_commit (setting_of g) (budget g c most) c (sweep (commit_row (setting_of g) c) rest) ≡ None
  pub items : commit_items g c (sweep (commit_row (setting_of g) c) (r ∷ rest))
      ≡ commit_items g c (sweep (commit_row (setting_of g) c) older) ++ shown_by g.trace c s.row s.commit
  pub last : is_last (setting_of g) (budget g c most) c (sweep (commit_row (setting_of g) c) rest) (marked c r) ≡ (is_some (exit_by s.commit) || (suc n == most))
  pub code : (execution (setting_of g) r).after.ended ≡ exit_by s.commit

module _ (g : Given) (sound : IsSound g) (c most n : ℕ) (younger older left passed : List Row) (r : Row) (s : Station) (old new : Parts)
    (k : Committing g c n younger older old) (unended : last_commit (setting_of g) (budget g c most) c (sweep (commit_row (setting_of g) c) older) ≡ None)
    (a : CommitsAs g c s r (passed ++ older)) (k' : Committing g c (suc n) left (r ∷ (passed ++ older)) new) where
  abbrev rest_now : List Row
  rest_now = sweep (commit_row (setting_of g) c) (passed ++ older)

  row_turn : commit_row (setting_of g) c rest_now r ≡ marked c r
  row_turn = cond-true (commits (setting_of g) c rest_now r) (marked c r) r a.commits

  swept : sweep (commit_row (setting_of g) c) (r ∷ (passed ++ older)) ≡ marked c r ∷ rest_now
  swept = ap (λ x. x ∷ rest_now) row_turn

  split : (q : List Row) × (rest_now ≡ q ++ sweep (commit_row (setting_of g) c) older)
  split = sweep_split (commit_row (setting_of g) c) passed older

  -- the rows between have no commit of the cycle
  quiet : NoneAt c split.0
  quiet =
      none_counted (λ o. is_at c o.committed) split.0
      (omega (
        arith,
        k'.count,
        ap (count_by (λ o. is_at c o.committed)) swept,
        count_take (λ o. is_at c o.committed) (marked c r) rest_now (same_number c),
        ap (count_by (λ o. is_at c o.committed)) split.1,
        count_join (λ o. is_at c o.committed) split.0 (sweep (commit_row (setting_of g) c) older),
        k.count,
      ))

  all_quiet : NoneAt c (left ++ (r ∷ (passed ++ older)))
  all_quiet = not_yet (setting_of g) c (left ++ (r ∷ (passed ++ older))) k'.rows

  fresh : (r.fetched.right ≡ true) × (r.committed ≡ None)
  fresh = right_fresh (setting_of g) c rest_now r a.commits

  none_left : Each (λ _ o. is_some o.committed ≡ false) left
  none_left =
      none_behind (setting_of g) c left (passed ++ older) r fresh.0 fresh.1
      (subst (Each (RowFacts (setting_of g) c)) k'.rows (facts_table (setting_of g) c))

  -- the row is the next commit of the run
  number : count_by has_committed (marked c r ∷ rest_now) ≡ commits_among (table (setting_of g) c).rows + suc n
  number =
      omega (
        arith,
        ap (count_by has_committed) swept,
        count_swept (setting_of g) c (r ∷ (passed ++ older)) (each_split (λ _ o. is_at c o.committed ≡ false) left (passed ++ older) r all_quiet),
        k'.count,
        ap (count_by has_committed) k'.rows,
        count_join has_committed left (r ∷ (passed ++ older)),
        count_none has_committed left none_left,
      )

  row_exit : CommitIsOf g c s r
  row_exit = commit_is_of g c s r fresh.0 a.is

  is_the_last : is_last (setting_of g) (budget g c most) c rest_now (marked c r) ≡ (is_some (exit_by s.commit) || (suc n == most))
  is_the_last =
      ap (λ b. b && (is_exit (setting_of g) r || (count_by has_committed (marked c r ∷ rest_now) == budget g c most))) (same_number c)
      ∙ (ap (λ b. b || (count_by has_committed (marked c r ∷ rest_now) == budget g c most)) row_exit.exit
      ∙ ap (λ b. is_some (exit_by s.commit) || b)
      (ap (λ m. m == budget g c most) number ∙ shifted (commits_among (table (setting_of g) c).rows) (suc n) most))

  shown : shown_commit g c (length rest_now) r ≡ shown_by g.trace c s.row s.commit
  shown =
      let d : Did g s r.fetched = a.is.did fresh.0 in
      ap (λ m. shown_commit g c m r) (length_sweep (commit_row (setting_of g) c) (passed ++ older) ∙ sym a.number)
      ∙ (ap (λ o. Happened (record { cycle = c; row = s.row; mark = mark.Committed }) ∷ map Committed (recorded_by g o)) d.step
      ∙ sym (ap (shown_by g.trace c s.row) d.is))

  all_shown : commit_items g c (sweep (commit_row (setting_of g) c) (r ∷ (passed ++ older)))
      ≡ commit_items g c (sweep (commit_row (setting_of g) c) older) ++ shown_by g.trace c s.row s.commit
  all_shown =
      ap (commit_items g c) swept
      ∙ (ap (λ b. commit_items g c rest_now ++ cond b (shown_commit g c (length rest_now) r) []) (same_number c)
      ∙ (ap (λ l. l ++ shown_commit g c (length rest_now) r) (ap (commit_items g c) split.1 ∙ items_over g c split.0 (sweep (commit_row (setting_of g) c) older) quiet)
      ∙ ap (λ l. commit_items g c (sweep (commit_row (setting_of g) c) older) ++ l) shown))

  pub row_turned : Turned g c most n older left r (passed ++ older) s
  row_turned =
      record {
        rows = k'.rows;
        still = front_none c left (r ∷ (passed ++ older)) all_quiet;
        none = none_left;
        turn = row_turn;
        before = ap (last_commit (setting_of g) (budget g c most) c) split.1
            ∙ (last_over (setting_of g) (budget g c most) c split.0 (sweep (commit_row (setting_of g) c) older) quiet ∙ unended);
        items = all_shown;
        last = is_the_last;
        code = row_exit.code;
      }
