-- A run that ends at a commit: what its rows are then.
use Rattle.std.proofs.Common.{◌≡◌, ℕ, ◌+◌, ◌<◌, ◌≤◌, Bool, true, false, cond, List, [], ◌∷◌, ◌++◌, Option, Some, None, refl, sym, ap, ◌∙◌, subst, arith}
use Rattle.std.specs.Prelude.{◌||◌, ◌==◌, is_some, find}
use Rattle.std.specs.List.{list_any}
use Rattle.std.proofs.lemmas.Bool.{and_parts, or_left, or_right, cond-true, eqb-true}
use Rattle.pisa_isa.specs.declared.instr.Instr.{Instr}
use Rattle.sim_safe.specs.State.{State}
use Rattle.sim_safe.specs.Step.{Outcome, Next, Halt, step_of}
use Rattle.ooo_table.specs.Row.{Row, is_at, sweep}
use Rattle.ooo_table.specs.Table.{Setting}
use Rattle.ooo_table.specs.Path.{execution, execution_of, is_exit}
use Rattle.ooo_table.specs.Commit.{commits, commit_row}
use Rattle.ooo_table.specs.Cycle.{table, after_commit}
use Rattle.ooo_table.specs.Ends.{AtCommit, AtStop, rows_at, last_commit, or_stop, stops_in, end_in}
use Rattle.ooo_table.specs.Events.{state_behind, committed_state}
use Rattle.ooo_table.specs.Later.{Each, Where, By, Past}
use Rattle.ooo_table.specs.Legal.{InOrder, CommitAllowed}
use Rattle.ooo_table.specs.CycleLaws.{RowFacts}
use Rattle.ooo_table.specs.Machine.{Given, setting_of, executed_at, executed_as, instruction_at}
use Rattle.ooo_table.specs.RunLaws.{commits_among}
use Rattle.ooo_table.specs.TurnLaws.{EndsThere}
use Rattle.ooo_table.proofs.Counts.{count_true, count_false, past_table}
use Rattle.ooo_table.proofs.Over.{not_at}
use Rattle.ooo_table.proofs.Deadlines.{each_split}
use Rattle.ooo_table.proofs.RowFacts.{facts_table}
use Rattle.ooo_table.proofs.Turns.{ends_there}
use Rattle.shown_run.proofs.Budgets.{is_committed, commits_right, commits_unset, turn_stays, none_is, not_by, not_both, LastOf, last_of}

pub or_commit : (b : Bool) (m : Option ℕ) (row : ℕ) → or_stop b m ≡ Some (AtCommit row) → m ≡ Some row
or_commit b (Some x) row h = let k : x ≡ row = cc in ap (λ n. Some n) k
or_commit true None row h = absurd cc
or_commit false None row h = absurd cc

pub or_none : (b : Bool) (m : Option ℕ) → or_stop b m ≡ Some AtStop → m ≡ None
or_none b (Some x) h = absurd cc
or_none b None h = refl

-- ---- an exit leaves its code

done_exit : (i : Instr) (s : State) (o : Outcome) → (executed_as i s o).exit ≡ true → is_some (executed_as i s o).after.ended ≡ true
done_exit i s (Next did after) h = h
done_exit i s (Halt why) h = absurd cc

pub exit_ended : (g : Given) (r : Row) → is_exit (setting_of g) r ≡ true → is_some (execution (setting_of g) r).after.ended ≡ true
unfolding execution_of executed_at
exit_ended g r h =
    let k : (r.fetched.right ≡ true) × ((execution (setting_of g) r).exit ≡ true) = and_parts r.fetched.right (execution (setting_of g) r).exit h in
    let at : State = record r.fetched.state { pc = r.fetched.pc } in
    let same : execution (setting_of g) r ≡ executed_as (instruction_at at.text at.pc) at (step_of g.trace at) =
    cond-true r.fetched.right (executed_at g.trace r.fetched.state r.fetched.pc) _ k.0 in
    ap (λ x. is_some x.after.ended) same ∙ done_exit (instruction_at at.text at.pc) at (step_of g.trace at) (sym (ap (λ x. x.exit) same) ∙ k.1)

-- ---- rows behind the last commit

module _ (set : Setting) (c : ℕ) (r : Row) (older : List Row) (right : r.fetched.right ≡ true) (unset : r.committed ≡ None) where
  in_middle : (x : ℕ) (zs : List Row) → Each (λ _. InOrder x) (zs ++ (r ∷ older)) → By x r.committed
  in_middle x [] k = k.0.before right
  in_middle x (z ∷ zs) k = in_middle x zs k.1

  younger_none : (ys : List Row) → Each (RowFacts set c) (ys ++ (r ∷ older)) → Each (λ _ o. is_some o.committed ≡ false) ys
  younger_none [] h = tt
  younger_none (y ∷ ys) h = (by_mark y.committed h.0.order, younger_none ys h.1)
    where
      by_mark : (m : Option ℕ) → Where m (CommitAllowed set (ys ++ (r ∷ older)) y) → is_some m ≡ false
      by_mark None w = refl
      by_mark (Some x) w = absurd (not_by x r.committed unset (in_middle x ys w.order))

count_over : (ys rest : List Row) → Each (λ _ o. is_some o.committed ≡ false) ys → commits_among (ys ++ rest) ≡ commits_among rest
count_over [] rest h = refl
count_over (y ∷ ys) rest h = count_false is_committed y (ys ++ rest) h.0 ∙ count_over ys rest h.1

find_over : (ys rest : List Row) → Each (λ _ o. is_some o.committed ≡ false) ys → find is_committed (ys ++ rest) ≡ find is_committed rest
find_over [] rest h = refl
find_over (y ∷ ys) rest h = ap (λ b. cond b (Some y) (find is_committed (ys ++ rest))) h.0 ∙ find_over ys rest h.1

any_over : (p : Row → Bool) (ys rest : List Row) → list_any p rest ≡ true → list_any p (ys ++ rest) ≡ true
any_over p [] rest h = h
any_over p (y ∷ ys) rest h = or_right (p y) (list_any p (ys ++ rest)) (any_over p ys rest h)

-- ---- the rows at the end

module _ (g : Given) (most c row : ℕ) (few : commits_among (table (setting_of g) c).rows < most) (ends : end_in (setting_of g) most c ≡ Some (AtCommit row)) where
  abbrev set : Setting
  set = setting_of g

  last : LastOf set most c (table set c).rows row
  last =
      last_of set most c (table set c).rows row (facts_table set c) few
      (or_commit (stops_in set c (table set c)) (last_commit set most c (after_commit set c).rows) row ends)

  abbrev before : List Row
  before = sweep (commit_row set c) last.older

  abbrev s : Row
  s = commit_row set c before last.r

  there : EndsThere set most c last.younger last.older last.r
  there = ends_there set most c last.younger last.older last.r last.rows_are last.meets

  rows_then : rows_at set (AtCommit row) c ≡ last.younger ++ (s ∷ before)
  rows_then = ap (λ n. rows_at set (AtCommit n) c) last.number ∙ there.rows

  tests : (is_at c s.committed ≡ true) × ((is_exit set s || (commits_among (s ∷ before) == most)) ≡ true)
  tests = and_parts (is_at c s.committed) (is_exit set s || (commits_among (s ∷ before) == most)) last.meets.last

  is_set : (m : Option ℕ) → is_at c m ≡ true → is_some m ≡ true
  is_set None h = absurd cc
  is_set (Some x) h = refl

  now : commits set c before last.r ≡ true
  now = by_turn (commits set c before last.r) refl
    where
      past : Past c last.r
      past = (each_split (λ _. Past c) last.younger last.older last.r (subst (Each (λ _. Past c)) last.rows_are (past_table set c))).0

      by_turn : (b : Bool) → commits set c before last.r ≡ b → commits set c before last.r ≡ true
      by_turn true e = e
      by_turn false e = absurd (not_both tests.0 (ap (λ (x : Row). is_at c x.committed) (turn_stays set most c before last.r e) ∙ not_at c last.r.committed past.committed))

  none : Each (λ _ o. is_some o.committed ≡ false) last.younger
  none =
      younger_none set c last.r last.older (commits_right set most c before last.r now) (none_is last.r.committed (commits_unset set most c before last.r now)) last.younger
      (subst (Each (RowFacts set c)) last.rows_are (facts_table set c))

  count : commits_among (rows_at set (AtCommit row) c) ≡ commits_among (s ∷ before)
  count = ap commits_among rows_then ∙ count_over last.younger (s ∷ before) none

  more : commits_among (s ∷ before) ≡ 1 + commits_among before
  more = count_true is_committed s before (is_set s.committed tests.0)

  -- they are within the budget
  pub commit_within : commits_among (rows_at set (AtCommit row) c) ≤ most
  commit_within = omega (arith, count, more, last.fewer)

  -- a row of them commits in the cycle
  pub commit_there : list_any (λ r. is_at c r.committed) (rows_at set (AtCommit row) c) ≡ true
  commit_there =
      ap (list_any (λ r. is_at c r.committed)) rows_then
      ∙ any_over (λ r. is_at c r.committed) last.younger (s ∷ before) (or_left (is_at c s.committed) (list_any (λ r. is_at c r.committed) before) tests.0)

  state : committed_state set (rows_at set (AtCommit row) c) ≡ (execution set s).after
  state =
      ap (λ l. state_behind set (find is_committed l)) rows_then
      ∙ (ap (state_behind set) (find_over last.younger (s ∷ before) none)
      ∙ ap (λ b. state_behind set (cond b (Some s) (find is_committed before))) (is_set s.committed tests.0))

  -- where it is no exit the budget is used up
  pub commit_spent : (committed_state set (rows_at set (AtCommit row) c)).ended ≡ None → commits_among (rows_at set (AtCommit row) c) ≡ most
  commit_spent e = by_exit (is_exit set s) refl
    where
      by_exit : (b : Bool) → is_exit set s ≡ b → commits_among (rows_at set (AtCommit row) c) ≡ most
      by_exit true h = absurd (not_both (exit_ended g s h) (ap (λ x. is_some x.ended) (sym state) ∙ ap is_some e))
      by_exit false h = count ∙ eqb-true (commits_among (s ∷ before)) most (sym (ap (λ b. b || (commits_among (s ∷ before) == most)) h) ∙ tests.1)
