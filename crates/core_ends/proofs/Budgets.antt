-- A run of the machine with a budget of commits is the functional run with that budget.
use Rattle.std.proofs.Common.{◌≡◌, ℕ, zero, suc, ◌<◌, ◌≤◌, Bool, true, false, cond, List, [], ◌∷◌, length, Option, Some, None, refl, sym, ap, ◌∙◌, subst, arith, inl, inr}
use Rattle.std.specs.Prelude.{◌⊎◌, ◌&&◌, is_some, find}
use Rattle.std.proofs.lemmas.Bool.{cond-true, cases_lt}
use Rattle.pisa_isa.specs.declared.instr.Instr.{Instr}
use Rattle.pisa_step.specs.declared.cause.Cause.{Cause}
use Rattle.pisa_step.specs.declared.cause.Cause.TheVariants as cause
use Rattle.sim_safe.specs.declared.observer.RunEnd.TheVariants as ends
use Rattle.sim_safe.specs.State.{State}
use Rattle.sim_safe.specs.Step.{Outcome, Next, Halt, step_of}
use Rattle.sim_safe.specs.Run.{items_of, after, end_of, end_at_budget}
use Rattle.sim_safe.proofs.Steps.{end_all}
use Rattle.mem_hier.specs.Replay.{Reference}
use Rattle.ooo_table.specs.Row.{Row, is_at, sweep}
use Rattle.ooo_table.specs.Table.{Setting}
use Rattle.ooo_table.specs.Path.{execution, execution_of, is_exit}
use Rattle.ooo_table.specs.Commit.{commit_row}
use Rattle.ooo_table.specs.Recovery.{squash_row}
use Rattle.ooo_table.specs.References.{store_references}
use Rattle.ooo_table.specs.Issue.{issue_row, issues, accesses, access_of}
use Rattle.ooo_table.specs.Dispatch.{dispatch_row}
use Rattle.ooo_table.specs.Cycle.{table, after_commit, after_recover, after_issue, after_dispatch}
use Rattle.ooo_table.specs.Ends.{Extent, AtCommit, AtStop, rows_at, stops_in, last_commit, or_stop, end_in}
use Rattle.ooo_table.specs.Events.{committed_state, state_behind, exit_word, stop_word, end_word}
use Rattle.ooo_table.specs.Later.{Each, Past}
use Rattle.ooo_table.specs.CycleLaws.{RowFacts}
use Rattle.ooo_table.specs.Machine.{Given, setting_of, executed_at, executed_as, instruction_at}
use Rattle.ooo_table.specs.MachineLaws.{IsSound}
use Rattle.ooo_table.specs.RunLaws.{commits_among, IsRun, IsWhole}
use Rattle.ooo_table.proofs.Counts.{both', past_table, fetched_same}
use Rattle.ooo_table.proofs.Ends.{same_commits}
use Rattle.ooo_table.proofs.Kept.{each_of}
use Rattle.ooo_table.proofs.Over.{not_at}
use Rattle.ooo_table.proofs.Run.{Known, known_at, paths_at, Reached, reached_all, Ran, ran_at, run_at, exit_at, stop_at}
use Rattle.ooo_table.proofs.Sound.{Sound, sound_at}
use Rattle.core_parts.proofs.Lists.{count_sweep}
use Rattle.core_ends.specs.Budgets.{run_end, IsRunWith}
use Rattle.core_ends.proofs.LastCommits.{Uncommitted, below, Meets, meets}

-- ---- exits

exits_so : (i : Instr) (s : State) (o : Outcome) → (executed_as i s o).stops ≡ false → (executed_as i s o).exit ≡ is_some (executed_as i s o).after.ended
exits_so i s (Next did t) h = refl
exits_so i s (Halt why) h = absurd cc

module _ (g : Given) where
  abbrev set : Setting
  set = setting_of g

  -- a right row that can be done is an exit where the program has exited behind it
  right_exit : (r : Row) → r.fetched.right ≡ true → r.fetched.pc ≡ r.fetched.state.pc → (execution set r).stops ≡ false → (execution set r).exit ≡ is_some (execution set r).after.ended
  unfolding execution_of executed_at
  right_exit r w e h =
      let s : State = r.fetched.state in
      let same : execution set r ≡ executed_as (instruction_at s.text s.pc) s (step_of g.trace s) =
      cond-true r.fetched.right (executed_at g.trace s r.fetched.pc) _ w ∙ ap (executed_at g.trace s) e in
      ap (λ x. x.exit) same
      ∙ (exits_so (instruction_at s.text s.pc) s (step_of g.trace s) (sym (ap (λ x. x.stops) same) ∙ h)
      ∙ sym (ap (λ x. is_some x.after.ended) same))

  -- so the program has exited behind the commits where the newest one is an exit
  exit_ended : (c : ℕ) (rows : List Row) → Each (Known set c) rows → Each (λ older r. r.fetched.right ≡ true → Reached g older r) rows
      → (m : Row) → find (λ r. is_some r.committed) rows ≡ Some m → is_exit set m ≡ true → is_some (committed_state set rows).ended ≡ true
  exit_ended c [] k h m e x = absurd cc
  exit_ended c (r ∷ rows) k h m e x = by_self (is_some r.committed) refl e (exit_ended c rows k.1 h.1 m)
    where
      halves : (a b : Bool) → (a && b) ≡ true → (a ≡ true) × (b ≡ true)
      halves true true e = (refl, refl)
      halves true false e = absurd cc
      halves false b e = absurd cc

      here : is_some r.committed ≡ true → r ≡ m → is_some (execution set r).after.ended ≡ true
      here f e =
          let both : (r.fetched.right ≡ true) × ((execution set r).exit ≡ true) = halves r.fetched.right (execution set r).exit (ap (is_exit set) e ∙ x) in
          sym (right_exit r both.0 (h.0 both.0).pc (k.0.proceeds both.0 (k.0.sound.facts.left f))) ∙ both.1

      by_self : (b : Bool) → is_some r.committed ≡ b → cond b (Some r) (find (λ r. is_some r.committed) rows) ≡ Some m
          → (find (λ r. is_some r.committed) rows ≡ Some m → is_exit set m ≡ true → is_some (committed_state set rows).ended ≡ true)
          → is_some (state_behind set (cond (is_some r.committed) (Some r) (find (λ r. is_some r.committed) rows))).ended ≡ true
      by_self true f q ih = let same : r ≡ m = cc in ap (λ b. is_some (state_behind set (cond b (Some r) (find (λ r. is_some r.committed) rows))).ended) f ∙ here f same
      by_self false f q ih = ap (λ b. is_some (state_behind set (cond b (Some r) (find (λ r. is_some r.committed) rows))).ended) f ∙ ih q x

  -- ---- commits behind a stage

  abbrev has_committed : Row → Bool
  has_committed r = is_some r.committed

  facts_commit : (c : ℕ) → Each (RowFacts set c) (sweep (commit_row set c) (table set c).rows)
  facts_commit c =
      subst (Each (RowFacts set c)) (same_commits set (length (table set c).rows) c (table set c).rows (omega arith))
      (each_of (Sound set c) (RowFacts set c) (λ older r s. s.facts) (rows_at set (AtCommit (length (table set c).rows)) c) (sound_at set (AtCommit (length (table set c).rows)) c))

  uncommitted : (c : ℕ) → Uncommitted c (table set c).rows
  uncommitted c = each_of (λ _. Past c) (λ _ o. is_at c o.committed ≡ false) (λ older r p. not_at c r.committed p.committed) (table set c).rows (past_table set c)

  chosen : (b : Bool) (r s : Row) → s.committed ≡ r.committed → (cond b s r).committed ≡ r.committed
  chosen true r s e = e
  chosen false r s e = refl

  -- no other stage commits a row
  stop_commits : (c : ℕ) → commits_among (rows_at set AtStop c) ≡ commits_among (after_commit set c).rows
  stop_commits c =
      count_sweep has_committed (dispatch_row set c) (λ before r. ap is_some (chosen _ r (record r { dispatched = Some c }) refl)) (after_issue set c).rows
      ∙ (count_sweep has_committed (issue_row set c base (after_recover set c).rows) issue_keeps (after_recover set c).rows
      ∙ count_sweep has_committed (squash_row set c) (λ before r. ap is_some (chosen _ r (record r { squashed = Some c }) refl)) (after_commit set c).rows)
    where
      base : List Reference
      base = store_references set c (after_recover set c).rows (after_recover set c).references

      issue_keeps : (before : List Row) (r : Row) → is_some (issue_row set c base (after_recover set c).rows before r).committed ≡ is_some r.committed
      issue_keeps before r =
          ap is_some (either (issues set c (after_recover set c).rows before r) (accesses set c (after_recover set c).rows before r))
        where
          either : (a b : Bool) → (cond a (record r { issued = Some c }) (cond b (record r { access = Some (access_of set c base before r) }) r)).committed ≡ r.committed
          either true b = refl
          either false true = refl
          either false false = refl

  -- ---- the laws

  -- the functional run has this end where its last state is behind as many steps as its budget, or behind fewer and halts
  ends_exited : (most code : ℕ) (rows : List Row) → Ran g rows → IsWhole g rows (cause.Exited code) → (committed_state set rows).ended ≡ Some code → commits_among rows ≤ most → 0 < most
      → end_of g.trace most g.start ≡ ends.Stop (cause.Exited code)
  ends_exited most code rows ran whole e le pos = by_order (cases_lt (commits_among rows) most)
    where
      by_order : (commits_among rows < most) ⊎ (most ≤ commits_among rows) → end_of g.trace most g.start ≡ ends.Stop (cause.Exited code)
      by_order (inl lt) = whole.ending most lt
      by_order (inr ge) =
          let same : commits_among rows ≡ most = omega (arith, le, ge) in
          let pos' : 0 < commits_among rows = omega (arith, same, pos) in
          ap (λ n. end_of g.trace n g.start) (sym same) ∙ (sym (end_all g.trace (commits_among rows) g.start (committed_state set rows) ran.steps pos') ∙ ap end_at_budget e)

  at_exit : (e : Extent) (c most code : ℕ) → IsSound g → (committed_state set (rows_at set e c)).ended ≡ Some code → commits_among (rows_at set e c) ≤ most → 0 < most
      → IsRunWith g most (rows_at set e c) (ends.Stop (cause.Exited code))
  at_exit e c most code sound x le pos =
      let pen : 1 ≤ g.config.penalty = sound.config.penalty.least in
      let whole : IsWhole g (rows_at set e c) (cause.Exited code) = exit_at g e c code pen x in
      record { items = whole.items most le; state = whole.state most le; ends = ends_exited most code (rows_at set e c) (ran_at g e c pen) whole x le pos }

  at_limit : (e : Extent) (c most : ℕ) → IsSound g → (committed_state set (rows_at set e c)).ended ≡ None → commits_among (rows_at set e c) ≡ most → 0 < most
      → IsRunWith g most (rows_at set e c) ends.Limit
  at_limit e c most sound x same pos =
      let pen : 1 ≤ g.config.penalty = sound.config.penalty.least in
      let run : IsRun g (rows_at set e c) = run_at g e c pen in
      let ran : Ran g (rows_at set e c) = ran_at g e c pen in
      record {
        items = ap (λ n. items_of g.trace n g.start) (sym same) ∙ sym run.items;
        state = ap (λ n. after g.trace n g.start) (sym same) ∙ sym run.state;
        ends = ap (λ n. end_of g.trace n g.start) (sym same)
            ∙ (sym (end_all g.trace (commits_among (rows_at set e c)) g.start (committed_state set (rows_at set e c)) ran.steps (omega (arith, same, pos))) ∙ ap end_at_budget x);
      }

  at_last : (row c most : ℕ) → IsSound g → Meets set c most (rows_at set (AtCommit row) c) → 0 < most
      → IsRunWith g most (rows_at set (AtCommit row) c) (run_end (exit_word (committed_state set (rows_at set (AtCommit row) c)).ended))
  at_last row c most sound met pos = by_exit (committed_state set all).ended refl
    where
      all : List Row
      all = rows_at set (AtCommit row) c

      pen : 1 ≤ g.config.penalty
      pen = sound.config.penalty.least

      reached : (commits_among all ≡ most) ⊎ ((m : Row) × (find (λ r. is_some r.committed) all ≡ Some m) × (is_exit set m ≡ true)) → (committed_state set all).ended ≡ None → commits_among all ≡ most
      reached (inl h) x = h
      reached (inr (m, f, y)) x = absurd (both' (exit_ended c all (known_at set (AtCommit row) c pen) (reached_all g all (paths_at set (AtCommit row) c pen)) m f y) (ap is_some x))

      by_exit : (m : Option ℕ) → (committed_state set all).ended ≡ m → IsRunWith g most all (run_end (exit_word (committed_state set all).ended))
      by_exit (Some code) x = subst (λ m. IsRunWith g most all (run_end (exit_word m))) (sym x) (at_exit (AtCommit row) c most code sound x met.most_of pos)
      by_exit None x = subst (λ m. IsRunWith g most all (run_end (exit_word m))) (sym x) (at_limit (AtCommit row) c most sound x (reached met.last x) pos)

  told_so : (s : State) (why : Cause) → run_end (stop_word s (Halt why)) ≡ ends.Stop why
  told_so s (cause.Exited code) = refl
  told_so s cause.BadFetch = refl
  told_so s cause.Illegal = refl
  told_so s (cause.FloatingPoint opcode) = refl
  told_so s (cause.Misaligned addr) = refl
  told_so s cause.Overflow = refl
  told_so s cause.DivideByZero = refl
  told_so s (cause.TextWrite addr) = refl
  told_so s cause.Break = refl
  told_so s (cause.TraceEnd used) = refl
  told_so s (cause.TraceMismatch f kept found) = refl

  at_end_stop : (c most : ℕ) → IsSound g → end_in set most c ≡ Some AtStop → commits_among (rows_at set AtStop c) < most → IsRunWith g most (rows_at set AtStop c) (run_end (end_word g AtStop c))
  at_end_stop c most sound h lt =
      let (why, whole, word) = stop_at g most c sound.config.penalty.least h in
      record {
        items = whole.items most (omega (arith, lt));
        state = whole.state most (omega (arith, lt));
        ends = whole.ending most lt ∙ sym (ap run_end word ∙ told_so (committed_state set (rows_at set AtStop c)) why);
      }

  -- a run that ends at a stop has not met its budget
  pub few_at_stop : (most c : ℕ) → commits_among (table set c).rows < most → last_commit set most c (sweep (commit_row set c) (table set c).rows) ≡ None → commits_among (rows_at set AtStop c) < most
  few_at_stop most c lt f =
      let few : commits_among (sweep (commit_row set c) (table set c).rows) < most = below set c most (table set c).rows (facts_commit c) lt f in
      omega (arith, few, stop_commits c)

  pub with_budget : (most c : ℕ) (e : Extent) → IsSound g → commits_among (table set c).rows < most → end_in set most c ≡ Some e → IsRunWith g most (rows_at set e c) (run_end (end_word g e c))
  with_budget most c e sound lt h = by_last (last_commit set most c (sweep (commit_row set c) (table set c).rows)) refl h
    where
      by_stop : (b : Bool) → or_stop b None ≡ Some e → last_commit set most c (sweep (commit_row set c) (table set c).rows) ≡ None → Some AtStop ≡ Some e → IsRunWith g most (rows_at set e c) (run_end (end_word g e c))
      by_stop b k f q =
          let same : AtStop ≡ e = cc in
          subst (λ x. IsRunWith g most (rows_at set x c) (run_end (end_word g x c))) same (at_end_stop c most sound (h ∙ sym q) (few_at_stop most c lt f))

      stops : (b : Bool) → or_stop b None ≡ Some e → Some AtStop ≡ Some e
      stops true k = k
      stops false k = absurd cc

      by_last : (m : Option ℕ) → last_commit set most c (sweep (commit_row set c) (table set c).rows) ≡ m → or_stop (stops_in set c (table set c)) m ≡ Some e
          → IsRunWith g most (rows_at set e c) (run_end (end_word g e c))
      by_last (Some row) f k =
          let same : AtCommit row ≡ e = cc in
          subst (λ x. IsRunWith g most (rows_at set x c) (run_end (end_word g x c))) same
          (at_last row c most sound (meets set c most (table set c).rows (facts_commit c) (uncommitted c) lt row f) (omega (arith, lt)))
      by_last None f k = by_stop (stops_in set c (table set c)) k f (stops (stops_in set c (table set c)) k)

  -- ---- before the first end of a run fewer rows than its budget have committed

  -- a row that is fetched has not committed
  cycle_commits : (c : ℕ) → commits_among (table set (suc c)).rows ≡ commits_among (after_commit set c).rows
  cycle_commits c =
      fetched_same set has_committed c (λ u look queued. refl) set.config.decode (after_dispatch set c) ∙ stop_commits c

  none_there : (b : Bool) (m : Option ℕ) → or_stop b m ≡ None → m ≡ None
  none_there b None h = refl
  none_there b (Some row) h = absurd cc

  few_commits : (most c : ℕ) → 1 ≤ most → ((x : ℕ) → x < c → end_in set most x ≡ None) → commits_among (table set c).rows < most
  few_commits most zero pos none = omega (arith, pos)
  few_commits most (suc c) pos none =
      let ih : commits_among (table set c).rows < most = few_commits most c pos (λ x lt. none x (omega (arith, lt))) in
      let f : last_commit set most c (sweep (commit_row set c) (table set c).rows) ≡ None =
      none_there (stops_in set c (table set c)) (last_commit set most c (sweep (commit_row set c) (table set c).rows)) (none c (omega arith)) in
      let few : commits_among (sweep (commit_row set c) (table set c).rows) < most = below set c most (table set c).rows (facts_commit c) ih f in
      omega (arith, few, cycle_commits c)

  pub first_end : (most c : ℕ) (e : Extent) → IsSound g → 1 ≤ most → ((x : ℕ) → x < c → end_in set most x ≡ None) → end_in set most c ≡ Some e
      → IsRunWith g most (rows_at set e c) (run_end (end_word g e c))
  first_end most c e sound pos none h = with_budget most c e sound (few_commits most c pos none) h
