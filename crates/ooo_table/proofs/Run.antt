-- Right rows are the steps of the functional run, and commits its first ones.
use Rattle.std.proofs.Common.{◌≡◌, ℕ, suc, ◌+◌, ◌≤◌, Bool, true, false, cond, List, [], ◌∷◌, ◌++◌, Option, Some, None, refl, sym, ap, ◌∙◌, subst, arith, append-nil}
use Rattle.std.specs.Prelude.{is_none, is_some, count_by, find, not, ◌&&◌, ◌||◌, ◌==◌}
use Rattle.std.proofs.lemmas.Bool.{cond_both, cond-true, cond-false, and_parts, not-true, false_from_ne_true}
use Rattle.pisa_isa.specs.declared.instr.Instr.{Instr}
use Rattle.pisa_step.specs.declared.cause.Cause.{Cause}
use Rattle.pisa_step.specs.declared.cause.Cause.TheVariants as cause
use Rattle.sim_safe.specs.declared.record.CommitRecord.{CommitRecord}
use Rattle.sim_safe.specs.State.{State}
use Rattle.sim_safe.specs.Record.{item_of}
use Rattle.sim_safe.specs.Run.{items_of, after}
use Rattle.sim_safe.specs.Step.{Outcome, Next, Halt, step_of}
use Rattle.sim_safe.proofs.Steps.{Reaches, reaches_none, reaches_on, items_none, items_stop, after_stop, end_stop, after_all}
use Rattle.ooo_table.specs.Row.{Row, sweep}
use Rattle.ooo_table.specs.Table.{Setting}
use Rattle.ooo_table.specs.Path.{execution, execution_of}
use Rattle.ooo_table.specs.Done.{live, waiting}
use Rattle.ooo_table.specs.Commit.{commit, commit_row, commits}
use Rattle.ooo_table.specs.Recovery.{recover}
use Rattle.ooo_table.specs.References.{store_references}
use Rattle.ooo_table.specs.Issue.{issue, issue_row, issues, accesses, access_of}
use Rattle.ooo_table.specs.Dispatch.{dispatch_row, dispatches, may_enter}
use Rattle.ooo_table.specs.Cycle.{table}
use Rattle.ooo_table.specs.Ends.{Extent, Whole, AtCommit, AtStop, rows_at, commit_up_to, stops_in, last_commit, or_stop, end_in}
use Rattle.ooo_table.specs.Later.{Each, Where, By}
use Rattle.ooo_table.specs.Legal.{InOrder, CommitAllowed}
use Rattle.ooo_table.specs.PathLaws.{newest, Starts, IsPath}
use Rattle.ooo_table.specs.Machine.{Given, setting_of, executed_at, executed_as, instruction_at}
use Rattle.ooo_table.specs.Events.{state_behind, committed_state, stop_word, end_word}
use Rattle.ooo_table.specs.RunLaws.{right_rows, commits_among, IsStep, recorded_by, committed_items, IsRun, IsWhole}
use Rattle.ooo_table.specs.CycleLaws.{Focus, StopsAt}
use Rattle.ooo_table.proofs.RowFacts.{changed_commit, changed_dispatch, changed_issue}
use Rattle.ooo_table.proofs.Route.{stage_keeps, recover_keeps, route_table, path_of}
use Rattle.ooo_table.proofs.Kept.{Kept, kept_at, changed_up_to}
use Rattle.ooo_table.proofs.Counts.{both', count_true, count_false}
use Rattle.ooo_table.proofs.Sound.{Sound, sound_at}
use Rattle.ooo_table.proofs.Deadlines.{sweep_split, each_split}
use Rattle.ooo_table.proofs.Recovered.{untouched_at}
use Rattle.ooo_table.proofs.Stops.{stop_focus}
use Rattle.ooo_table.proofs.Leads.{LeadsOn, step_leads, items_next, exited_halts}

-- ---- facts of rows, wherever a run ends

module _ (set : Setting) where
  pub paths_at : (e : Extent) (c : ℕ) → 1 ≤ set.config.penalty → Each (IsPath set) (rows_at set e c)
  paths_at Whole c pen = path_of set c (table set c).rows (route_table set c pen).0
  paths_at (AtCommit row) c pen =
      path_of set c (rows_at set (AtCommit row) c) (stage_keeps set c c (commit_up_to set row c) (table set c).rows (table set c).next_fetch (omega arith) (changed_up_to set row c) (route_table set c pen)).0
  paths_at AtStop c pen =
      let one = commit set c (table set c) in
      let two = recover set c one in
      let three = issue set c two in
      let base = store_references set c two.rows two.references in
      let k1 = stage_keeps set c c (commit_row set c) (table set c).rows (table set c).next_fetch (omega arith) (changed_commit set c) (route_table set c pen) in
      let k2 = recover_keeps set c one pen k1 in
      let k3 = stage_keeps set c (suc c) (issue_row set c base two.rows) two.rows two.next_fetch (omega arith) (changed_issue set c base two.rows) k2 in
      path_of set (suc c) (rows_at set AtStop c) (stage_keeps set c (suc c) (dispatch_row set c) three.rows three.next_fetch (omega arith) (changed_dispatch set c) k3).0

  -- a dispatched right row doesn't stop
  abbrev pub Proceeds : Row → Type 0
  Proceeds r = r.fetched.right ≡ true → is_some r.dispatched ≡ true → (execution set r).stops ≡ false

  proceeds_dispatch : (c : ℕ) (before : List Row) (r : Row) → Proceeds r → Proceeds (dispatch_row set c before r)
  proceeds_dispatch c before r p = cond_both (dispatches set c before r) (record r { dispatched = Some c }) r Proceeds (λ e w s. not-true _ (entered w (enter e))) (λ _. p)
    where
      enter : dispatches set c before r ≡ true → may_enter set before r ≡ true
      enter e = grind (arith, and_parts)

      entered : r.fetched.right ≡ true → may_enter set before r ≡ true → not (execution set r).stops ≡ true
      entered w m =
          let k : (not (execution set r).stops && (not (execution set r).call || (count_by live before == 0))) ≡ true =
          sym (cond-true r.fetched.right (not (execution set r).stops && (not (execution set r).call || (count_by live before == 0))) (not (execution set r).call) w) ∙ m in
          (and_parts _ _ k).0

  pub proceeds_kept : (c : ℕ) → Kept set c (λ _ r. Proceeds r)
  proceeds_kept c =
      record {
        at_commit = λ older before r zip below p. cond_both (commits set c before r) (record r { committed = Some c }) r Proceeds (λ _. p) (λ _. p);
        at_squash = λ older before r zip below p. cond_both _ (record r { squashed = Some c }) r Proceeds (λ _. p) (λ _. p);
        at_issue = λ base start older before r zip below p.
            cond_both (issues set c start before r) (record r { issued = Some c }) _ Proceeds (λ _. p)
            (λ _. cond_both (accesses set c start before r) (record r { access = Some (access_of set c base before r) }) r Proceeds (λ _. p) (λ _. p));
        at_dispatch = λ older before r zip below p. proceeds_dispatch c before r p;
        at_fetch = λ older u look queued g w s. absurd cc;
        still = λ older before r zip below p. p;
      }

  pub proceeds_at : (e : Extent) (c : ℕ) → Each (λ _ r. Proceeds r) (rows_at set e c)
  proceeds_at e c = kept_at set (λ c _ r. Proceeds r) proceeds_kept (λ c older r p. p) e c

  -- all that is known of a row
  pub record Known (c : ℕ) (older : List Row) (r : Row) : Type 0 where
    pub sound : Sound set c older r
    pub path : IsPath set older r
    pub proceeds : Proceeds r

  joined : (c : ℕ) (rows : List Row) → Each (Sound set c) rows → Each (IsPath set) rows → Each (λ _ r. Proceeds r) rows → Each (Known c) rows
  joined c [] s p q = tt
  joined c (r ∷ rows) s p q = (record { sound = s.0; path = p.0; proceeds = q.0 }, joined c rows s.1 p.1 q.1)

  pub known_at : (e : Extent) (c : ℕ) → 1 ≤ set.config.penalty → Each (Known c) (rows_at set e c)
  known_at e c pen = joined c (rows_at set e c) (sound_at set e c) (paths_at e c pen) (proceeds_at e c)

-- ---- executions

module _ (g : Given) where
  by_outcome : (i : Instr) (s : State) (o : Outcome) → (executed_as i s o).stops ≡ false
      → (did : CommitRecord) × (t : State) × (o ≡ Next did t) × ((executed_as i s o).after ≡ t) × ((executed_as i s o).next ≡ did.next)
  by_outcome i s (Next did t) h = (did, t, refl, refl, refl)
  by_outcome i s (Halt why) h = absurd cc

  -- a right row at the address of its state that can be done does a step
  pub right_step : (r : Row) → r.fetched.right ≡ true → r.fetched.pc ≡ r.fetched.state.pc → (execution (setting_of g) r).stops ≡ false
      → (did : CommitRecord) × (t : State) × (step_of g.trace r.fetched.state ≡ Next did t) × ((execution (setting_of g) r).after ≡ t) × ((execution (setting_of g) r).next ≡ did.next)
  unfolding execution_of executed_at
  right_step r w e h =
      let s : State = r.fetched.state in
      let same : execution (setting_of g) r ≡ executed_as (instruction_at s.text s.pc) s (step_of g.trace s) =
      cond-true r.fetched.right (executed_at g.trace s r.fetched.pc) _ w ∙ ap (executed_at g.trace s) e in
      let (did, t, f, a, n) = by_outcome (instruction_at s.text s.pc) s (step_of g.trace s) (sym (ap (λ x. x.stops) same) ∙ h) in
      (did, t, f, ap (λ x. x.after) same ∙ a, ap (λ x. x.next) same ∙ n)

  -- and where it can't be done the functional machine halts
  right_halt : (r : Row) → r.fetched.right ≡ true → r.fetched.pc ≡ r.fetched.state.pc → (execution (setting_of g) r).stops ≡ true
      → (why : Cause) × (step_of g.trace r.fetched.state ≡ Halt why)
  unfolding execution_of executed_at
  right_halt r w e h =
      let s : State = r.fetched.state in
      let same : execution (setting_of g) r ≡ executed_as (instruction_at s.text s.pc) s (step_of g.trace s) =
      cond-true r.fetched.right (executed_at g.trace s r.fetched.pc) _ w ∙ ap (executed_at g.trace s) e in
      halted (instruction_at s.text s.pc) s (step_of g.trace s) (sym (ap (λ x. x.stops) same) ∙ h)
    where
      halted : (i : Instr) (s : State) (o : Outcome) → (executed_as i s o).stops ≡ true → (why : Cause) × (o ≡ Halt why)
      halted i s (Next did t) h = absurd cc
      halted i s (Halt why) h = (why, refl)

  -- ---- right rows are steps

  pub record Reached (older : List Row) (r : Row) : Type 0 where
    pub steps : Reaches g.trace (right_rows older) g.start r.fetched.state
    pub pc : r.fetched.pc ≡ r.fetched.state.pc

  abbrev Behind : List Row → Option Row → Type 0
  Behind rows None = right_rows rows ≡ 0
  Behind rows (Some m) = (n : ℕ) × (right_rows rows ≡ n + 1) × Reaches g.trace n g.start m.fetched.state × (m.fetched.pc ≡ m.fetched.state.pc) × (m.fetched.right ≡ true)

  behind : (rows : List Row) → Each (λ older r. r.fetched.right ≡ true → Reached older r) rows → Behind rows (newest rows)
  behind [] h = refl
  behind (r ∷ older) h = by_right r.fetched.right refl (behind older h.1)
    where
      by_right : (b : Bool) → r.fetched.right ≡ b → Behind older (newest older) → Behind (r ∷ older) (cond b (Some r) (newest older))
      by_right true e ih =
          let k : Reached older r = h.0 e in
          (right_rows older, omega (arith, count_true (λ r. r.fetched.right) r older e), k.steps, k.pc, e)
      by_right false e ih = fewer (newest older) ih
        where
          fewer : (m : Option Row) → Behind older m → Behind (r ∷ older) m
          fewer None k = count_false (λ r. r.fetched.right) r older e ∙ k
          fewer (Some m) (n, f, s, p, w) = (n, count_false (λ r. r.fetched.right) r older e ∙ f, s, p, w)

  reached_one : (older : List Row) (r : Row) → Each (λ older r. r.fetched.right ≡ true → Reached older r) older → IsPath (setting_of g) older r → r.fetched.right ≡ true → Reached older r
  reached_one older r h path w = by_newest (newest older) (behind older h) (path w)
    where
      by_newest : (m : Option Row) → Behind older m → Starts (setting_of g) m r.fetched → Reached older r
      by_newest None b start =
          let k : Reaches g.trace 0 g.start r.fetched.state = subst (Reaches g.trace 0 g.start) (sym start.0) (reaches_none g.trace g.start) in
          record { steps = subst (λ n. Reaches g.trace n g.start r.fetched.state) (sym b) k; pc = start.1 ∙ ap (λ s. s.pc) (sym start.0) }
      by_newest (Some m) (n, f, s, p, v) start =
          let (did, t, e, a, x) = right_step m v p start.0 in
          let k : Reaches g.trace (n + 1) g.start t = reaches_on g.trace n g.start m.fetched.state t did s (sym e) in
          let same : r.fetched.state ≡ t = start.1 ∙ a in
          let leads : did.next ≡ t.pc = subst LeadsOn e (step_leads g.trace m.fetched.state) in
          record {
            steps = subst (λ n. Reaches g.trace n g.start r.fetched.state) (sym f) (subst (Reaches g.trace (n + 1) g.start) (sym same) k);
            pc = start.2 ∙ (x ∙ (leads ∙ ap (λ s. s.pc) (sym same)));
          }

  pub reached_all : (rows : List Row) → Each (IsPath (setting_of g)) rows → Each (λ older r. r.fetched.right ≡ true → Reached older r) rows
  reached_all [] p = tt
  reached_all (r ∷ rows) p = let ih : Each (λ older r. r.fetched.right ≡ true → Reached older r) rows = reached_all rows p.1 in (reached_one rows r ih p.0, ih)

  steps_of : (rows : List Row) → Each (λ older r. r.fetched.right ≡ true → Reached older r) rows → Each (λ older r. r.fetched.right ≡ true → IsStep g older r) rows
  steps_of [] h = tt
  steps_of (r ∷ rows) h = ((λ w. record { state = after_all g.trace (right_rows rows) g.start r.fetched.state (h.0 w).steps; pc = (h.0 w).pc }), steps_of rows h.1)

  pub steps_at : (e : Extent) (c : ℕ) → 1 ≤ g.config.penalty → Each (λ older r. r.fetched.right ≡ true → IsStep g older r) (rows_at (setting_of g) e c)
  steps_at e c pen = steps_of _ (reached_all _ (paths_at (setting_of g) e c pen))

  -- ---- commits are the first steps

  -- behind these commits the functional machine is in this state
  pub record Ran (rows : List Row) : Type 0 where
    pub steps : Reaches g.trace (commits_among rows) g.start (committed_state (setting_of g) rows)
    pub items : committed_items g rows ≡ items_of g.trace (commits_among rows) g.start

  -- where all earlier right rows have committed, and no others, as many have committed as are right
  same_count : (x : ℕ) (rows : List Row) → Each (λ _. InOrder x) rows → Each (λ _ o. is_some o.committed ≡ true → o.fetched.right ≡ true) rows → commits_among rows ≡ right_rows rows
  same_count x [] f h = refl
  same_count x (o ∷ rows) f h = by_right o.fetched.right (is_some o.committed) refl refl (same_count x rows f.1 h.1)
    where
      set_by : (m : Option ℕ) → By x m → is_some m ≡ true
      set_by None h = absurd h
      set_by (Some y) h = refl

      by_right : (b d : Bool) → o.fetched.right ≡ b → is_some o.committed ≡ d → commits_among rows ≡ right_rows rows → commits_among (o ∷ rows) ≡ right_rows (o ∷ rows)
      by_right true true e k ih = omega (arith, ih, count_true (λ r. is_some r.committed) o rows k, count_true (λ r. r.fetched.right) o rows e)
      by_right false false e k ih = omega (arith, ih, count_false (λ r. is_some r.committed) o rows k, count_false (λ r. r.fetched.right) o rows e)
      by_right true false e k ih = absurd (both' (set_by o.committed (f.0.before e)) k)
      by_right false true e k ih = absurd (both' (h.0 k) e)

  only_right : (c : ℕ) (rows : List Row) → Each (Known (setting_of g) c) rows → Each (λ _ o. is_some o.committed ≡ true → o.fetched.right ≡ true) rows
  only_right c [] k = tt
  only_right c (o ∷ rows) k = (right o.committed k.0.sound.facts.order, only_right c rows k.1)
    where
      right : (m : Option ℕ) → Where m (CommitAllowed (setting_of g) rows o) → is_some m ≡ true → o.fetched.right ≡ true
      right None w h = absurd cc
      right (Some x) w h = w.right

  pub ran_all : (c : ℕ) (rows : List Row) → Each (Known (setting_of g) c) rows → Each (λ older r. r.fetched.right ≡ true → Reached older r) rows → Ran rows
  ran_all c [] k h = record { steps = reaches_none g.trace g.start; items = sym (items_none g.trace g.start) }
  ran_all c (r ∷ rows) k h = by_mark r.committed refl k.0.sound.facts.order (ran_all c rows k.1 h.1)
    where
      set : Setting
      set = setting_of g

      by_mark : (m : Option ℕ) → r.committed ≡ m → Where m (CommitAllowed set rows r) → Ran rows → Ran (r ∷ rows)
      by_mark None e w ih =
          let no_mark : is_some r.committed ≡ false = ap is_some e in
          let less : commits_among (r ∷ rows) ≡ commits_among rows = count_false (λ r. is_some r.committed) r rows no_mark in
          let same : committed_state set (r ∷ rows) ≡ committed_state set rows = ap (λ b. state_behind set (cond b (Some r) (find (λ r. is_some r.committed) rows))) no_mark in
          record {
            steps = subst (λ n. Reaches g.trace n g.start (committed_state set (r ∷ rows))) (sym less) (subst (Reaches g.trace (commits_among rows) g.start) (sym same) ih.steps);
            items = ap (λ b. committed_items g rows ++ cond b (recorded_by g (step_of g.trace r.fetched.state)) []) no_mark
                ∙ (append-nil (committed_items g rows) ∙ (ih.items ∙ ap (λ n. items_of g.trace n g.start) (sym less)));
          }
      by_mark (Some x) e w ih =
          let mark : is_some r.committed ≡ true = ap is_some e in
          let reach : Reached rows r = h.0 w.right in
          let (did, t, f, a, n) = right_step r w.right reach.pc (k.0.proceeds w.right (k.0.sound.facts.left mark)) in
          let count : right_rows rows ≡ commits_among rows = sym (same_count x rows w.order (only_right c rows k.1)) in
          let more : commits_among (r ∷ rows) ≡ commits_among rows + 1 = omega (arith, count_true (λ r. is_some r.committed) r rows mark) in
          let here : Reaches g.trace (commits_among rows) g.start r.fetched.state = subst (λ n. Reaches g.trace n g.start r.fetched.state) count reach.steps in
          let on : Reaches g.trace (commits_among rows + 1) g.start t = reaches_on g.trace (commits_among rows) g.start r.fetched.state t did here (sym f) in
          let state : committed_state set (r ∷ rows) ≡ t = ap (λ b. state_behind set (cond b (Some r) (find (λ r. is_some r.committed) rows))) mark ∙ a in
          let at : step_of g.trace (after g.trace (commits_among rows) g.start) ≡ Next did t =
          subst (λ s. step_of g.trace s ≡ Next did t) (after_all g.trace (commits_among rows) g.start r.fetched.state here) f in
          let next : suc (commits_among rows) ≡ commits_among (r ∷ rows) = omega (arith, more) in
          record {
            steps = subst (λ n. Reaches g.trace n g.start (committed_state set (r ∷ rows))) (sym more) (subst (Reaches g.trace (commits_among rows + 1) g.start) (sym state) on);
            items = ap (λ b. committed_items g rows ++ cond b (recorded_by g (step_of g.trace r.fetched.state)) []) mark
                ∙ (ap (λ o. committed_items g rows ++ recorded_by g o) f
                ∙ (ap (λ l. l ++ (item_of g.trace did ∷ [])) ih.items
                ∙ (sym (items_next g.trace (commits_among rows) g.start t did at) ∙ ap (λ n. items_of g.trace n g.start) next)));
          }

  pub ran_at : (e : Extent) (c : ℕ) → 1 ≤ g.config.penalty → Ran (rows_at (setting_of g) e c)
  ran_at e c pen =
      let rows : List Row = rows_at (setting_of g) e c in
      ran_all c rows (known_at (setting_of g) e c pen) (reached_all rows (paths_at (setting_of g) e c pen))

  pub run_at : (e : Extent) (c : ℕ) → 1 ≤ g.config.penalty → IsRun g (rows_at (setting_of g) e c)
  run_at e c pen =
      let ran : Ran (rows_at (setting_of g) e c) = ran_at e c pen in
      record { items = ran.items; state = after_all g.trace (commits_among (rows_at (setting_of g) e c)) g.start (committed_state (setting_of g) (rows_at (setting_of g) e c)) ran.steps }

  -- ---- ends

  -- where the functional machine halts behind the commits, they are the whole run
  pub whole : (rows : List Row) (why : Cause) → Ran rows → step_of g.trace (committed_state (setting_of g) rows) ≡ Halt why → IsWhole g rows why
  whole rows why ran h =
      record {
        items = λ n le. items_stop g.trace (commits_among rows) n g.start (committed_state (setting_of g) rows) why ran.steps le (sym h) ∙ sym ran.items;
        state = λ n le. sym (after_stop g.trace (commits_among rows) n g.start (committed_state (setting_of g) rows) why ran.steps le (sym h));
        ending = λ n lt. sym (end_stop g.trace (commits_among rows) n g.start (committed_state (setting_of g) rows) why ran.steps lt (sym h));
      }

  pub exit_at : (e : Extent) (c code : ℕ) → 1 ≤ g.config.penalty → (committed_state (setting_of g) (rows_at (setting_of g) e c)).ended ≡ Some code
      → IsWhole g (rows_at (setting_of g) e c) (cause.Exited code)
  exit_at e c code pen h =
      whole (rows_at (setting_of g) e c) (cause.Exited code) (ran_at e c pen) (exited_halts g.trace (committed_state (setting_of g) (rows_at (setting_of g) e c)) code h)

  -- the dispatch stage leaves all of them as they are
  undispatched : (c : ℕ) (rows : List Row) → Each (λ _ o. waiting o ≡ false) rows → sweep (dispatch_row (setting_of g) c) rows ≡ rows
  undispatched c [] h = refl
  undispatched c (o ∷ rows) h =
      ap (λ l. dispatch_row (setting_of g) c l o ∷ l) (undispatched c rows h.1)
      ∙ ap (λ x. x ∷ rows) (cond-false (dispatches (setting_of g) c rows o) (record o { dispatched = Some c }) o (false_from_ne_true _ (λ d. both' (waits d) h.0)))
    where
      waits : dispatches (setting_of g) c rows o ≡ true → waiting o ≡ true
      waits d = grind (arith, and_parts)

  refused : (c : ℕ) (older : List Row) (r : Row) → StopsAt (setting_of g) c older r → dispatch_row (setting_of g) c older r ≡ r
  refused c older r s = cond-false (dispatches (setting_of g) c older r) (record r { dispatched = Some c }) r (false_from_ne_true _ (λ d. both' s.stops (not-true _ (entered (enter d)))))
    where
      enter : dispatches (setting_of g) c older r ≡ true → may_enter (setting_of g) older r ≡ true
      enter e = grind (arith, and_parts)

      entered : may_enter (setting_of g) older r ≡ true → not (execution (setting_of g) r).stops ≡ true
      entered m =
          let k : (not (execution (setting_of g) r).stops && (not (execution (setting_of g) r).call || (count_by live older == 0))) ≡ true =
          sym (cond-true r.fetched.right (not (execution (setting_of g) r).stops && (not (execution (setting_of g) r).call || (count_by live older == 0))) (not (execution (setting_of g) r).call) s.right) ∙ m in
          (and_parts _ _ k).0

  -- so in the rows at a stop this row stands as it was found
  stop_row : (c : ℕ) → stops_in (setting_of g) c (table (setting_of g) c) ≡ true → Focus (StopsAt (setting_of g) c) (rows_at (setting_of g) AtStop c)
  stop_row c h =
      let rows : List Row = (issue (setting_of g) c (recover (setting_of g) c (commit (setting_of g) c (table (setting_of g) c)))).rows in
      let (younger, older, r, e, facts) = stop_focus (setting_of g) c rows h in
      let new : (new : List Row) × (sweep (dispatch_row (setting_of g) c) (younger ++ (r ∷ older)) ≡ new ++ sweep (dispatch_row (setting_of g) c) (r ∷ older)) = sweep_split (dispatch_row (setting_of g) c) younger (r ∷ older) in
      let same : sweep (dispatch_row (setting_of g) c) (r ∷ older) ≡ r ∷ older = ap (λ l. dispatch_row (setting_of g) c l r ∷ l) (undispatched c older facts.passed) ∙ ap (λ x. x ∷ older) (refused c older r facts) in
      (new.0, older, r, ap (sweep (dispatch_row (setting_of g) c)) e ∙ (new.1 ∙ ap (λ l. new.0 ++ l) same), facts)

  -- rows behind an uncommitted right row have not committed
  none_behind : (c : ℕ) (younger older : List Row) (r : Row) → r.fetched.right ≡ true → r.committed ≡ None → Each (Known (setting_of g) c) (younger ++ (r ∷ older))
      → commits_among (younger ++ (r ∷ older)) ≡ commits_among older
  none_behind c [] older r w e k = count_false (λ r. is_some r.committed) r older (ap is_some e)
  none_behind c (y ∷ younger) older r w e k = count_false (λ r. is_some r.committed) y (younger ++ (r ∷ older)) (unset y.committed k.0.sound.facts.order) ∙ none_behind c younger older r w e k.1
    where
      by_none : (x : ℕ) (m : Option ℕ) → m ≡ None → By x m → ⊥
      by_none x None f h = h
      by_none x (Some z) f h = cc

      unset : (m : Option ℕ) → Where m (CommitAllowed (setting_of g) (younger ++ (r ∷ older)) y) → is_some m ≡ false
      unset None h = refl
      unset (Some x) h = absurd (by_none x r.committed e ((each_split (λ _. InOrder x) younger older r h.order).0.before w))

  -- before the row all right rows have committed
  all_committed : (c : ℕ) (rows : List Row) → Each (λ _ o. waiting o ≡ false) rows → Each (λ _ o. live o ≡ false) rows → Each (λ _ o. o.fetched.right ≡ true → o.squashed ≡ None) rows
      → Each (λ _ o. is_some o.committed ≡ true → o.fetched.right ≡ true) rows → commits_among rows ≡ right_rows rows
  all_committed c [] p l u f = refl
  all_committed c (o ∷ rows) p l u f = by_right o.fetched.right (is_some o.committed) refl refl (all_committed c rows p.1 l.1 u.1 f.1)
    where
      over : (d m x : Option ℕ) → x ≡ None → (is_none d && is_none x) ≡ false → (is_some d && is_none m && is_none x) ≡ false → is_some m ≡ true
      over d (Some y) x e h k = refl
      over None None x e h k = absurd (both' (ap is_none e) h)
      over (Some z) None x e h k = absurd (both' (ap is_none e) k)

      by_right : (b d : Bool) → o.fetched.right ≡ b → is_some o.committed ≡ d → commits_among rows ≡ right_rows rows → commits_among (o ∷ rows) ≡ right_rows (o ∷ rows)
      by_right true true e k ih = omega (arith, ih, count_true (λ r. is_some r.committed) o rows k, count_true (λ r. r.fetched.right) o rows e)
      by_right false false e k ih = omega (arith, ih, count_false (λ r. is_some r.committed) o rows k, count_false (λ r. r.fetched.right) o rows e)
      by_right true false e k ih = absurd (both' (over o.dispatched o.committed o.squashed (u.0 e) p.0 l.0) k)
      by_right false true e k ih = absurd (both' (f.0 k) e)

  -- at a stop the functional machine halts behind the commits
  pub halts_at : (c : ℕ) → 1 ≤ g.config.penalty → stops_in (setting_of g) c (table (setting_of g) c) ≡ true
      → (why : Cause) × (step_of g.trace (committed_state (setting_of g) (rows_at (setting_of g) AtStop c)) ≡ Halt why)
  halts_at c pen h =
      let rows : List Row = rows_at (setting_of g) AtStop c in
      let (younger, older, r, e, s) = stop_row c h in
      let known : Each (Known (setting_of g) c) (younger ++ (r ∷ older)) = subst (Each (Known (setting_of g) c)) e (known_at (setting_of g) AtStop c pen) in
      let mine : Known (setting_of g) c older r × Each (Known (setting_of g) c) older = each_split (Known (setting_of g) c) younger older r known in
      let reach : Reached older r = (each_split (λ older r. r.fetched.right ≡ true → Reached older r) younger older r (subst (Each (λ older r. r.fetched.right ≡ true → Reached older r)) e (reached_all rows (paths_at (setting_of g) AtStop c pen)))).0 s.right in
      let stay : Each (λ _ o. o.fetched.right ≡ true → o.squashed ≡ None) older = (each_split (λ _ o. o.fetched.right ≡ true → o.squashed ≡ None) younger older r (subst (Each (λ _ o. o.fetched.right ≡ true → o.squashed ≡ None)) e (untouched_at (setting_of g) AtStop c pen))).1 in
      let left : r.committed ≡ None = uncommitted r.committed r.dispatched r.squashed s.waits mine.0.sound.facts.left in
      let count : right_rows older ≡ commits_among rows =
      sym (ap commits_among e ∙ (none_behind c younger older r s.right left known ∙ all_committed c older s.passed s.gone stay (only_right c older mine.1))) in
      let there : r.fetched.state ≡ after g.trace (commits_among rows) g.start = subst (λ n. r.fetched.state ≡ after g.trace n g.start) count (after_all g.trace (right_rows older) g.start r.fetched.state reach.steps) in
      let same : committed_state (setting_of g) rows ≡ r.fetched.state = (run_at AtStop c pen).state ∙ sym there in
      let (why, f) = right_halt r s.right reach.pc s.stops in
      (why, ap (step_of g.trace) same ∙ f)
    where
      uncommitted : (m d x : Option ℕ) → (is_none d && is_none x) ≡ true → (is_some m ≡ true → is_some d ≡ true) → m ≡ None
      uncommitted None d x w f = refl
      uncommitted (Some y) None x w f = absurd (both' (f refl) refl)
      uncommitted (Some y) (Some z) x w f = absurd cc

  or_stops : (b : Bool) (m : Option ℕ) → or_stop b m ≡ Some AtStop → b ≡ true
  or_stops true m h = refl
  or_stops false None h = absurd cc
  or_stops false (Some row) h = absurd cc

  pub stop_at : (most c : ℕ) → 1 ≤ g.config.penalty → end_in (setting_of g) most c ≡ Some AtStop
      → (why : Cause) × IsWhole g (rows_at (setting_of g) AtStop c) why × (end_word g AtStop c ≡ stop_word (committed_state (setting_of g) (rows_at (setting_of g) AtStop c)) (Halt why))
  stop_at most c pen h =
      let (why, f) = halts_at c pen (or_stops (stops_in (setting_of g) c (table (setting_of g) c)) (last_commit (setting_of g) most c (commit (setting_of g) c (table (setting_of g) c)).rows) h) in
      (why, whole (rows_at (setting_of g) AtStop c) why (ran_at AtStop c pen) f, ap (stop_word (committed_state (setting_of g) (rows_at (setting_of g) AtStop c))) f)
