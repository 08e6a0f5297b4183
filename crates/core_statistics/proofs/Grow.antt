-- The counts of the table grow from stage to stage by what each stage did.
use Rattle.std.proofs.Common.{◌≡◌, ℕ, zero, suc, ◌+◌, ◌<◌, ◌≤◌, Bool, true, false, cond, List, [], ◌∷◌, ◌++◌, Option, Some, None, refl, sym, ap, ◌∙◌, subst, arith, inl, inr, length, length-append}
use Rattle.std.specs.Prelude.{◌⊎◌, ◌&&◌, ◌==◌, not, is_some, is_none, option_map, nat_lt, count_by, if◌then◌else◌}
use Rattle.std.specs.List.{list_any}
use Rattle.std.proofs.lemmas.Bool.{cond_both, and_parts}
use Rattle.std.proofs.lemmas.Bool.Decides.{nat_tests}
use Rattle.pisa_isa.specs.declared.classes.UnitClass.{UnitClass}
use Rattle.bpred_unit.specs.declared.predictor.Look.{Look}
use Rattle.mem_hier.specs.Replay.{Reference}
use Rattle.ooo_table.specs.Row.{Fetched, Row, MemoryAccess, is_at, is_before, accessed, not_forwarded, sweep}
use Rattle.ooo_table.specs.Table.{Setting, NextFetch, Table}
use Rattle.ooo_table.specs.Fetch.{fetch_up_to, fetch_one, may_fetch, fetched_row, queue_cycle}
use Rattle.ooo_table.specs.Path as path
use Rattle.ooo_table.specs.Path.{execution, execution_of, mispredicted}
use Rattle.ooo_table.specs.Done.{written, unsquashed_before}
use Rattle.ooo_table.specs.Commit.{commits, commit_row}
use Rattle.ooo_table.specs.Recovery.{recovers, squash_row}
use Rattle.ooo_table.specs.References.{store_references, references_of, predictor_events_of}
use Rattle.ooo_table.specs.Issue.{issues, accesses, access_of, issue_row}
use Rattle.ooo_table.specs.Dispatch.{dispatches, dispatch_row}
use Rattle.ooo_table.specs.Execution.{unit_latency}
use Rattle.ooo_table.specs.Cycle.{table, after_commit, after_recover, after_issue, after_dispatch}
use Rattle.ooo_table.specs.Ends.{Whole, happened}
use Rattle.ooo_table.specs.Later.{Each, Where, Past}
use Rattle.ooo_table.specs.Counts.{Counts, committed_as}
use Rattle.ooo_table.specs.Counts as counted
use Rattle.ooo_table.proofs.Counts.{one, past_table, now_dispatched, fetched_same, count_zero, count_true}
use Rattle.ooo_table.proofs.Kept.{each_of}
use Rattle.ooo_table.proofs.Recovered.{untouched_at}
use Rattle.core_parts.proofs.Lists.{same_number}
use Rattle.ooo_table.proofs.Order.{Changed, Now}
use Rattle.ooo_table.proofs.RowFacts.{changed_commit, changed_squash, changed_dispatch, changed_issue}
use Rattle.core_statistics.specs.CountLaws.{CountsGrow}
use Rattle.core_statistics.specs.Counted.{counts_in, recovered_in, commits_now, plus_commits, plus_recovery, plus_issues, plus_dispatches, plus_fetches}
use Rattle.core_statistics.proofs.Sums.{count_append, swept_sum, swept_same, swept_length, swept_each, any_row}
use Rattle.core_statistics.proofs.Marks.{mark_grows, mark_set, access_grows, happens, written_later}

abbrev counts_from : ℕ → ℕ → ℕ → ℕ → ℕ → ℕ → ℕ → ℕ → ℕ → ℕ → ℕ → Counts
counts_from k0 k1 k2 k3 k4 k5 k6 k7 k8 k9 k10 = record { insn = k0; loads = k1; stores = k2; branches = k3; calls = k4; fetched = k5; dispatched = k6; squashed = k7; recoveries = k8; forwarded = k9; addr_hits = k10 }

parts_alike : (k0 k1 k2 k3 k4 k5 k6 k7 k8 k9 k10 m0 m1 m2 m3 m4 m5 m6 m7 m8 m9 m10 : ℕ) → k0 ≡ m0 → k1 ≡ m1 → k2 ≡ m2 → k3 ≡ m3 → k4 ≡ m4 → k5 ≡ m5 → k6 ≡ m6 → k7 ≡ m7 → k8 ≡ m8 → k9 ≡ m9 → k10 ≡ m10
    → counts_from k0 k1 k2 k3 k4 k5 k6 k7 k8 k9 k10 ≡ counts_from m0 m1 m2 m3 m4 m5 m6 m7 m8 m9 m10
parts_alike k0 k1 k2 k3 k4 k5 k6 k7 k8 k9 k10 m0 m1 m2 m3 m4 m5 m6 m7 m8 m9 m10 e0 e1 e2 e3 e4 e5 e6 e7 e8 e9 e10 = cc

-- counts whose parts are the same
pub same_counts : (a b : Counts) → a.insn ≡ b.insn → a.loads ≡ b.loads → a.stores ≡ b.stores → a.branches ≡ b.branches → a.calls ≡ b.calls → a.fetched ≡ b.fetched
    → a.dispatched ≡ b.dispatched → a.squashed ≡ b.squashed → a.recoveries ≡ b.recoveries → a.forwarded ≡ b.forwarded → a.addr_hits ≡ b.addr_hits → a ≡ b
same_counts a b e1 e2 e3 e4 e5 e6 e7 e8 e9 e10 e11 =
    parts_alike a.insn a.loads a.stores a.branches a.calls a.fetched a.dispatched a.squashed a.recoveries a.forwarded a.addr_hits b.insn b.loads b.stores b.branches b.calls b.fetched b.dispatched b.squashed b.recoveries b.forwarded b.addr_hits e1 e2 e3 e4 e5 e6 e7 e8 e9 e10 e11

module _ (set : Setting) (c : ℕ) where
  -- ---- commits

  commit_keeps : {A : Type 0} (f : Row → A) → ((r : Row) → f (record r { committed = Some c }) ≡ f r) → (before : List Row) (r : Row) → f (commit_row set c before r) ≡ f r
  commit_keeps f e before r = cond_both (commits set c before r) (record r { committed = Some c }) r (λ s. f s ≡ f r) (λ _. e r) (λ _. refl)

  -- rows that pass a test of what they do
  commit_adds : (p : Row → Bool) → ((r : Row) → p (record r { committed = Some c }) ≡ p r) → (before : List Row) (r : Row) → Past c r
      → one (is_some (commit_row set c before r).committed && p (commit_row set c before r)) ≡ one (is_some r.committed && p r) + one (is_at c (commit_row set c before r).committed && p (commit_row set c before r))
  commit_adds p e before r past =
      let k : p (commit_row set c before r) ≡ p r = commit_keeps p e before r in
      rw k (mark_grows c r.committed (commit_row set c before r).committed (p r) past.committed (changed_commit set c before r).committed)

  abbrev turns : List Row → List Row
  turns older = sweep (commit_row set c) older

  -- with younger rows before them
  part_adds : (p : Row → Bool) → ((r : Row) → p (record r { committed = Some c }) ≡ p r) → (younger older : List Row) → Each (λ _. Past c) older
      → count_by (committed_as set p) (younger ++ turns older) ≡ count_by (committed_as set p) (younger ++ older) + commits_now set c p (turns older)
  part_adds p e younger older past =
      omega (
        arith,
        count_append (committed_as set p) younger (turns older),
        count_append (committed_as set p) younger older,
        swept_sum (committed_as set p) (committed_as set p) (λ r. is_at c r.committed && p r) (commit_row set c) (Past c) (commit_adds p e) older past,
      )

  part_keeps : (p : Row → Bool) → ((r : Row) → p (record r { committed = Some c }) ≡ p r) → (younger older : List Row)
      → count_by p (younger ++ turns older) ≡ count_by p (younger ++ older)
  part_keeps p e younger older =
      omega (
        arith,
        count_append p younger (turns older),
        count_append p younger older,
        swept_same p p (commit_row set c) (λ _. Unit {0}) (λ b r u. commit_keeps p e b r) older (any_row older),
      )

  part_length : (younger older : List Row) → length (younger ++ turns older) ≡ length (younger ++ older)
  part_length younger older = omega (arith, length-append younger (turns older), length-append younger older, swept_length (commit_row set c) older)

  abbrev turned : List Row → List Row → List Row
  turned younger older = younger ++ turns older

  part_sets : (younger older : List Row) → Each (λ _. Past c) older
      → count_by (λ r. is_some r.committed) (turned younger older) ≡ count_by (λ r. is_some r.committed) (younger ++ older) + count_by (λ r. is_at c r.committed) (turns older)
  part_sets younger older past =
      omega (
        arith,
        count_append (λ r. is_some r.committed) younger (turns older),
        count_append (λ r. is_some r.committed) younger older,
        swept_sum (λ r. is_some r.committed) (λ r. is_some r.committed) (λ r. is_at c r.committed) (commit_row set c) (Past c)
            (λ b r p. mark_set c r.committed (commit_row set c b r).committed p.committed (changed_commit set c b r).committed) older past,
      )

  older_past : (younger older : List Row) → Each (λ _. Past c) (younger ++ older) → Each (λ _. Past c) older
  older_past [] older h = h
  older_past (y ∷ younger) older h = older_past younger older h.1

  grown_by_commits : (younger older : List Row) → Each (λ _. Past c) older
      → counts_in set c (turned younger older) ≡ plus_commits set c (turns older) (counts_in set c (younger ++ older))
  grown_by_commits younger older past =
      same_counts (counts_in set c (turned younger older)) (plus_commits set c (turns older) (counts_in set c (younger ++ older)))
      (part_sets younger older past)
      (part_adds (path.loads set) (λ r. refl) younger older past)
      (part_adds (path.stores set) (λ r. refl) younger older past)
      (part_adds (λ r. (execution set r).control) (λ r. refl) younger older past)
      (part_adds (λ r. (execution set r).call) (λ r. refl) younger older past)
      (part_length younger older)
      (part_keeps (λ r. is_some r.dispatched) (λ r. refl) younger older)
      (part_keeps (λ r. is_some r.squashed) (λ r. refl) younger older)
      (part_keeps (recovered_in set c) (λ r. refl) younger older)
      (part_keeps (λ r. not (not_forwarded r.access)) (λ r. refl) younger older)
      (part_adds (counted.is_hit set) (λ r. refl) younger older past)

  pub commits_grow : (younger older : List Row) → (table set c).rows ≡ younger ++ older
      → counts_in set c (younger ++ sweep (commit_row set c) older) ≡ plus_commits set c (sweep (commit_row set c) older) (counts_in set c (table set c).rows)
  commits_grow younger older e =
      subst (λ rows. counts_in set c (turned younger older) ≡ plus_commits set c (turns older) (counts_in set c rows)) (sym e)
      (grown_by_commits younger older (older_past younger older (subst (Each (λ _. Past c)) e (past_table set c))))

  -- ---- dispatches

  dispatch_keeps : {A : Type 0} (f : Row → A) → ((r : Row) → f (record r { dispatched = Some c }) ≡ f r) → (before : List Row) (r : Row) → f (dispatch_row set c before r) ≡ f r
  dispatch_keeps f e before r = cond_both (dispatches set c before r) (record r { dispatched = Some c }) r (λ s. f s ≡ f r) (λ _. e r) (λ _. refl)

  dispatched_same : (p : Row → Bool) → ((r : Row) → p (record r { dispatched = Some c }) ≡ p r) → count_by p (after_dispatch set c).rows ≡ count_by p (after_issue set c).rows
  dispatched_same p e = swept_same p p (dispatch_row set c) (λ _. Unit {0}) (λ b r u. dispatch_keeps p e b r) (after_issue set c).rows (any_row (after_issue set c).rows)

  -- marks of earlier cycles
  abbrev Squashed : Row → Type 0
  Squashed r = Where r.squashed (λ d. d < c)

  abbrev Dispatched : Row → Type 0
  Dispatched r = Where r.dispatched (λ d. d < c)

  abbrev Accessed : Row → Type 0
  Accessed r = Where r.access (λ a. a.at < c)

  each_past : (P : Row → Type 0) → ((r : Row) → Past c r → P r) → Each (λ _. P) (table set c).rows
  each_past P f = each_of (λ _. Past c) (λ _. P) (λ older r h. f r h) (table set c).rows (past_table set c)

  squash_keeps : {A : Type 0} (f : Row → A) → ((r : Row) → f (record r { squashed = Some c }) ≡ f r) → (before : List Row) (r : Row) → f (squash_row set c before r) ≡ f r
  squash_keeps f e before r = cond_both (list_any (recovers set c) before && is_none r.squashed) (record r { squashed = Some c }) r (λ s. f s ≡ f r) (λ _. e r) (λ _. refl)

  issue_keeps : {A : Type 0} (f : Row → A) (base : List Reference) (start : List Row) → ((r : Row) → f (record r { issued = Some c }) ≡ f r) → ((r : Row) (a : MemoryAccess) → f (record r { access = Some a }) ≡ f r)
      → (before : List Row) (r : Row) → f (issue_row set c base start before r) ≡ f r
  issue_keeps f base start e a before r =
      cond_both (issues set c start before r) (record r { issued = Some c }) _ (λ s. f s ≡ f r) (λ _. e r)
      (λ _. cond_both (accesses set c start before r) (record r { access = Some (access_of set c base before r) }) r (λ s. f s ≡ f r) (λ _. a r (access_of set c base before r)) (λ _. refl))

  squashed_one : Each (λ _. Squashed) (after_commit set c).rows
  squashed_one =
      swept_each Squashed (commit_row set c) (λ b r h. subst (λ m. Where m (λ d. d < c)) (sym (commit_keeps (λ s. s.squashed) (λ s. refl) b r)) h)
      (table set c).rows (each_past Squashed (λ r p. p.squashed))

  dispatched_three : Each (λ _. Dispatched) (after_issue set c).rows
  dispatched_three =
      let one = swept_each Dispatched (commit_row set c) (λ b r h. subst (λ m. Where m (λ d. d < c)) (sym (commit_keeps (λ s. s.dispatched) (λ s. refl) b r)) h)
      (table set c).rows (each_past Dispatched (λ r p. p.dispatched)) in
      let two = swept_each Dispatched (squash_row set c) (λ b r h. subst (λ m. Where m (λ d. d < c)) (sym (squash_keeps (λ s. s.dispatched) (λ s. refl) b r)) h)
      (after_commit set c).rows one in
      swept_each Dispatched (issue_row set c base (after_recover set c).rows)
      (λ b r h. subst (λ m. Where m (λ d. d < c)) (sym (issue_keeps (λ s. s.dispatched) base (after_recover set c).rows (λ s. refl) (λ s a. refl) b r)) h)
      (after_recover set c).rows two
    where
      base : List Reference
      base = store_references set c (after_recover set c).rows (after_recover set c).references

  accessed_two : Each (λ _. Accessed) (after_recover set c).rows
  accessed_two =
      let one = swept_each Accessed (commit_row set c) (λ b r h. subst (λ m. Where m (λ a. a.at < c)) (sym (commit_keeps (λ s. s.access) (λ s. refl) b r)) h)
      (table set c).rows (each_past Accessed (λ r p. p.access)) in
      swept_each Accessed (squash_row set c) (λ b r h. subst (λ m. Where m (λ a. a.at < c)) (sym (squash_keeps (λ s. s.access) (λ s. refl) b r)) h)
      (after_commit set c).rows one

  pub dispatches_grow : counts_in set (suc c) (after_dispatch set c).rows ≡ plus_dispatches set c (after_dispatch set c).rows (counts_in set (suc c) (after_issue set c).rows)
  dispatches_grow =
      same_counts (counts_in set (suc c) (after_dispatch set c).rows) (plus_dispatches set c (after_dispatch set c).rows (counts_in set (suc c) (after_issue set c).rows))
      (dispatched_same (λ r. is_some r.committed) (λ r. refl))
      (dispatched_same (committed_as set (path.loads set)) (λ r. refl))
      (dispatched_same (committed_as set (path.stores set)) (λ r. refl))
      (dispatched_same (committed_as set (λ r. (execution set r).control)) (λ r. refl))
      (dispatched_same (committed_as set (λ r. (execution set r).call)) (λ r. refl))
      (swept_length (dispatch_row set c) (after_issue set c).rows)
      (swept_sum (λ r. is_some r.dispatched) (λ r. is_some r.dispatched) (λ r. is_at c r.dispatched) (dispatch_row set c) Dispatched
      (λ b r p. mark_set c r.dispatched (dispatch_row set c b r).dispatched p (now_dispatched c r (dispatch_row set c b r) (changed_dispatch set c b r))) (after_issue set c).rows dispatched_three)
      (dispatched_same (λ r. is_some r.squashed) (λ r. refl))
      (dispatched_same (recovered_in set (suc c)) (λ r. refl))
      (dispatched_same (λ r. not (not_forwarded r.access)) (λ r. refl))
      (dispatched_same (committed_as set (counted.is_hit set)) (λ r. refl))

  -- ---- recovery

  squashed_same : (p p' : Row → Bool) → ((b : List Row) (r : Row) → p' (squash_row set c b r) ≡ p r) → count_by p' (after_recover set c).rows ≡ count_by p (after_commit set c).rows
  squashed_same p p' e = swept_same p p' (squash_row set c) (λ _. Unit {0}) (λ b r u. e b r) (after_commit set c).rows (any_row (after_commit set c).rows)

  abbrev Right : Row → Type 0
  Right r = r.fetched.right ≡ true → r.squashed ≡ None

  right_one : 1 ≤ set.config.penalty → Each (λ _. Right) (after_commit set c).rows
  right_one pen =
      swept_each Right (commit_row set c)
      (λ b r h k. commit_keeps (λ s. s.squashed) (λ s. refl) b r ∙ h (ap (λ f. f.right) (sym (commit_keeps (λ s. s.fetched) (λ s. refl) b r)) ∙ k))
      (table set c).rows (untouched_at set Whole c pen)

  -- the W of a mispredicted row has come by the end of the cycle where it had come before, or comes in it
  recovers_now : (m : Bool) (w : Option ℕ) (r s : Row) → (m ≡ true → r.squashed ≡ None) → Now (λ d. d ≡ c) r.squashed s.squashed
      → one (m && is_some (happened (suc c) s w)) ≡ one (m && is_some (happened c r w)) + one (m && is_at c w)
  recovers_now false w r s u n = refl
  recovers_now true None r s u n = refl
  recovers_now true (Some w) r s u n = happens c w r s (u refl) n

  of_right : (r : Row) → mispredicted set r ≡ true → r.fetched.right ≡ true
  of_right r h = (and_parts _ _ (and_parts _ _ h).0).0

  pub recovery_grows : 1 ≤ set.config.penalty
      → counts_in set (suc c) (after_recover set c).rows ≡ plus_recovery set c (after_recover set c).rows (counts_in set c (after_commit set c).rows)
  recovery_grows pen =
      same_counts (counts_in set (suc c) (after_recover set c).rows) (plus_recovery set c (after_recover set c).rows (counts_in set c (after_commit set c).rows))
      (squashed_same (λ r. is_some r.committed) (λ r. is_some r.committed) (squash_keeps (λ r. is_some r.committed) (λ r. refl)))
      (squashed_same (committed_as set (path.loads set)) (committed_as set (path.loads set)) (squash_keeps (committed_as set (path.loads set)) (λ r. refl)))
      (squashed_same (committed_as set (path.stores set)) (committed_as set (path.stores set)) (squash_keeps (committed_as set (path.stores set)) (λ r. refl)))
      (squashed_same (committed_as set (λ r. (execution set r).control)) (committed_as set (λ r. (execution set r).control)) (squash_keeps (committed_as set (λ r. (execution set r).control)) (λ r. refl)))
      (squashed_same (committed_as set (λ r. (execution set r).call)) (committed_as set (λ r. (execution set r).call)) (squash_keeps (committed_as set (λ r. (execution set r).call)) (λ r. refl)))
      (swept_length (squash_row set c) (after_commit set c).rows)
      (squashed_same (λ r. is_some r.dispatched) (λ r. is_some r.dispatched) (squash_keeps (λ r. is_some r.dispatched) (λ r. refl)))
      (swept_sum (λ r. is_some r.squashed) (λ r. is_some r.squashed) (λ r. is_at c r.squashed) (squash_row set c) Squashed
      (λ b r p. mark_set c r.squashed (squash_row set c b r).squashed p (changed_squash set c b r).squashed) (after_commit set c).rows squashed_one)
      (swept_sum (recovered_in set c) (recovered_in set (suc c)) (recovers set c) (squash_row set c) Right recovering (after_commit set c).rows (right_one pen))
      (squashed_same (λ r. not (not_forwarded r.access)) (λ r. not (not_forwarded r.access)) (squash_keeps (λ r. not (not_forwarded r.access)) (λ r. refl)))
      (squashed_same (committed_as set (counted.is_hit set)) (committed_as set (counted.is_hit set)) (squash_keeps (committed_as set (counted.is_hit set)) (λ r. refl)))
    where
      recovering : (b : List Row) (r : Row) → Right r
          → one (recovered_in set (suc c) (squash_row set c b r)) ≡ one (recovered_in set c r) + one (recovers set c (squash_row set c b r))
      recovering b r u =
          let s = squash_row set c b r in
          let m : mispredicted set s ≡ mispredicted set r = squash_keeps (mispredicted set) (λ x. refl) b r in
          let w : written set s ≡ written set r = squash_keeps (written set) (λ x. refl) b r in
          rw m (rw w (recovers_now (mispredicted set r) (written set r) r s (λ h. u (of_right r h)) (changed_squash set c b r).squashed))

  -- ---- issues

  abbrev base : List Reference
  base = store_references set c (after_recover set c).rows (after_recover set c).references

  abbrev start : List Row
  start = (after_recover set c).rows

  issued_same : (p : Row → Bool) → ((r : Row) → p (record r { issued = Some c }) ≡ p r) → ((r : Row) (a : MemoryAccess) → p (record r { access = Some a }) ≡ p r)
      → count_by p (after_issue set c).rows ≡ count_by p start
  issued_same p e a = swept_same p p (issue_row set c base start) (λ _. Unit {0}) (λ b r u. issue_keeps p base start e a b r) start (any_row start)

  -- what issues in the cycle is written back later
  written_stays : (m : Bool) (i i' : Option ℕ) (u : UnitClass) (r s : Row) → s.squashed ≡ r.squashed → Now (λ d. d ≡ c) i i'
      → (m && is_some (happened (suc c) s (option_map (λ x. x + unit_latency u) i'))) ≡ (m && is_some (happened (suc c) r (option_map (λ x. x + unit_latency u) i)))
  written_stays false i i' u r s e n = refl
  written_stays true i i' u r s e (inl f) = rw f (alike (option_map (λ x. x + unit_latency u) i))
    where
      alike : (w : Option ℕ) → is_some (happened (suc c) s w) ≡ is_some (happened (suc c) r w)
      alike None = refl
      alike (Some w) = ap (λ q. is_some (cond (nat_lt w (suc c) && not (is_before w q)) (Some w) None)) e
  written_stays true i None u r s e (inr (f, k, at)) = absurd cc
  written_stays true i (Some x) u r s e (inr (f, k, at)) =
      let a : happened (suc c) s (Some (x + unit_latency u)) ≡ None = subst (λ y. happened (suc c) s (Some (y + unit_latency u)) ≡ None) (sym at) (written_later c s u) in
      rw f (ap is_some a)

  pub issues_grow : counts_in set (suc c) (after_issue set c).rows ≡ plus_issues set c (after_issue set c).rows (counts_in set (suc c) (after_recover set c).rows)
  issues_grow =
      same_counts (counts_in set (suc c) (after_issue set c).rows) (plus_issues set c (after_issue set c).rows (counts_in set (suc c) (after_recover set c).rows))
      (issued_same (λ r. is_some r.committed) (λ r. refl) (λ r a. refl))
      (issued_same (committed_as set (path.loads set)) (λ r. refl) (λ r a. refl))
      (issued_same (committed_as set (path.stores set)) (λ r. refl) (λ r a. refl))
      (issued_same (committed_as set (λ r. (execution set r).control)) (λ r. refl) (λ r a. refl))
      (issued_same (committed_as set (λ r. (execution set r).call)) (λ r. refl) (λ r a. refl))
      (swept_length (issue_row set c base start) start)
      (issued_same (λ r. is_some r.dispatched) (λ r. refl) (λ r a. refl))
      (issued_same (λ r. is_some r.squashed) (λ r. refl) (λ r a. refl))
      (swept_same (recovered_in set (suc c)) (recovered_in set (suc c)) (issue_row set c base start) (λ _. Unit {0}) (λ b r u. recovering b r) start (any_row start))
      (swept_sum (λ r. not (not_forwarded r.access)) (λ r. not (not_forwarded r.access)) (λ r. is_at c (accessed r) && not (not_forwarded r.access)) (issue_row set c base start) Accessed
      (λ b r p. access_grows c r.access (issue_row set c base start b r).access p (changed_issue set c base start b r).access) start accessed_two)
      (issued_same (committed_as set (counted.is_hit set)) (λ r. refl) (λ r a. refl))
    where
      recovering : (b : List Row) (r : Row) → recovered_in set (suc c) (issue_row set c base start b r) ≡ recovered_in set (suc c) r
      recovering b r =
          let s = issue_row set c base start b r in
          let m : mispredicted set s ≡ mispredicted set r = issue_keeps (mispredicted set) base start (λ x. refl) (λ x a. refl) b r in
          let u : (execution set s).unit ≡ (execution set r).unit = issue_keeps (λ x. (execution set x).unit) base start (λ x. refl) (λ x a. refl) b r in
          let q : s.squashed ≡ r.squashed = issue_keeps (λ x. x.squashed) base start (λ x. refl) (λ x a. refl) b r in
          rw m (rw u (written_stays (mispredicted set r) r.issued s.issued (execution set r).unit r s q (changed_issue set c base start b r).issued))

  -- ---- fetches

  fetched_none : (p : Row → Bool) → ((u : NextFetch) (look : Look) (queued : ℕ) → p (fetched_row set c u look queued) ≡ false)
      → count_by p (table set (suc c)).rows ≡ count_by p (after_dispatch set c).rows
  fetched_none p fresh = fetched_same set p c fresh set.config.decode (after_dispatch set c)

  no_mark : (b : Bool) → (b && false) ≡ false
  no_mark true = refl
  no_mark false = refl

  -- a row that is fetched is the newest, of this cycle
  lengths : (n : ℕ) (t : Table) → count_by (λ r. r.fetched.at == c) t.rows + length (fetch_up_to set n c t).rows ≡ length t.rows + count_by (λ r. r.fetched.at == c) (fetch_up_to set n c t).rows
  lengths zero t = omega arith
  lengths (suc n) t =
      cond_both (may_fetch set c t) (fetch_up_to set n c (fetch_one set c t)) t
      (λ u. count_by (λ r. r.fetched.at == c) t.rows + length u.rows ≡ length t.rows + count_by (λ r. r.fetched.at == c) u.rows)
      (λ _. omega (
        arith,
        lengths n (fetch_one set c t),
        count_true (λ r. r.fetched.at == c) (fetched_row set c t.next_fetch (set.look t.next_fetch.pc (predictor_events_of set c t.rows t.predictor_events)) (queue_cycle set c t.next_fetch.pc (references_of set c t.rows t.references))) t.rows (same_number c),
      ))
      (λ _. omega arith)

  none_fetched : Each (λ _ r. (r.fetched.at == c) ≡ false) (after_dispatch set c).rows
  none_fetched =
      let one = kept (commit_row set c) (λ b r. commit_keeps (λ s. s.fetched) (λ s. refl) b r) (table set c).rows
      (each_of (λ _. Past c) (λ _ r. (r.fetched.at == c) ≡ false) (λ older r h. earlier r.fetched.at h.fetched) (table set c).rows (past_table set c)) in
      let two = kept (squash_row set c) (λ b r. squash_keeps (λ s. s.fetched) (λ s. refl) b r) (after_commit set c).rows one in
      let three = kept (issue_row set c base start) (λ b r. issue_keeps (λ s. s.fetched) base start (λ s. refl) (λ s a. refl) b r) (after_recover set c).rows two in
      kept (dispatch_row set c) (λ b r. dispatch_keeps (λ s. s.fetched) (λ s. refl) b r) (after_issue set c).rows three
    where
      earlier : (x : ℕ) → x < c → (x == c) ≡ false
      earlier x lt = grind (arith, nat_tests)

      kept : (f : List Row → Row → Row) → ((b : List Row) (r : Row) → (f b r).fetched ≡ r.fetched) → (rows : List Row)
          → Each (λ _ r. (r.fetched.at == c) ≡ false) rows → Each (λ _ r. (r.fetched.at == c) ≡ false) (sweep f rows)
      kept f e rows h = swept_each (λ r. (r.fetched.at == c) ≡ false) f (λ b r k. ap (λ (w : Fetched). w.at == c) (e b r) ∙ k) rows h

  pub fetches_grow : counts_in set (suc c) (table set (suc c)).rows ≡ plus_fetches set c (table set (suc c)).rows (counts_in set (suc c) (after_dispatch set c).rows)
  fetches_grow =
      same_counts (counts_in set (suc c) (table set (suc c)).rows) (plus_fetches set c (table set (suc c)).rows (counts_in set (suc c) (after_dispatch set c).rows))
      (fetched_none (λ r. is_some r.committed) (λ u l q. refl))
      (fetched_none (committed_as set (path.loads set)) (λ u l q. refl))
      (fetched_none (committed_as set (path.stores set)) (λ u l q. refl))
      (fetched_none (committed_as set (λ r. (execution set r).control)) (λ u l q. refl))
      (fetched_none (committed_as set (λ r. (execution set r).call)) (λ u l q. refl))
      (omega (arith, lengths set.config.decode (after_dispatch set c), count_zero (λ r. r.fetched.at == c) (after_dispatch set c).rows none_fetched))
      (fetched_none (λ r. is_some r.dispatched) (λ u l q. refl))
      (fetched_none (λ r. is_some r.squashed) (λ u l q. refl))
      (fetched_none (recovered_in set (suc c)) (λ u l q. no_mark (mispredicted set (fetched_row set c u l q))))
      (fetched_none (λ r. not (not_forwarded r.access)) (λ u l q. refl))
      (fetched_none (committed_as set (counted.is_hit set)) (λ u l q. refl))

pub counts_grow : (set : Setting) (c : ℕ) → CountsGrow set c
counts_grow set c =
    record {
      commits = commits_grow set c;
      recovery = recovery_grows set c;
      issues = issues_grow set c;
      dispatches = dispatches_grow set c;
      fetches = fetches_grow set c;
    }
