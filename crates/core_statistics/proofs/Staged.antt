-- What a core adds stage by stage is what the table's rows show.
use Rattle.std.proofs.Common.{◌≡◌, ℕ, zero, suc, ◌+◌, ◌-◌, ◌^◌, ◌<◌, ◌≤◌, Bool, true, false, cond, List, [], ◌∷◌, ◌++◌, Option, Some, None, refl, sym, ap, ◌∙◌, subst, arith, inl, inr, length, length-append}
use Rattle.std.specs.Prelude.{◌⊎◌, ◌&&◌, ◌||◌, ◌==◌, not, min, reverse, is_some, is_none, option_map, count_by, if◌then◌else◌}
use Rattle.std.specs.List.{AllZip, list_any}
use Rattle.std.proofs.Math.Nat.{min-eq_left, min-eq_right}
use Rattle.std.proofs.lemmas.Bool.{cond_both, and_parts, cases_lt}
use Rattle.std.proofs.lemmas.List.{length-reverse}
use Rattle.std.proofs.lemmas.List.FromFn.{length-map-range_with_len}
use Rattle.std.proofs.lemmas.List.Sums.{sum_by-append}
use Rattle.mem_hier.specs.Replay.{greatest_fetch_of, greatest_load_of}
use Rattle.pisa_isa.specs.declared.classes.AccessKind.{AccessKind}
use Rattle.pisa_isa.specs.declared.classes.AccessKind.TheVariants as kind
use Rattle.pisa_isa.specs.declared.classes.ControlKind.{ControlKind}
use Rattle.pisa_isa.specs.declared.classes.ControlKind.TheVariants as control
use Rattle.pisa_isa.specs.Classes.{access_of, control_of}
use Rattle.sim_safe.specs.Statistics.{load_count, store_count, branch_count}
use Rattle.sim_safe.specs.Step.{is_call}
use Rattle.ruu_core.specs.declared.station.Station.{Station}
use Rattle.ruu_core.specs.Window.{is_load_kind, is_store_kind}
use Rattle.ooo_front.specs.declared.row.FetchRow.{FetchRow}
use Rattle.ooo_table.specs.declared.event.Mark.TheVariants as mark
use Rattle.ooo_table.specs.declared.event.Event.{Event}
use Rattle.ooo_table.specs.Row.{Fetched, Row, MemoryAccess, is_at, accessed, not_forwarded, sweep}
use Rattle.ooo_table.specs.Table.{Setting}
use Rattle.ooo_table.specs.Execution.{Execution}
use Rattle.ooo_table.specs.Path as path
use Rattle.ooo_table.specs.Path.{execution, execution_of}
use Rattle.ooo_table.specs.Commit.{commits, commit_row}
use Rattle.ooo_table.specs.Recovery.{recovers, squash_row}
use Rattle.ooo_table.specs.Cycle.{after_commit, after_recover}
use Rattle.ooo_table.specs.Counts.{Counts}
use Rattle.ooo_table.specs.Counts as counted
use Rattle.ooo_table.specs.Events.{by_row, event_at}
use Rattle.ooo_table.specs.Later.{Each}
use Rattle.ooo_table.specs.Machine.{Given, setting_of, is_control, done_as}
use Rattle.ooo_table.specs.MachineLaws.{IsSound}
use Rattle.ooo_table.proofs.Counts.{one, count_cons, count_zero, count_true, count_false}
use Rattle.ooo_table.proofs.CycleFacts.{route_one}
use Rattle.ooo_table.proofs.Route.{Route, right_stands}
use Rattle.ooo_table.proofs.Timely.{bounded}
use Rattle.core_parts.specs.declared.answers.Issued.{Issued}
use Rattle.core_parts.specs.declared.answers.Issued.TheVariants as issued
use Rattle.core_parts.specs.Rows.{Placed, pick, newest_number, Describes, Did, Waits}
use Rattle.core_parts.specs.Stages.{CommitsAs, issued_of, issued_in, FetchedAt}
use Rattle.core_parts.proofs.Lists.{same_number, zip_length}
use Rattle.core_watch.specs.StageItems.{squashed_events}
use Rattle.core_events.specs.Recoveries.{squash_event, squashes_behind}
use Rattle.core_events.proofs.Recoveries.{squashes_are_behind}
use Rattle.core_statistics.specs.declared.stats.CoreStats.{CoreStats}
use Rattle.core_statistics.specs.Counted.{raised, capped, is_hit, is_forwarding, stats_of, commits_now, plus_commits, plus_recovery, plus_issues, plus_dispatches, plus_fetches, with_commit, with_recovery, with_issues, with_dispatches, with_fetches, with_cycle}
use Rattle.core_statistics.specs.StageCounts.{turned, committed_in, with_recovery_of, StagesCount}
use Rattle.core_statistics.proofs.Sums.{count_append, swept_same, any_row}

-- ---- counts that stand still at their end

least_more : (n k m : ℕ) → min (min n m + k) m ≡ min (n + k) m
least_more n k m = by_case (cases_lt m n)
  where
    by_case : (m < n) ⊎ (n ≤ m) → min (min n m + k) m ≡ min (n + k) m
    by_case (inr le) = ap (λ x. min (x + k) m) (min-eq_left le)
    by_case (inl lt) =
        let e : min n m ≡ m = min-eq_right (omega (arith, lt)) in
        let a : min (m + k) m ≡ m = min-eq_right (omega arith) in
        let b : min (n + k) m ≡ m = min-eq_right (omega (arith, lt)) in
        ap (λ x. min (x + k) m) e ∙ (a ∙ sym b)

raised_capped : (k n j : ℕ) → n + k ≡ j → raised k (capped n) ≡ capped j
raised_capped k n j e = least_more n k (2 ^ 64 - 1) ∙ ap capped e

-- ---- a row that commits

one_and : (b d : Bool) → b ≡ true → one (b && d) ≡ one d
one_and b d e = ap (λ x. one (x && d)) e

module _ (g : Given) (c : ℕ) where
  abbrev set : Setting
  set = setting_of g

  abbrev turns : List Row → List Row
  turns older = turned g c older

  -- rows that pass without a commit of their own
  pub record Fronted (passed older : List Row) : Type 0 where
    pub front : List Row
    pub is : turns (passed ++ older) ≡ front ++ turns older

  fronted : (passed older : List Row) → Fronted passed older
  fronted [] older = record { front = []; is = refl }
  fronted (r ∷ passed) older =
      let ih = fronted passed older in
      record { front = commit_row set c (turns (passed ++ older)) r ∷ ih.front; is = ap (λ l. commit_row set c (turns (passed ++ older)) r ∷ l) ih.is }

  none_of_zero : (p q : Row → Bool) (rows : List Row) → count_by p rows ≡ 0 → count_by (λ r. p r && q r) rows ≡ 0
  none_of_zero p q [] e = refl
  none_of_zero p q (r ∷ rows) e = by_test (p r) refl (λ z. none_of_zero p q rows z)
    where
      by_test : (b : Bool) → p r ≡ b → (count_by p rows ≡ 0 → count_by (λ r. p r && q r) rows ≡ 0) → count_by (λ r. p r && q r) (r ∷ rows) ≡ 0
      by_test true h ih = absurd (omega (arith, count_true p r rows h, e))
      by_test false h ih =
          let k : (p r && q r) ≡ false = ap (λ b. b && q r) h in
          omega (arith, count_false (λ r. p r && q r) r rows k, ih (omega (arith, count_false p r rows h, e)))

  -- Of the rows that committed in the cycle, the row r is one more.
  one_more : (p : Row → Bool) (n : ℕ) (older passed : List Row) (r : Row) → ((x : Row) → p (record x { committed = Some c }) ≡ p x)
      → committed_in g c (turns older) ≡ n → committed_in g c (turns (r ∷ (passed ++ older))) ≡ suc n → commits set c (turns (passed ++ older)) r ≡ true
      → commits_now set c p (turns older) + one (p r) ≡ commits_now set c p (turns (r ∷ (passed ++ older)))
  one_more p n older passed r keeps before after it =
      let f = fronted passed older in
      let now : Row = record r { committed = Some c } in
      let is : commit_row set c (turns (passed ++ older)) r ≡ now = ap (λ b. cond b now r) it in
      let all : turns (r ∷ (passed ++ older)) ≡ now ∷ (f.front ++ turns older) = ap (λ x. x ∷ turns (passed ++ older)) is ∙ ap (λ l. now ∷ l) f.is in
      let here : is_at c (Some c) ≡ true = same_number c in
      let total : committed_in g c (now ∷ (f.front ++ turns older)) ≡ suc n = ap (committed_in g c) (sym all) ∙ after in
      let none : committed_in g c f.front ≡ 0 =
      omega (arith, total, before, count_true (λ x. is_at c x.committed) now (f.front ++ turns older) here, count_append (λ x. is_at c x.committed) f.front (turns older)) in
      let zero : commits_now set c p f.front ≡ 0 = none_of_zero (λ x. is_at c x.committed) p f.front none in
      let passes : one (is_at c now.committed && p now) ≡ one (p r) = one_and (is_at c (Some c)) (p now) here ∙ ap one (keeps r) in
      let sum : commits_now set c p (now ∷ (f.front ++ turns older)) ≡ commits_now set c p (turns older) + one (p r) =
      omega (arith, count_cons (λ x. is_at c x.committed && p x) now (f.front ++ turns older), passes, count_append (λ x. is_at c x.committed && p x) f.front (turns older), zero) in
      sym (ap (commits_now set c p) all ∙ sum)

  load_is : (k : AccessKind) → load_count k ≡ one (is_load_kind k)
  load_is kind.Load = refl
  load_is kind.Store = refl
  load_is kind.Nothing = refl

  store_is : (k : AccessKind) → store_count k ≡ one (is_store_kind k)
  store_is kind.Load = refl
  store_is kind.Store = refl
  store_is kind.Nothing = refl

  branch_is : (k : ControlKind) → branch_count k ≡ one (is_control k)
  branch_is control.Nothing = refl
  branch_is control.Cond = refl
  branch_is control.Jump = refl
  branch_is control.Call = refl
  branch_is control.Return = refl

  -- what a right row counts as, by its station
  pub record CountsAs (s : Station) (r : Row) : Type 0 where
    pub load : load_count (access_of s.instr.op) ≡ one (path.loads set r)
    pub store : store_count (access_of s.instr.op) ≡ one (path.stores set r)
    pub branch : branch_count (control_of s.instr) ≡ one (execution set r).control
    pub call : (if is_call s.instr.op then 1 else 0) ≡ one (execution set r).call
    pub hit : (if is_hit s then 1 else 0) ≡ one (counted.is_hit set r)

  counts_as : (s : Station) (r : Row) → r.fetched.right ≡ true → Describes g s r.fetched → CountsAs s r
  counts_as s r right d =
      let did = d.did right in
      let live : s.inert ≡ false = d.inert ∙ d.possible right in
      let kind : (execution set r).control ≡ is_control (control_of s.instr) = ap (λ (e : Execution). e.control) did.does ∙ ap (λ i. is_control (control_of i)) did.instr in
      record {
        load = load_is (access_of s.instr.op) ∙ ap one (sym (ap (λ b. not b && is_load_kind (access_of s.instr.op)) live) ∙ d.operates.load);
        store = store_is (access_of s.instr.op) ∙ ap one (sym (ap (λ b. not b && is_store_kind (access_of s.instr.op)) live) ∙ d.operates.store);
        branch = branch_is (control_of s.instr) ∙ ap one (sym kind);
        call = ap one d.operates.call;
        hit = rw kind (rw d.predicted (rw (d.actual right) refl));
      }

  right_of : (older : List Row) (r : Row) → commits set c older r ≡ true → r.fetched.right ≡ true
  right_of older r e = grind (arith, and_parts)

  pub commit_counts : (k : Counts) (cycles n : ℕ) (older passed : List Row) (r : Row) (s : Station)
      → committed_in g c (turns older) ≡ n → committed_in g c (turns (r ∷ (passed ++ older))) ≡ suc n → CommitsAs g c s r (passed ++ older)
      → with_commit s (stats_of (plus_commits set c (turns older) k) cycles) ≡ stats_of (plus_commits set c (turns (r ∷ (passed ++ older))) k) cycles
  commit_counts k cycles n older passed r s before after how =
      let a = counts_as s r (right_of (turns (passed ++ older)) r how.commits) how.is in
      let more = λ (p : Row → Bool) (e : (x : Row) → p (record x { committed = Some c }) ≡ p x). one_more p n older passed r e before after how.commits in
      let old = plus_commits set c (turns older) k in
      let new = plus_commits set c (turns (r ∷ (passed ++ older))) k in
      let insn : raised 1 (capped old.insn) ≡ capped new.insn = raised_capped 1 old.insn new.insn (omega (arith, before, after)) in
      let loads : raised (load_count (access_of s.instr.op)) (capped old.loads) ≡ capped new.loads =
      raised_capped (load_count (access_of s.instr.op)) old.loads new.loads (omega (arith, a.load, more (path.loads set) (λ x. refl))) in
      let stores : raised (store_count (access_of s.instr.op)) (capped old.stores) ≡ capped new.stores =
      raised_capped (store_count (access_of s.instr.op)) old.stores new.stores (omega (arith, a.store, more (path.stores set) (λ x. refl))) in
      let branches : raised (branch_count (control_of s.instr)) (capped old.branches) ≡ capped new.branches =
      raised_capped (branch_count (control_of s.instr)) old.branches new.branches (omega (arith, a.branch, more (λ x. (execution set x).control) (λ x. refl))) in
      let calls : raised (if is_call s.instr.op then 1 else 0) (capped old.calls) ≡ capped new.calls =
      raised_capped (if is_call s.instr.op then 1 else 0) old.calls new.calls (omega (arith, a.call, more (λ x. (execution set x).call) (λ x. refl))) in
      let hits : raised (if is_hit s then 1 else 0) (capped old.addr_hits) ≡ capped new.addr_hits =
      raised_capped (if is_hit s then 1 else 0) old.addr_hits new.addr_hits (omega (arith, a.hit, more (counted.is_hit set) (λ x. refl))) in
      rw insn (rw loads (rw stores (rw branches (rw calls (rw hits refl)))))

  -- ---- recoveries

  abbrev how_many : Option ℕ → ℕ
  how_many None = 0
  how_many (Some row) = 1

  one_recovers : (rows : List Row) → Each (Route set c) rows → count_by (recovers set c) rows ≡ how_many (newest_number (recovers set c) rows)
  one_recovers [] t = refl
  one_recovers (r ∷ rows) t = by_test (recovers set c r) refl (one_recovers rows t.1)
    where
      by_test : (b : Bool) → recovers set c r ≡ b → count_by (recovers set c) rows ≡ how_many (newest_number (recovers set c) rows)
          → count_by (recovers set c) (r ∷ rows) ≡ how_many (cond b (Some (length rows)) (newest_number (recovers set c) rows))
      by_test true h ih = omega (arith, count_true (recovers set c) r rows h, alone)
        where
          right : r.fetched.right ≡ true
          right = (and_parts _ _ (and_parts _ _ (and_parts _ _ h).0).0).0

          any_none : (rows : List Row) → (list_any (recovers set c) rows ≡ true → ⊥) → count_by (recovers set c) rows ≡ 0
          any_none [] e = refl
          any_none (o ∷ rows) e = by_one (recovers set c o) refl e (λ z. any_none rows z)
            where
              by_one : (b : Bool) → recovers set c o ≡ b → ((b || list_any (recovers set c) rows) ≡ true → ⊥)
                  → ((list_any (recovers set c) rows ≡ true → ⊥) → count_by (recovers set c) rows ≡ 0) → count_by (recovers set c) (o ∷ rows) ≡ 0
              by_one true h e ih = absurd (e refl)
              by_one false h e ih = count_false (recovers set c) o rows h ∙ ih e

          alone : count_by (recovers set c) rows ≡ 0
          alone = any_none rows (λ e. right_stands set c rows r t.1 t.0 right e)
      by_test false h ih = count_false (recovers set c) r rows h ∙ ih

  squash_length : (rows : List Row) → length (by_row (λ n r. event_at c r.squashed mark.Squashed n) rows) ≡ count_by (λ r. is_at c r.squashed) rows
  squash_length [] = refl
  squash_length (r ∷ rows) =
      omega (
        arith,
        length-append (by_row (λ n r. event_at c r.squashed mark.Squashed n) rows) (event_at c r.squashed mark.Squashed (length rows)),
        squash_length rows,
        event_length (is_at c r.squashed) (record { cycle = c; row = length rows; mark = mark.Squashed }),
        count_cons (λ r. is_at c r.squashed) r rows,
      )
    where
      event_length : (b : Bool) (e : Event) → length (cond b (e ∷ []) []) ≡ one b
      event_length true e = refl
      event_length false e = refl

  behind_length : (row next : ℕ) → length (squashes_behind c (Some row) next) ≡ next - (row + 1)
  behind_length row next = length-map-range_with_len (squash_event c) (row + 1) (next - (row + 1))

  squash_same : (rows : List Row) → count_by (recovers set c) (sweep (squash_row set c) rows) ≡ count_by (recovers set c) rows
  squash_same rows = swept_same (recovers set c) (recovers set c) (squash_row set c) (λ _. Unit {0}) (λ b r u. turn b r) rows (any_row rows)
    where
      turn : (b : List Row) (r : Row) → recovers set c (squash_row set c b r) ≡ recovers set c r
      turn b r = cond_both (list_any (recovers set c) b && is_none r.squashed) (record r { squashed = Some c }) r (λ s. recovers set c s ≡ recovers set c r) (λ _. refl) (λ _. refl)

  pub recovery_counts : (k : Counts) (cycles : ℕ) (answer : Option ℕ) → IsSound g → answer ≡ newest_number (recovers set c) (after_commit set c).rows
      → with_recovery_of answer (length (after_commit set c).rows) (stats_of k cycles) ≡ stats_of (plus_recovery set c (after_recover set c).rows k) cycles
  recovery_counts k cycles answer sound e = by_answer answer e
    where
      rows : List Row
      rows = (after_commit set c).rows

      route : Each (Route set c) rows
      route = (route_one set (greatest_fetch_of g.hier) (greatest_load_of g.hier) (bounded g sound) c).0

      counted_by : (after : Option ℕ) → after ≡ newest_number (recovers set c) rows → count_by (recovers set c) (after_recover set c).rows ≡ how_many after
      counted_by after f = squash_same rows ∙ (one_recovers rows route ∙ ap how_many (sym f))

      gone : (after : Option ℕ) → after ≡ newest_number (recovers set c) rows
          → count_by (λ r. is_at c r.squashed) (after_recover set c).rows ≡ length (squashes_behind c after (length rows))
      gone after f = sym (squash_length (after_recover set c).rows) ∙ (ap length (squashes_are_behind g c sound) ∙ ap (λ o. length (squashes_behind c o (length rows))) (sym f))

      by_answer : (after : Option ℕ) → after ≡ newest_number (recovers set c) rows
          → with_recovery_of after (length rows) (stats_of k cycles) ≡ stats_of (plus_recovery set c (after_recover set c).rows k) cycles
      by_answer None f =
          let a : k.recoveries ≡ k.recoveries + count_by (recovers set c) (after_recover set c).rows = omega (arith, counted_by None f) in
          let b : k.squashed ≡ k.squashed + count_by (λ r. is_at c r.squashed) (after_recover set c).rows = omega (arith, gone None f) in
          ap (λ n. record (stats_of k cycles) { recoveries = capped n; squashed = capped k.squashed }) a
          ∙ ap (λ n. record (stats_of k cycles) { recoveries = capped (k.recoveries + count_by (recovers set c) (after_recover set c).rows); squashed = capped n }) b
      by_answer (Some row) f =
          let a : raised 1 (capped k.recoveries) ≡ capped (k.recoveries + count_by (recovers set c) (after_recover set c).rows) =
          raised_capped 1 k.recoveries (k.recoveries + count_by (recovers set c) (after_recover set c).rows) (omega (arith, counted_by (Some row) f)) in
          let b : raised (length rows - suc row) (capped k.squashed) ≡ capped (k.squashed + count_by (λ r. is_at c r.squashed) (after_recover set c).rows) =
          raised_capped (length rows - suc row) k.squashed (k.squashed + count_by (λ r. is_at c r.squashed) (after_recover set c).rows)
          (omega (arith, gone (Some row) f, behind_length row (length rows))) in
          rw a (rw b refl)

  -- ---- issues

  forwards : (n : ℕ) (r : Row) → count_by is_forwarding (issued_of c n r) ≡ one (is_at c (accessed r) && not (not_forwarded r.access))
  forwards n r = by_tests (is_at c r.issued) (is_at c (accessed r)) (not_forwarded r.access)
    where
      by_tests : (a b d : Bool)
          → count_by is_forwarding (cond a (issued.Main n ∷ []) [] ++ cond b (issued.Access n (if d then false else true) ∷ []) []) ≡ one (b && not d)
      by_tests true true true = refl
      by_tests true true false = refl
      by_tests true false d = refl
      by_tests false true true = refl
      by_tests false true false = refl
      by_tests false false d = refl

  issues_forward : (rows : List Row) → count_by is_forwarding (issued_in c rows) ≡ count_by (λ r. is_at c (accessed r) && not (not_forwarded r.access)) rows
  issues_forward [] = refl
  issues_forward (r ∷ rows) =
      omega (
        arith,
        count_both (issued_in c rows) (issued_of c (length rows) r),
        forwards (length rows) r,
        issues_forward rows,
        count_cons (λ r. is_at c (accessed r) && not (not_forwarded r.access)) r rows,
      )
    where
      count_both : (xs ys : List Issued) → count_by is_forwarding (xs ++ ys) ≡ count_by is_forwarding xs + count_by is_forwarding ys
      count_both xs ys = sum_by-append (λ x. cond {A = ℕ} (is_forwarding x) 1 0) xs ys

  pub issue_counts : (k : Counts) (cycles : ℕ) (rows : List Row) (answer : List Issued) → answer ≡ issued_in c rows
      → with_issues answer (stats_of k cycles) ≡ stats_of (plus_issues set c rows k) cycles
  issue_counts k cycles rows answer e =
      let a : raised (count_by is_forwarding answer) (capped k.forwarded) ≡ capped (k.forwarded + count_by (λ r. is_at c (accessed r) && not (not_forwarded r.access)) rows) =
      raised_capped (count_by is_forwarding answer) k.forwarded (k.forwarded + count_by (λ r. is_at c (accessed r) && not (not_forwarded r.access)) rows)
      (omega (arith, ap (count_by is_forwarding) e, issues_forward rows)) in
      rw a refl

  -- ---- dispatches, fetches, cycles

  pub dispatch_counts : (k : Counts) (cycles n : ℕ) (rows : List Row) → count_by (λ r. is_at c r.dispatched) rows ≡ n
      → with_dispatches n (stats_of k cycles) ≡ stats_of (plus_dispatches set c rows k) cycles
  dispatch_counts k cycles n rows e =
      let a : raised n (capped k.dispatched) ≡ capped (k.dispatched + count_by (λ r. is_at c r.dispatched) rows) =
      raised_capped n k.dispatched (k.dispatched + count_by (λ r. is_at c r.dispatched) rows) (omega (arith, e)) in
      rw a refl

  picked : (p : Row → Bool) (rows : List Row) → length (pick p rows) ≡ count_by p rows
  picked p [] = refl
  picked p (r ∷ rows) = by_test (p r) refl (picked p rows)
    where
      by_test : (b : Bool) → p r ≡ b → length (pick p rows) ≡ count_by p rows
          → length (cond b (record { row = r; older = rows } ∷ pick p rows) (pick p rows)) ≡ count_by p (r ∷ rows)
      by_test true h ih = omega (arith, ih, count_true p r rows h)
      by_test false h ih = ih ∙ sym (count_false p r rows h)

  pub fetch_counts : (k : Counts) (cycles : ℕ) (rows : List Row) (answer : List FetchRow) → FetchedAt g c rows answer
      → with_fetches (length answer) (stats_of k cycles) ≡ stats_of (plus_fetches set c rows k) cycles
  fetch_counts k cycles rows answer e =
      let n : length answer ≡ count_by (λ r. r.fetched.at == c) rows =
      sym (length-reverse answer) ∙ (zip_length (Waits g) (reverse answer) (pick (λ r. r.fetched.at == c) rows) e ∙ picked (λ r. r.fetched.at == c) rows) in
      let a : raised (length answer) (capped k.fetched) ≡ capped (k.fetched + count_by (λ r. r.fetched.at == c) rows) =
      raised_capped (length answer) k.fetched (k.fetched + count_by (λ r. r.fetched.at == c) rows) (omega (arith, n)) in
      rw a refl

  pub cycle_counts : (k : Counts) (cycles : ℕ) → with_cycle (stats_of k cycles) ≡ stats_of k (suc cycles)
  cycle_counts k cycles =
      let a : raised 1 (capped cycles) ≡ capped (suc cycles) = raised_capped 1 cycles (suc cycles) (omega arith) in
      rw a refl

pub stages_count : (g : Given) (c : ℕ) → StagesCount g c
stages_count g c =
    record {
      commit = commit_counts g c;
      recovery = recovery_counts g c;
      issues = issue_counts g c;
      dispatches = dispatch_counts g c;
      fetches = fetch_counts g c;
      cycle = cycle_counts g c;
    }
