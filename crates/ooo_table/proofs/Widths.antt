-- No cycle does more of anything than its width.
use Rattle.std.proofs.Common.{◌≡◌, ℕ, suc, ◌+◌, ◌<◌, ◌≤◌, Bool, true, false, List, [], ◌∷◌, Option, Some, None, refl, sym, ap, ◌∙◌, subst, arith}
use Rattle.std.specs.Prelude.{◌==◌, ◌&&◌, ◌||◌, nat_lt, nat_le, is_none, option_map, count_by, length}
use Rattle.std.specs.List.{list_any}
use Rattle.std.proofs.lemmas.Bool.{cond_both, and_parts, or_from, or_left, or_right, ltb-true, eqb-true}
use Rattle.std.proofs.lemmas.Bool.Decides.{nat_tests}
use Rattle.mem_hier.specs.Replay.{Reference}
use Rattle.ooo_table.specs.Row.{Row, is_at, is_before, sweep, MemoryAccess, accessed}
use Rattle.ooo_table.specs.Execution.{unit_latency}
use Rattle.ooo_table.specs.Table.{Setting}
use Rattle.ooo_table.specs.Path.{execution}
use Rattle.ooo_table.specs.Commit.{commit_row, commits}
use Rattle.ooo_table.specs.Recovery.{squash_row, recovers}
use Rattle.ooo_table.specs.References.{store_references}
use Rattle.ooo_table.specs.Issue.{issue_row, issues, accesses, access_of, issues_at}
use Rattle.ooo_table.specs.Dispatch.{dispatch_row, dispatches}
use Rattle.ooo_table.specs.Cycle.{table}
use Rattle.ooo_table.specs.Ends.{Extent, rows_at, commit_up_to}
use Rattle.ooo_table.specs.Later.{Each, Where, Past}
use Rattle.ooo_table.specs.Legal.{ProducersDone, WidthsKept, AccessAllowed}
use Rattle.ooo_table.proofs.Order.{Changed}
use Rattle.ooo_table.proofs.Route.{latency_some}
use Rattle.ooo_table.proofs.Kept.{each_of}
use Rattle.ooo_table.proofs.Sound.{Sound, sound_at}
use Rattle.ooo_table.proofs.Counts.{one, both', count_cons, swept_less, count_zero, width, at_old, now_accessed, now_dispatched, none_at, access_past, past_table, after_commit, after_recover, after_issue, after_dispatch, less_up_to, less_marks, fetched_same, fetched_more, Counted, counted_at}

pub each_false : (p : Row → Bool) (f : List Row → Row → Row) → ((before : List Row) (r : Row) → p (f before r) ≡ p r) → (rows : List Row) → Each (λ _ o. p o ≡ false) rows → Each (λ _ o. p o ≡ false) (sweep f rows)
each_false p f same [] h = tt
each_false p f same (r ∷ rows) h = (same (sweep f rows) r ∙ h.0, each_false p f same rows h.1)

pub kept_less : (p : Row → Bool) (f : List Row → Row → Row) → ((before : List Row) (r : Row) → p (f before r) ≡ p r) → (rows : List Row) → count_by p (sweep f rows) ≤ count_by p rows
kept_less p f same rows = swept_less p p f (λ b r h. sym (same b r) ∙ h) rows

not_none : {A : Type 0} (m : Option A) → is_none m ≡ true → m ≡ None
not_none None h = refl
not_none (Some x) h = absurd cc

module _ (set : Setting) where
  -- the marks that one turn may set
  pub commit_same : (p : Row → Bool) (c : ℕ) → ((r : Row) → p (record r { committed = Some c }) ≡ p r) → (before : List Row) (r : Row) → p (commit_row set c before r) ≡ p r
  commit_same p c e before r = cond_both (commits set c before r) (record r { committed = Some c }) r (λ s. p s ≡ p r) (λ _. e r) (λ _. refl)

  pub up_to_same : (p : Row → Bool) (row c : ℕ) → ((r : Row) → p (record r { committed = Some c }) ≡ p r) → (before : List Row) (r : Row) → p (commit_up_to set row c before r) ≡ p r
  up_to_same p row c e before r = cond_both (nat_le (length before) row) (commit_row set c before r) r (λ s. p s ≡ p r) (λ _. commit_same p c e before r) (λ _. refl)

  pub squash_same : (p : Row → Bool) (c : ℕ) → ((r : Row) → p (record r { squashed = Some c }) ≡ p r) → (before : List Row) (r : Row) → p (squash_row set c before r) ≡ p r
  squash_same p c e before r = cond_both (list_any (recovers set c) before && is_none r.squashed) (record r { squashed = Some c }) r (λ s. p s ≡ p r) (λ _. e r) (λ _. refl)

  pub dispatch_same' : (p : Row → Bool) (c : ℕ) → ((r : Row) → p (record r { dispatched = Some c }) ≡ p r) → (before : List Row) (r : Row) → p (dispatch_row set c before r) ≡ p r
  dispatch_same' p c e before r = cond_both (dispatches set c before r) (record r { dispatched = Some c }) r (λ s. p s ≡ p r) (λ _. e r) (λ _. refl)

  pub issue_same' : (p : Row → Bool) (c : ℕ) (base : List Reference) (start : List Row) → ((r : Row) → p (record r { issued = Some c }) ≡ p r) → ((r : Row) (a : MemoryAccess) → p (record r { access = Some a }) ≡ p r)
      → (before : List Row) (r : Row) → p (issue_row set c base start before r) ≡ p r
  issue_same' p c base start e f before r =
      cond_both (issues set c start before r) (record r { issued = Some c }) _ (λ s. p s ≡ p r) (λ _. e r)
      (λ _. cond_both (accesses set c start before r) (record r { access = Some (access_of set c base before r) }) r (λ s. p s ≡ p r) (λ _. f r (access_of set c base before r)) (λ _. refl))

  abbrev base_of : ℕ → List Reference
  base_of c = store_references set c (after_recover set c).rows (after_recover set c).references

  -- as cycle c begins no mark is of it
  begin : (p : ℕ → Row → Bool) → ((c x : ℕ) (r : Row) → c ≤ x → Past c r → p x r ≡ false) → (c : ℕ) → Each (λ _ o. p c o ≡ false) (table set c).rows
  begin p none c = each_of (λ _. Past c) (λ _ o. p c o ≡ false) (λ older r h. none c c r (omega arith) h) (table set c).rows (past_table set c)

  begin_zero : (p : ℕ → Row → Bool) → ((c x : ℕ) (r : Row) → c ≤ x → Past c r → p x r ≡ false) → (c : ℕ) → count_by (p c) (table set c).rows ≡ 0
  begin_zero p none c = count_zero (p c) (table set c).rows (begin p none c)

  -- fetches
  abbrev is_fetch : ℕ → Row → Bool
  is_fetch x r = r.fetched.at == x

  no_fetch : (c x : ℕ) (r : Row) → c ≤ x → Past c r → is_fetch x r ≡ false
  no_fetch c x r le p = let lt : r.fetched.at < c = p.fetched in grind (arith, nat_tests)

  old_fetch : (c x : ℕ) (r s : Row) → Changed c r s → is_fetch x s ≡ true → is_fetch x r ≡ true
  old_fetch c x r s ch h = subst (λ w. (w.at == x) ≡ true) ch.fetched h

  fetches : Counted set is_fetch set.config.decode
  fetches =
      record {
        none = no_fetch;
        old = λ c x r s lt ch h. old_fetch c x r s ch h;
        fresh = λ c x u look queued lt. grind (arith, nat_tests);
        up_to = λ c row. omega (arith, begin_zero is_fetch no_fetch c, less_up_to set c (is_fetch c) (λ r s ch h. old_fetch c c r s ch h) row);
        marks = λ c. omega (arith, begin_zero is_fetch no_fetch c, less_marks set c (is_fetch c) (λ r s ch h. old_fetch c c r s ch h));
        now = λ c. omega (arith, begin_zero is_fetch no_fetch c, less_marks set c (is_fetch c) (λ r s ch h. old_fetch c c r s ch h), fetched_more set (is_fetch c) c set.config.decode (after_dispatch set c));
      }

  -- dispatches
  abbrev is_dispatch : ℕ → Row → Bool
  is_dispatch x r = is_at x r.dispatched

  no_dispatch : (c x : ℕ) (r : Row) → c ≤ x → Past c r → is_dispatch x r ≡ false
  no_dispatch c x r le p = none_at c x r.dispatched le p.dispatched

  dispatch_width : (c : ℕ) → count_by (is_dispatch c) (after_dispatch set c).rows ≤ set.config.decode
  dispatch_width c =
      width (dispatch_row set c) (is_dispatch c) set.config.decode test (after_issue set c).rows
      (each_false (is_dispatch c) (issue_row set c (base_of c) (after_recover set c).rows) (issue_same' (is_dispatch c) c (base_of c) (after_recover set c).rows (λ r. refl) (λ r a. refl)) (after_recover set c).rows
      (each_false (is_dispatch c) (squash_row set c) (squash_same (is_dispatch c) c (λ r. refl)) (after_commit set c).rows
      (each_false (is_dispatch c) (commit_row set c) (commit_same (is_dispatch c) c (λ r. refl)) (table set c).rows (begin is_dispatch no_dispatch c))))
    where
      left : (before : List Row) (r : Row) → dispatches set c before r ≡ true → nat_lt (count_by (λ o. is_at c o.dispatched) before) set.config.decode ≡ true
      left before r e = grind (arith, and_parts)

      test : (before : List Row) (r : Row) → is_dispatch c r ≡ false → is_dispatch c (dispatch_row set c before r) ≡ true → count_by (is_dispatch c) before < set.config.decode
      test before r un =
          cond_both (dispatches set c before r) (record r { dispatched = Some c }) r (λ s. is_dispatch c s ≡ true → count_by (is_dispatch c) before < set.config.decode)
          (λ e h. ltb-true _ _ (left before r e)) (λ e h. absurd (both' h un))

  dispatched : Counted set is_dispatch set.config.decode
  dispatched =
      record {
        none = no_dispatch;
        old = λ c x r s lt ch h. at_old c x r.dispatched s.dispatched lt (now_dispatched c r s ch) h;
        fresh = λ c x u look queued lt. refl;
        up_to = λ c row. omega (arith, begin_zero is_dispatch no_dispatch c, kept_less (is_dispatch c) (commit_up_to set row c) (up_to_same (is_dispatch c) row c (λ r. refl)) (table set c).rows);
        marks = dispatch_width;
        now = λ c. omega (arith, dispatch_width c, fetched_same set (is_dispatch c) c (λ u look queued. refl) set.config.decode (after_dispatch set c));
      }

  -- issues
  no_issue : (c x : ℕ) (r : Row) → c ≤ x → Past c r → issues_at set x r ≡ false
  no_issue c x r le p = or_from _ _ (none_at c x r.issued le p.issued) (none_at c x (accessed r) le (access_past c r.access p.access))

  old_issue : (c x : ℕ) (r s : Row) → x < c → Changed c r s → issues_at set x s ≡ true → issues_at set x r ≡ true
  old_issue c x r s lt ch h = either (is_at x s.issued) refl h
    where
      either : (b : Bool) → is_at x s.issued ≡ b → (b || is_at x (accessed s)) ≡ true → issues_at set x r ≡ true
      either true e k = or_left (is_at x r.issued) (is_at x (accessed r)) (at_old c x r.issued s.issued lt ch.issued e)
      either false e k = or_right (is_at x r.issued) (is_at x (accessed r)) (at_old c x (accessed r) (accessed s) lt (now_accessed c r.access s.access ch.access) k)

  issue_width : (c : ℕ) → count_by (issues_at set c) (after_issue set c).rows ≤ set.config.issue
  issue_width c =
      width (issue_row set c (base_of c) (after_recover set c).rows) (issues_at set c) set.config.issue test (after_recover set c).rows
      (each_false (issues_at set c) (squash_row set c) (squash_same (issues_at set c) c (λ r. refl)) (after_commit set c).rows
      (each_false (issues_at set c) (commit_row set c) (commit_same (issues_at set c) c (λ r. refl)) (table set c).rows (begin (issues_at set) no_issue c)))
    where
      left : (before : List Row) (r : Row) → issues set c (after_recover set c).rows before r ≡ true → nat_lt (count_by (issues_at set c) before) set.config.issue ≡ true
      left before r e = grind (arith, and_parts)

      left' : (before : List Row) (r : Row) → accesses set c (after_recover set c).rows before r ≡ true → nat_lt (count_by (issues_at set c) before) set.config.issue ≡ true
      left' before r e = grind (arith, and_parts)

      test : (before : List Row) (r : Row) → issues_at set c r ≡ false → issues_at set c (issue_row set c (base_of c) (after_recover set c).rows before r) ≡ true → count_by (issues_at set c) before < set.config.issue
      test before r un =
          cond_both (issues set c (after_recover set c).rows before r) (record r { issued = Some c }) _ (λ s. issues_at set c s ≡ true → count_by (issues_at set c) before < set.config.issue)
          (λ e h. ltb-true _ _ (left before r e))
          (λ _. cond_both (accesses set c (after_recover set c).rows before r) (record r { access = Some (access_of set c (base_of c) before r) }) r (λ s. issues_at set c s ≡ true → count_by (issues_at set c) before < set.config.issue)
          (λ e h. ltb-true _ _ (left' before r e)) (λ _ h. absurd (both' h un)))

  issue_marks : (c : ℕ) → count_by (issues_at set c) (after_dispatch set c).rows ≤ set.config.issue
  issue_marks c = omega (arith, issue_width c, kept_less (issues_at set c) (dispatch_row set c) (dispatch_same' (issues_at set c) c (λ r. refl)) (after_issue set c).rows)

  issued : Counted set (issues_at set) set.config.issue
  issued =
      record {
        none = no_issue;
        old = old_issue;
        fresh = λ c x u look queued lt. refl;
        up_to = λ c row. omega (arith, begin_zero (issues_at set) no_issue c, kept_less (issues_at set c) (commit_up_to set row c) (up_to_same (issues_at set c) row c (λ r. refl)) (table set c).rows);
        marks = issue_marks;
        now = λ c. omega (arith, issue_marks c, fetched_same set (issues_at set c) c (λ u look queued. refl) set.config.decode (after_dispatch set c));
      }

  -- commits
  abbrev is_commit : ℕ → Row → Bool
  is_commit x r = is_at x r.committed

  no_commit : (c x : ℕ) (r : Row) → c ≤ x → Past c r → is_commit x r ≡ false
  no_commit c x r le p = none_at c x r.committed le p.committed

  commit_test : (c : ℕ) (before : List Row) (r : Row) → is_commit c r ≡ false → is_commit c (commit_row set c before r) ≡ true → count_by (is_commit c) before < set.config.commit
  commit_test c before r un =
      cond_both (commits set c before r) (record r { committed = Some c }) r (λ s. is_commit c s ≡ true → count_by (is_commit c) before < set.config.commit)
      (λ e h. ltb-true _ _ (left e)) (λ e h. absurd (both' h un))
    where
      left : commits set c before r ≡ true → nat_lt (count_by (λ o. is_at c o.committed) before) set.config.commit ≡ true
      left e = grind (arith, and_parts)

  commit_up_width : (c row : ℕ) → count_by (is_commit c) (sweep (commit_up_to set row c) (table set c).rows) ≤ set.config.commit
  commit_up_width c row = width (commit_up_to set row c) (is_commit c) set.config.commit test (table set c).rows (begin is_commit no_commit c)
    where
      test : (before : List Row) (r : Row) → is_commit c r ≡ false → is_commit c (commit_up_to set row c before r) ≡ true → count_by (is_commit c) before < set.config.commit
      test before r un =
          cond_both (nat_le (length before) row) (commit_row set c before r) r (λ s. is_commit c s ≡ true → count_by (is_commit c) before < set.config.commit)
          (λ _. commit_test c before r un) (λ _ h. absurd (both' h un))

  commit_marks : (c : ℕ) → count_by (is_commit c) (after_dispatch set c).rows ≤ set.config.commit
  commit_marks c =
      omega (
        arith,
        width (commit_row set c) (is_commit c) set.config.commit (commit_test c) (table set c).rows (begin is_commit no_commit c),
        kept_less (is_commit c) (squash_row set c) (squash_same (is_commit c) c (λ r. refl)) (after_commit set c).rows,
        kept_less (is_commit c) (issue_row set c (base_of c) (after_recover set c).rows) (issue_same' (is_commit c) c (base_of c) (after_recover set c).rows (λ r. refl) (λ r a. refl)) (after_recover set c).rows,
        kept_less (is_commit c) (dispatch_row set c) (dispatch_same' (is_commit c) c (λ r. refl)) (after_issue set c).rows,
      )

  committed : Counted set is_commit set.config.commit
  committed =
      record {
        none = no_commit;
        old = λ c x r s lt ch h. at_old c x r.committed s.committed lt ch.committed h;
        fresh = λ c x u look queued lt. refl;
        up_to = commit_up_width;
        marks = commit_marks;
        now = λ c. omega (arith, commit_marks c, fetched_same set (is_commit c) c (λ u look queued. refl) set.config.decode (after_dispatch set c));
      }

  -- issue and access of one row are in different cycles
  apart : (x : ℕ) (r : Row) (older : List Row) → ProducersDone set older r → one (is_at x r.issued) + one (is_at x (accessed r)) ≤ one (issues_at set x r)
  apart x r older p = by_marks (is_at x r.issued) (is_at x (accessed r)) refl refl
    where
      some_at : (m : Option ℕ) → is_at x m ≡ true → m ≡ Some x
      some_at None h = absurd cc
      some_at (Some y) h = ap (λ z. Some z) (eqb-true y x h)

      never : (a : Option MemoryAccess) → r.issued ≡ Some x → Where a (λ a. AccessAllowed set older r a.at) → is_at x (option_map (λ a. a.at) a) ≡ true → ⊥
      never None e w h = cc
      never (Some a) e w h =
          let k : a.at ≡ x = eqb-true a.at x h in
          let lt : x + unit_latency (execution set r).unit < suc a.at = ltb-true (x + unit_latency (execution set r).unit) (suc a.at) (sym (ap (λ m. is_before (suc a.at) (option_map (λ i. i + unit_latency (execution set r).unit) m)) e) ∙ w.back) in
          omega (arith, lt, k, latency_some (execution set r).unit)

      by_marks : (a b : Bool) → is_at x r.issued ≡ a → is_at x (accessed r) ≡ b → one a + one b ≤ one (a || b)
      by_marks true true e f = absurd (never r.access (some_at r.issued e) p.access f)
      by_marks true false e f = omega arith
      by_marks false true e f = omega arith
      by_marks false false e f = omega arith

  two_counts : (x : ℕ) (rows : List Row) → Each (ProducersDone set) rows → count_by (λ r. is_at x r.issued) rows + count_by (λ r. is_at x (accessed r)) rows ≤ count_by (issues_at set x) rows
  two_counts x [] h = omega arith
  two_counts x (r ∷ rows) h =
      omega (arith, two_counts x rows h.1, apart x r rows h.0, count_cons (λ r. is_at x r.issued) r rows, count_cons (λ r. is_at x (accessed r)) r rows, count_cons (issues_at set x) r rows)

  -- all widths, wherever a run ends
  pub widths_at : (e : Extent) (c x : ℕ) → WidthsKept set (rows_at set e c) x
  widths_at e c x =
      record {
        fetches = counted_at set is_fetch set.config.decode fetches e c x;
        dispatches = counted_at set is_dispatch set.config.decode dispatched e c x;
        issues = omega (arith, counted_at set (issues_at set) set.config.issue issued e c x, two_counts x (rows_at set e c) (each_of (Sound set c) (ProducersDone set) (λ older r t. t.p1) (rows_at set e c) (sound_at set e c)));
        commits = counted_at set is_commit set.config.commit committed e c x;
      }
