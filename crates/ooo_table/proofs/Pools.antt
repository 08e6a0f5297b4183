-- In every cycle each pool has enough units.
use Rattle.std.proofs.Common.{◌≡◌, ℕ, zero, suc, ◌+◌, ◌<◌, ◌≤◌, Bool, true, false, List, [], ◌∷◌, Option, Some, None, refl, sym, ap, subst, arith, inl, inr}
use Rattle.std.specs.Prelude.{◌==◌, ◌&&◌, ◌||◌, not, nat_lt, nat_le, ◌⊎◌, count_by, length}
use Rattle.std.proofs.lemmas.Bool.{cond_both, and_parts, and_right, and_from, or_from, or_left, or_right, ltb-true, leb-true, eqb-true, le-leb, lt-ltb, cases_lt}
use Rattle.bpred_unit.specs.declared.predictor.Look.{Look}
use Rattle.ooo_table.specs.Row.{Row, is_at, sweep, accessed}
use Rattle.ooo_table.specs.Execution.{unit_hold, Pool, Alus, Multipliers, Ports, pool_size, is_of, is_load, is_store}
use Rattle.ooo_table.specs.Table.{Setting, NextFetch}
use Rattle.ooo_table.specs.Path.{execution, execution_of, loads, stores}
use Rattle.ooo_table.specs.Commit.{commit_row, commits}
use Rattle.ooo_table.specs.Recovery.{squash_row}
use Rattle.ooo_table.specs.References.{store_references}
use Rattle.ooo_table.specs.Issue.{holds, spans}
use Rattle.ooo_table.specs.Dispatch.{dispatch_row}
use Rattle.ooo_table.specs.Fetch.{fetched_row}
use Rattle.ooo_table.specs.Cycle.{table}
use Rattle.ooo_table.specs.Ends.{Extent, Whole, AtCommit, AtStop, rows_at, commit_up_to}
use Rattle.ooo_table.specs.Later.{Each, Where, Past}
use Rattle.ooo_table.specs.Legal.{UnitsSuffice}
use Rattle.ooo_table.proofs.Order.{Changed, Now}
use Rattle.ooo_table.proofs.Units.{issue_fits}
use Rattle.ooo_table.proofs.Kept.{each_of, kept_marks, kept_up_to}
use Rattle.ooo_table.proofs.Counts.{both', count_less, width, at_old, now_accessed, none_at, access_past, past_kept, past_table, past_before, after_commit, after_recover, after_issue, after_dispatch, less_up_to, less_marks, fetched_same}
use Rattle.ooo_table.proofs.Widths.{kept_less, each_false, commit_same, squash_same, dispatch_same', up_to_same}

at_more : (c x : ℕ) (m : Option ℕ) → c ≤ x → Where m (λ i. i < suc c) → is_at x m ≡ true → is_at c m ≡ true
at_more c x None le w h = absurd cc
at_more c x (Some i) le w h = let k : i ≡ x = eqb-true i x h in let e : c ≡ x = omega arith in subst (λ y. (i == y) ≡ true) (sym e) h

either : (P : Type 0) (b d : Bool) → (b || d) ≡ true → (b ≡ true → P) → (d ≡ true → P) → P
either P true d h f g = f refl
either P false d h f g = g h

module _ (set : Setting) where
  span_old : (c x n : ℕ) (m k : Option ℕ) → x < c → Now (λ d. d ≡ c) m k → spans x n k ≡ true → spans x n m ≡ true
  span_old c x n m k lt (inl e) h = subst (λ o. spans x n o ≡ true) e h
  span_old c x n m None lt (inr (e, i, at)) h = absurd cc
  span_old c x n m (Some y) lt (inr (e, i, at)) h =
      let le : y ≤ x = leb-true y x (and_parts (nat_le y x) (nat_lt x (y + n)) h).0 in
      absurd (omega arith)

  -- what held a unit before c and holds it later held it at c
  span_more : (c x n : ℕ) (m : Option ℕ) → c ≤ x → Where m (λ i. i < suc c) → spans x n m ≡ true → spans c n m ≡ true
  span_more c x n None le w h = absurd cc
  span_more c x n (Some i) le w h =
      let parts : (nat_le i x ≡ true) × (nat_lt x (i + n) ≡ true) = and_parts _ _ h in
      let lt : x < i + n = ltb-true _ _ parts.1 in
      and_from _ _ (le-leb i c (omega arith)) (lt-ltb c (i + n) (omega arith))

  old_holds : (p : Pool) (c x : ℕ) (r s : Row) → x < c → Changed c r s → holds set p x s ≡ true → holds set p x r ≡ true
  old_holds Alus c x r s lt ch h =
      let k : (is_of Alus (execution set r).unit && spans x (unit_hold (execution set r).unit) s.issued) ≡ true = subst (λ w. (is_of Alus (execution_of set w).unit && spans x (unit_hold (execution_of set w).unit) s.issued) ≡ true) ch.fetched h in
      let parts : (is_of Alus (execution set r).unit ≡ true) × (spans x (unit_hold (execution set r).unit) s.issued ≡ true) = and_parts _ _ k in
      and_from _ _ parts.0 (span_old c x (unit_hold (execution set r).unit) r.issued s.issued lt ch.issued parts.1)
  old_holds Multipliers c x r s lt ch h =
      let k : (is_of Multipliers (execution set r).unit && spans x (unit_hold (execution set r).unit) s.issued) ≡ true = subst (λ w. (is_of Multipliers (execution_of set w).unit && spans x (unit_hold (execution_of set w).unit) s.issued) ≡ true) ch.fetched h in
      let parts : (is_of Multipliers (execution set r).unit ≡ true) × (spans x (unit_hold (execution set r).unit) s.issued ≡ true) = and_parts _ _ k in
      and_from _ _ parts.0 (span_old c x (unit_hold (execution set r).unit) r.issued s.issued lt ch.issued parts.1)
  old_holds Ports c x r s lt ch h =
      let k : ((loads set r && spans x 1 (accessed s)) || (stores set r && is_at x s.committed)) ≡ true =
      subst (λ w. ((is_load (execution_of set w).memory && spans x 1 (accessed s)) || (is_store (execution_of set w).memory && is_at x s.committed)) ≡ true) ch.fetched h in
      either (holds set Ports x r ≡ true) (loads set r && spans x 1 (accessed s)) (stores set r && is_at x s.committed) k
      (λ a. or_left (loads set r && spans x 1 (accessed r)) (stores set r && is_at x r.committed) (and_from _ _ (and_parts (loads set r) (spans x 1 (accessed s)) a).0
      (span_old c x 1 (accessed r) (accessed s) lt (now_accessed c r.access s.access ch.access) (and_parts (loads set r) (spans x 1 (accessed s)) a).1)))
      (λ b. or_right (loads set r && spans x 1 (accessed r)) (stores set r && is_at x r.committed) (and_from _ _ (and_parts (stores set r) (is_at x s.committed) b).0
      (at_old c x r.committed s.committed lt ch.committed (and_parts (stores set r) (is_at x s.committed) b).1)))

  more_holds : (p : Pool) (c x : ℕ) (r : Row) → c ≤ x → Past (suc c) r → holds set p x r ≡ true → holds set p c r ≡ true
  more_holds Alus c x r le past h =
      let parts : (is_of Alus (execution set r).unit ≡ true) × (spans x (unit_hold (execution set r).unit) r.issued ≡ true) = and_parts _ _ h in
      and_from _ _ parts.0 (span_more c x (unit_hold (execution set r).unit) r.issued le past.issued parts.1)
  more_holds Multipliers c x r le past h =
      let parts : (is_of Multipliers (execution set r).unit ≡ true) × (spans x (unit_hold (execution set r).unit) r.issued ≡ true) = and_parts _ _ h in
      and_from _ _ parts.0 (span_more c x (unit_hold (execution set r).unit) r.issued le past.issued parts.1)
  more_holds Ports c x r le past h =
      either (holds set Ports c r ≡ true) (loads set r && spans x 1 (accessed r)) (stores set r && is_at x r.committed) h
      (λ a. or_left (loads set r && spans c 1 (accessed r)) (stores set r && is_at c r.committed) (and_from _ _ (and_parts (loads set r) (spans x 1 (accessed r)) a).0
      (span_more c x 1 (accessed r) le (access_past (suc c) r.access past.access) (and_parts (loads set r) (spans x 1 (accessed r)) a).1)))
      (λ b. or_right (loads set r && spans c 1 (accessed r)) (stores set r && is_at c r.committed) (and_from _ _ (and_parts (stores set r) (is_at x r.committed) b).0
      (at_more c x r.committed le past.committed (and_parts (stores set r) (is_at x r.committed) b).1)))

  more_held : (p : Pool) (c x : ℕ) (rows : List Row) → c ≤ x → Each (λ _. Past (suc c)) rows → count_by (holds set p x) rows ≤ count_by (holds set p c) rows
  more_held p c x rows le past =
      count_less (holds set p x) (holds set p c) rows (each_of (λ _. Past (suc c)) (λ _ o. holds set p x o ≡ true → holds set p c o ≡ true) (λ older r h. more_holds p c x r le h) rows past)

  fresh_holds : (p : Pool) (c x : ℕ) (u : NextFetch) (look : Look) (queued : ℕ) → holds set p x (fetched_row set c u look queued) ≡ false
  fresh_holds Alus c x u look queued = and_right (is_of Alus (execution set (fetched_row set c u look queued)).unit) false refl
  fresh_holds Multipliers c x u look queued = and_right (is_of Multipliers (execution set (fetched_row set c u look queued)).unit) false refl
  fresh_holds Ports c x u look queued = or_from _ _ (and_right (loads set (fetched_row set c u look queued)) false refl) (and_right (stores set (fetched_row set c u look queued)) false refl)

  -- stores that commit find ports
  abbrev store_at : ℕ → Row → Bool
  store_at c o = is_at c o.committed && stores set o

  store_test : (c : ℕ) (before : List Row) (r : Row) → store_at c r ≡ false → store_at c (commit_row set c before r) ≡ true → count_by (store_at c) before < set.config.ports
  store_test c before r un =
      cond_both (commits set c before r) (record r { committed = Some c }) r (λ s. store_at c s ≡ true → count_by (store_at c) before < set.config.ports)
      (λ e h. ltb-true _ _ (subst (λ b. (not b || nat_lt (count_by (store_at c) before) set.config.ports) ≡ true) (and_parts (c == c) (stores set r) h).1 (left e)))
      (λ e h. absurd (both' h un))
    where
      left : commits set c before r ≡ true → (not (stores set r) || nat_lt (count_by (λ o. is_at c o.committed && stores set o) before) set.config.ports) ≡ true
      left e = grind (arith, and_parts)

  no_store : (c : ℕ) → Each (λ _ o. store_at c o ≡ false) (table set c).rows
  no_store c =
      each_of (λ _. Past c) (λ _ o. store_at c o ≡ false) (λ older r h. unset r (none_at c c r.committed (omega arith) h.committed)) (table set c).rows (past_table set c)
    where
      unset : (r : Row) → is_at c r.committed ≡ false → store_at c r ≡ false
      unset r e = ap (λ b. b && stores set r) e

  abbrev reads_at : ℕ → Row → Bool
  reads_at c o = loads set o && spans c 1 (accessed o)

  no_read : (c : ℕ) → Each (λ _ o. reads_at c o ≡ false) (table set c).rows
  no_read c =
      each_of (λ _. Past c) (λ _ o. reads_at c o ≡ false) (λ older r h. and_right (loads set r) (spans c 1 (accessed r)) (unread (accessed r) (access_past c r.access h.access))) (table set c).rows (past_table set c)
    where
      unread : (m : Option ℕ) → Where m (λ d. d < c) → spans c 1 m ≡ false
      unread None w = refl
      unread (Some y) w = by_test (spans c 1 (Some y)) refl
        where
          by_test : (b : Bool) → spans c 1 (Some y) ≡ b → b ≡ false
          by_test false e = refl
          by_test true e = let lt : c < y + 1 = ltb-true c (y + 1) (and_parts (nat_le y c) (nat_lt c (y + 1)) e).1 in absurd (omega arith)

  port_of : (c : ℕ) (rows : List Row) → Each (λ _ o. reads_at c o ≡ false) rows → count_by (holds set Ports c) rows ≤ count_by (store_at c) rows
  port_of c rows h = count_less (holds set Ports c) (store_at c) rows (each_of (λ _ o. reads_at c o ≡ false) (λ _ o. holds set Ports c o ≡ true → store_at c o ≡ true) (λ older o un k. one o un k) rows h)
    where
      one : (o : Row) → reads_at c o ≡ false → holds set Ports c o ≡ true → store_at c o ≡ true
      one o un k =
          either (store_at c o ≡ true) (reads_at c o) (stores set o && is_at c o.committed) k (λ a. absurd (both' a un))
          (λ b. and_from _ _ (and_parts (stores set o) (is_at c o.committed) b).1 (and_parts (stores set o) (is_at c o.committed) b).0)

  commit_fits : (p : Pool) (c : ℕ) → count_by (holds set p c) (table set c).rows ≤ pool_size set.config p → count_by (holds set p c) (after_commit set c).rows ≤ pool_size set.config p
  commit_fits Alus c h = omega (arith, h, kept_less (holds set Alus c) (commit_row set c) (commit_same set (holds set Alus c) c (λ r. refl)) (table set c).rows)
  commit_fits Multipliers c h = omega (arith, h, kept_less (holds set Multipliers c) (commit_row set c) (commit_same set (holds set Multipliers c) c (λ r. refl)) (table set c).rows)
  commit_fits Ports c h =
      omega (
        arith,
        width (commit_row set c) (store_at c) set.config.ports (store_test c) (table set c).rows (no_store c),
        port_of c (after_commit set c).rows (each_false (reads_at c) (commit_row set c) (commit_same set (reads_at c) c (λ r. refl)) (table set c).rows (no_read c)),
      )

  up_to_fits : (p : Pool) (c row : ℕ) → count_by (holds set p c) (table set c).rows ≤ pool_size set.config p → count_by (holds set p c) (sweep (commit_up_to set row c) (table set c).rows) ≤ pool_size set.config p
  up_to_fits Alus c row h = omega (arith, h, kept_less (holds set Alus c) (commit_up_to set row c) (up_to_same set (holds set Alus c) row c (λ r. refl)) (table set c).rows)
  up_to_fits Multipliers c row h = omega (arith, h, kept_less (holds set Multipliers c) (commit_up_to set row c) (up_to_same set (holds set Multipliers c) row c (λ r. refl)) (table set c).rows)
  up_to_fits Ports c row h =
      omega (
        arith,
        width (commit_up_to set row c) (store_at c) set.config.ports test (table set c).rows (no_store c),
        port_of c (sweep (commit_up_to set row c) (table set c).rows) (each_false (reads_at c) (commit_up_to set row c) (up_to_same set (reads_at c) row c (λ r. refl)) (table set c).rows (no_read c)),
      )
    where
      test : (before : List Row) (r : Row) → store_at c r ≡ false → store_at c (commit_up_to set row c before r) ≡ true → count_by (store_at c) before < set.config.ports
      test before r un =
          cond_both (nat_le (length before) row) (commit_row set c before r) r (λ s. store_at c s ≡ true → count_by (store_at c) before < set.config.ports)
          (λ _. store_test c before r un) (λ _ h. absurd (both' h un))

  squash_holds : (p : Pool) (c : ℕ) (r : Row) → holds set p c (record r { squashed = Some c }) ≡ holds set p c r
  squash_holds Alus c r = refl
  squash_holds Multipliers c r = refl
  squash_holds Ports c r = refl

  dispatch_holds : (p : Pool) (c : ℕ) (r : Row) → holds set p c (record r { dispatched = Some c }) ≡ holds set p c r
  dispatch_holds Alus c r = refl
  dispatch_holds Multipliers c r = refl
  dispatch_holds Ports c r = refl

  -- if the pools suffice as a cycle begins, they do after its marks
  abbrev Unmarked : ℕ → Row → Type 0
  Unmarked c r = Where r.issued (λ d. d < c) × Where r.access (λ a. a.at < c)

  unmarked_sweep : (c : ℕ) (f : List Row → Row → Row) → ((before : List Row) (r : Row) → Unmarked c r → Unmarked c (f before r)) → (rows : List Row) → Each (λ _. Unmarked c) rows → Each (λ _. Unmarked c) (sweep f rows)
  unmarked_sweep c f keeps [] h = tt
  unmarked_sweep c f keeps (r ∷ rows) h = (keeps (sweep f rows) r h.0, unmarked_sweep c f keeps rows h.1)

  unmarked : (c : ℕ) → Each (λ _. Unmarked c) (after_recover set c).rows
  unmarked c =
      unmarked_sweep c (squash_row set c) (λ b r h. cond_both _ (record r { squashed = Some c }) r (Unmarked c) (λ _. h) (λ _. h)) (after_commit set c).rows
      (unmarked_sweep c (commit_row set c) (λ b r h. cond_both (commits set c b r) (record r { committed = Some c }) r (Unmarked c) (λ _. h) (λ _. h)) (table set c).rows
      (each_of (λ _. Past c) (λ _. Unmarked c) (λ older r h. (h.issued, h.access)) (table set c).rows (past_table set c)))

  marks_fit : (p : Pool) (c : ℕ) → count_by (holds set p c) (table set c).rows ≤ pool_size set.config p → count_by (holds set p c) (after_dispatch set c).rows ≤ pool_size set.config p
  marks_fit p c h =
      omega (
        arith,
        issue_fits set p c (store_references set c (after_recover set c).rows (after_recover set c).references) (after_recover set c).rows (unmarked c)
            (omega (arith, commit_fits p c h, kept_less (holds set p c) (squash_row set c) (squash_same set (holds set p c) c (squash_holds p c)) (after_commit set c).rows)),
        kept_less (holds set p c) (dispatch_row set c) (dispatch_same' set (holds set p c) c (dispatch_holds p c)) (after_issue set c).rows,
      )

  -- at every cycle, wherever a run ends
  held_table : (p : Pool) (c x : ℕ) → count_by (holds set p x) (table set c).rows ≤ pool_size set.config p
  held_table p zero x = omega arith
  held_table p (suc c) x = by_time (cases_lt x c) (held_table p c x) (held_table p c c)
    where
      by_time : (x < c) ⊎ (c ≤ x) → count_by (holds set p x) (table set c).rows ≤ pool_size set.config p → count_by (holds set p c) (table set c).rows ≤ pool_size set.config p
          → count_by (holds set p x) (table set (suc c)).rows ≤ pool_size set.config p
      by_time (inl lt) ih now =
          omega (arith, ih, fetched_same set (holds set p x) c (fresh_holds p c x) set.config.decode (after_dispatch set c), less_marks set c (holds set p x) (λ r s ch h. old_holds p c x r s lt ch h))
      by_time (inr le) ih now =
          omega (arith, marks_fit p c now, fetched_same set (holds set p c) c (fresh_holds p c c) set.config.decode (after_dispatch set c), more_held p c x (table set (suc c)).rows le (past_table set (suc c)))

  held_at : (e : Extent) (p : Pool) (c x : ℕ) → count_by (holds set p x) (rows_at set e c) ≤ pool_size set.config p
  held_at Whole p c x = held_table p c x
  held_at (AtCommit row) p c x = by_time (cases_lt x c)
    where
      by_time : (x < c) ⊎ (c ≤ x) → count_by (holds set p x) (rows_at set (AtCommit row) c) ≤ pool_size set.config p
      by_time (inl lt) = omega (arith, held_table p c x, less_up_to set c (holds set p x) (λ r s ch h. old_holds p c x r s lt ch h) row)
      by_time (inr le) = omega (arith, up_to_fits p c row (held_table p c c), more_held p c x (rows_at set (AtCommit row) c) le (kept_up_to set row c (λ _. Past (suc c)) (past_kept set c) (table set c).rows (past_before set c)))
  held_at AtStop p c x = by_time (cases_lt x c)
    where
      by_time : (x < c) ⊎ (c ≤ x) → count_by (holds set p x) (rows_at set AtStop c) ≤ pool_size set.config p
      by_time (inl lt) = omega (arith, held_table p c x, less_marks set c (holds set p x) (λ r s ch h. old_holds p c x r s lt ch h))
      by_time (inr le) = omega (arith, marks_fit p c (held_table p c c), more_held p c x (rows_at set AtStop c) le (kept_marks set c (λ _. Past (suc c)) (past_kept set c) (table set c) (past_before set c)))

  pub units_at : (e : Extent) (c x : ℕ) → UnitsSuffice set (rows_at set e c) x
  units_at e c x = λ p. held_at e p c x
