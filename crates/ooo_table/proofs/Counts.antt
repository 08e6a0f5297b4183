-- Counting rows before and after a stage.
use Rattle.std.proofs.Common.{◌≡◌, ℕ, zero, suc, ◌+◌, ◌<◌, ◌≤◌, Bool, true, false, cond, List, [], ◌∷◌, Option, Some, None, refl, sym, ap, ◌∙◌, subst, arith, inl, inr}
use Rattle.std.specs.Prelude.{◌&&◌, is_none, is_some, option_map, ◌⊎◌, count_by}
use Rattle.std.proofs.lemmas.Bool.{cond_both, eqb-true, cases_lt}
use Rattle.std.proofs.lemmas.Bool.Decides.{nat_tests}
use Rattle.std.proofs.lemmas.List.Sums.{sum_by-cons}
use Rattle.bpred_unit.specs.declared.predictor.Look.{Look}
use Rattle.ooo_table.specs.Row.{Row, is_at, sweep, MemoryAccess}
use Rattle.ooo_table.specs.Table.{Setting, Table, NextFetch}
use Rattle.ooo_table.specs.Done.{waiting}
use Rattle.ooo_table.specs.Commit.{commit, commit_row}
use Rattle.ooo_table.specs.Recovery.{recover, squash_row}
use Rattle.ooo_table.specs.References.{store_references, predictor_events_of, references_of}
use Rattle.ooo_table.specs.Issue.{issue, issue_row}
use Rattle.ooo_table.specs.Dispatch.{dispatch, dispatch_row}
use Rattle.ooo_table.specs.Fetch.{fetch_up_to, fetch_one, may_fetch, fetched_row, queue_cycle}
use Rattle.ooo_table.specs.Cycle.{table}
use Rattle.ooo_table.specs.Ends.{Extent, Whole, AtCommit, AtStop, rows_at, commit_up_to}
use Rattle.ooo_table.specs.Later.{Each, Where, Past}
use Rattle.ooo_table.proofs.Order.{Changed, Now}
use Rattle.ooo_table.proofs.RowFacts.{changed_commit, changed_squash, changed_dispatch, changed_issue}
use Rattle.ooo_table.proofs.Kept.{Kept, kept_marks, kept_cycle, kept_up_to, each_of, changed_up_to}

abbrev pub one : Bool → ℕ
one b = cond b 1 0

pub both' : {b : Bool} → b ≡ true → b ≡ false → ⊥
both' e f = cc

pub count_cons : (p : Row → Bool) (r : Row) (rows : List Row) → count_by p (r ∷ rows) ≡ one (p r) + count_by p rows
count_cons p r rows = sum_by-cons (λ x. cond {A = ℕ} (p x) 1 0) r rows

pub count_true : (p : Row → Bool) (r : Row) (rows : List Row) → p r ≡ true → count_by p (r ∷ rows) ≡ 1 + count_by p rows
count_true p r rows e = count_cons p r rows ∙ ap (λ b. one b + count_by p rows) e

pub count_false : (p : Row → Bool) (r : Row) (rows : List Row) → p r ≡ false → count_by p (r ∷ rows) ≡ count_by p rows
count_false p r rows e = omega (arith, count_cons p r rows, ap (λ b. one b) e)

pub one_less : (b d : Bool) → (b ≡ true → d ≡ true) → one b ≤ one d
one_less true d h = let k : d ≡ true = h refl in rw k (omega arith)
one_less false d h = omega arith

-- a sweep leaves no more rows with p than there were with q
pub swept_less : (p q : Row → Bool) (f : List Row → Row → Row) → ((before : List Row) (r : Row) → p (f before r) ≡ true → q r ≡ true) → (rows : List Row)
    → count_by p (sweep f rows) ≤ count_by q rows
swept_less p q f h [] = omega arith
swept_less p q f h (r ∷ rows) =
    omega (arith, swept_less p q f h rows, one_less (p (f (sweep f rows) r)) (q r) (h (sweep f rows) r), count_cons p (f (sweep f rows) r) (sweep f rows), count_cons q r rows)

pub count_less : (p q : Row → Bool) (rows : List Row) → Each (λ _ o. p o ≡ true → q o ≡ true) rows → count_by p rows ≤ count_by q rows
count_less p q [] h = omega arith
count_less p q (o ∷ rows) h = omega (arith, count_less p q rows h.1, one_less (p o) (q o) h.0, count_cons p o rows, count_cons q o rows)

pub count_zero : (p : Row → Bool) (rows : List Row) → Each (λ _ o. p o ≡ false) rows → count_by p rows ≡ 0
count_zero p [] h = refl
count_zero p (o ∷ rows) h = count_false p o rows h.0 ∙ count_zero p rows h.1

-- or no more than n, where a row got p only while fewer than n had it
pub width : (f : List Row → Row → Row) (p : Row → Bool) (n : ℕ) → ((before : List Row) (r : Row) → p r ≡ false → p (f before r) ≡ true → count_by p before < n)
    → (rows : List Row) → Each (λ _ o. p o ≡ false) rows → count_by p (sweep f rows) ≤ n
width f p n test [] h = omega arith
width f p n test (r ∷ rows) h = by_new (p (f (sweep f rows) r)) refl (width f p n test rows h.1)
  where
    by_new : (b : Bool) → p (f (sweep f rows) r) ≡ b → count_by p (sweep f rows) ≤ n → count_by p (f (sweep f rows) r ∷ sweep f rows) ≤ n
    by_new true e ih = omega (arith, count_true p (f (sweep f rows) r) (sweep f rows) e, test (sweep f rows) r h.0 e)
    by_new false e ih = omega (arith, count_false p (f (sweep f rows) r) (sweep f rows) e, ih)

-- a mark of an earlier cycle was there before the stage
pub at_old : (c x : ℕ) (m n : Option ℕ) → x < c → Now (λ d. d ≡ c) m n → is_at x n ≡ true → is_at x m ≡ true
at_old c x m n lt (inl e) h = subst (λ o. is_at x o ≡ true) e h
at_old c x m None lt (inr (e, i, at)) h = absurd cc
at_old c x m (Some y) lt (inr (e, i, at)) h = let k : y ≡ x = eqb-true y x h in absurd (omega arith)

pub now_accessed : (c : ℕ) (m n : Option MemoryAccess) → Now (λ a. a.at ≡ c) m n → Now (λ d. d ≡ c) (option_map (λ a. a.at) m) (option_map (λ a. a.at) n)
now_accessed c m n (inl e) = inl (ap (option_map (λ a. a.at)) e)
now_accessed c m None (inr (e, i, at)) = absurd cc
now_accessed c m (Some a) (inr (e, i, at)) = inr (ap (option_map (λ a. a.at)) e, refl, at)

pub now_dispatched : (c : ℕ) (r s : Row) → Changed c r s → Now (λ d. d ≡ c) r.dispatched s.dispatched
now_dispatched c r s ch = by_case ch.dispatched
  where
    unset : (m n : Option ℕ) → (is_none m && is_none n) ≡ true → m ≡ None
    unset None n h = refl
    unset (Some d) n h = absurd cc

    now : (m : Option ℕ) → m ≡ Some c → (is_some m ≡ true) × Where m (λ d. d ≡ c)
    now None e = absurd cc
    now (Some d) e = let k : d ≡ c = cc in (refl, k)

    by_case : (s.dispatched ≡ r.dispatched) ⊎ ((waiting r ≡ true) × (s.dispatched ≡ Some c)) → Now (λ d. d ≡ c) r.dispatched s.dispatched
    by_case (inl e) = inl e
    by_case (inr (w, e)) = let k : (is_some s.dispatched ≡ true) × Where s.dispatched (λ d. d ≡ c) = now s.dispatched e in inr (unset r.dispatched r.squashed w, k.0, k.1)

-- and none is of a later one
pub none_at : (n x : ℕ) (m : Option ℕ) → n ≤ x → Where m (λ d. d < n) → is_at x m ≡ false
none_at n x None le w = refl
none_at n x (Some d) le w = grind (arith, nat_tests)

pub access_past : (n : ℕ) (m : Option MemoryAccess) → Where m (λ a. a.at < n) → Where (option_map (λ a. a.at) m) (λ d. d < n)
access_past n None w = tt
access_past n (Some a) w = w

module _ (set : Setting) where
  now_past : (c : ℕ) (m n : Option ℕ) → Now (λ d. d ≡ c) m n → Where m (λ d. d < suc c) → Where n (λ d. d < suc c)
  now_past c m n (inl e) w = rw e w
  now_past c m None (inr e) w = tt
  now_past c m (Some y) (inr (e, i, at)) w = omega arith

  access_now_past : (c : ℕ) (m n : Option MemoryAccess) → Now (λ a. a.at ≡ c) m n → Where m (λ a. a.at < suc c) → Where n (λ a. a.at < suc c)
  access_now_past c m n (inl e) w = rw e w
  access_now_past c m None (inr e) w = tt
  access_now_past c m (Some y) (inr (e, i, at)) w = omega arith

  pub past_stays : (c : ℕ) (r s : Row) → Changed c r s → Past (suc c) r → Past (suc c) s
  past_stays c r s ch p =
      record {
        fetched = subst (λ w. w.at < suc c) (sym ch.fetched) p.fetched;
        dispatched = now_past c r.dispatched s.dispatched (now_dispatched c r s ch) p.dispatched;
        issued = now_past c r.issued s.issued ch.issued p.issued;
        access = access_now_past c r.access s.access ch.access p.access;
        committed = now_past c r.committed s.committed ch.committed p.committed;
        squashed = now_past c r.squashed s.squashed ch.squashed p.squashed;
      }

  pub past_later : (c : ℕ) (r : Row) → Past c r → Past (suc c) r
  past_later c r p =
      let f : r.fetched.at < c = p.fetched in
      record {
        fetched = omega arith;
        dispatched = more r.dispatched p.dispatched;
        issued = more r.issued p.issued;
        access = access_more r.access p.access;
        committed = more r.committed p.committed;
        squashed = more r.squashed p.squashed;
      }
    where
      more : (m : Option ℕ) → Where m (λ d. d < c) → Where m (λ d. d < suc c)
      more None w = tt
      more (Some d) w = omega arith

      access_more : (m : Option MemoryAccess) → Where m (λ a. a.at < c) → Where m (λ a. a.at < suc c)
      access_more None w = tt
      access_more (Some a) w = omega arith

  pub past_kept : (c : ℕ) → Kept set c (λ _. Past (suc c))
  past_kept c =
      record {
        at_commit = λ older before r zip below p. past_stays c r (commit_row set c before r) (changed_commit set c before r) p;
        at_squash = λ older before r zip below p. past_stays c r (squash_row set c before r) (changed_squash set c before r) p;
        at_issue = λ base start older before r zip below p. past_stays c r (issue_row set c base start before r) (changed_issue set c base start before r) p;
        at_dispatch = λ older before r zip below p. past_stays c r (dispatch_row set c before r) (changed_dispatch set c before r) p;
        at_fetch = λ older u look queued below. record { fetched = omega arith; dispatched = tt; issued = tt; access = tt; committed = tt; squashed = tt };
        still = λ older before r zip below p. p;
      }

  past_more : (c : ℕ) (rows : List Row) → Each (λ _. Past c) rows → Each (λ _. Past (suc c)) rows
  past_more c rows p = each_of (λ _. Past c) (λ _. Past (suc c)) (λ older r p. past_later c r p) rows p

  pub past_table : (c : ℕ) → Each (λ _. Past c) (table set c).rows
  past_table zero = tt
  past_table (suc c) = kept_cycle set c (λ _. Past (suc c)) (past_kept c) (table set c) (past_more c (table set c).rows (past_table c))

  pub past_before : (c : ℕ) → Each (λ _. Past (suc c)) (table set c).rows
  past_before c = past_more c (table set c).rows (past_table c)

  -- how the rows change from stage to stage
  abbrev pub after_commit : ℕ → Table
  after_commit c = commit set c (table set c)

  abbrev pub after_recover : ℕ → Table
  after_recover c = recover set c (after_commit c)

  abbrev pub after_issue : ℕ → Table
  after_issue c = issue set c (after_recover c)

  abbrev pub after_dispatch : ℕ → Table
  after_dispatch c = dispatch set c (after_issue c)

  -- counts that no stage raises
  module _ (c : ℕ) (p : Row → Bool) (old : (r s : Row) → Changed c r s → p s ≡ true → p r ≡ true) where
    pub less_commit : count_by p (after_commit c).rows ≤ count_by p (table set c).rows
    less_commit = swept_less p p (commit_row set c) (λ b r h. old r (commit_row set c b r) (changed_commit set c b r) h) (table set c).rows

    pub less_up_to : (row : ℕ) → count_by p (sweep (commit_up_to set row c) (table set c).rows) ≤ count_by p (table set c).rows
    less_up_to row = swept_less p p (commit_up_to set row c) (λ b r h. old r (commit_up_to set row c b r) (changed_up_to set row c b r) h) (table set c).rows

    pub less_recover : count_by p (after_recover c).rows ≤ count_by p (after_commit c).rows
    less_recover = swept_less p p (squash_row set c) (λ b r h. old r (squash_row set c b r) (changed_squash set c b r) h) (after_commit c).rows

    pub less_issue : count_by p (after_issue c).rows ≤ count_by p (after_recover c).rows
    less_issue =
        swept_less p p (issue_row set c (store_references set c (after_recover c).rows (after_recover c).references) (after_recover c).rows)
        (λ b r h. old r (issue_row set c (store_references set c (after_recover c).rows (after_recover c).references) (after_recover c).rows b r)
        (changed_issue set c (store_references set c (after_recover c).rows (after_recover c).references) (after_recover c).rows b r) h) (after_recover c).rows

    pub less_dispatch : count_by p (after_dispatch c).rows ≤ count_by p (after_issue c).rows
    less_dispatch = swept_less p p (dispatch_row set c) (λ b r h. old r (dispatch_row set c b r) (changed_dispatch set c b r) h) (after_issue c).rows

    pub less_marks : count_by p (after_dispatch c).rows ≤ count_by p (table set c).rows
    less_marks = omega (arith, less_commit, less_recover, less_issue, less_dispatch)

  -- counts that no fetch raises
  pub fetched_same : (p : Row → Bool) (c : ℕ) → ((u : NextFetch) (look : Look) (queued : ℕ) → p (fetched_row set c u look queued) ≡ false) → (n : ℕ) (t : Table)
      → count_by p (fetch_up_to set n c t).rows ≡ count_by p t.rows
  fetched_same p c fresh zero t = refl
  fetched_same p c fresh (suc n) t =
      cond_both (may_fetch set c t) (fetch_up_to set n c (fetch_one set c t)) t (λ u. count_by p u.rows ≡ count_by p t.rows)
      (λ _. fetched_same p c fresh n (fetch_one set c t)
      ∙ count_false p (fetched_row set c t.next_fetch (set.look t.next_fetch.pc (predictor_events_of set c t.rows t.predictor_events)) (queue_cycle set c t.next_fetch.pc (references_of set c t.rows t.references))) t.rows
      (fresh t.next_fetch (set.look t.next_fetch.pc (predictor_events_of set c t.rows t.predictor_events)) (queue_cycle set c t.next_fetch.pc (references_of set c t.rows t.references))))
      (λ _. refl)

  -- counts that a fetch raises by one at most
  pub fetched_more : (p : Row → Bool) (c n : ℕ) (t : Table) → count_by p (fetch_up_to set n c t).rows ≤ n + count_by p t.rows
  fetched_more p c zero t = omega arith
  fetched_more p c (suc n) t =
      cond_both (may_fetch set c t) (fetch_up_to set n c (fetch_one set c t)) t (λ u. count_by p u.rows ≤ suc n + count_by p t.rows)
      (λ _. omega (arith, fetched_more p c n (fetch_one set c t), more (fetched_row set c t.next_fetch (set.look t.next_fetch.pc (predictor_events_of set c t.rows t.predictor_events)) (queue_cycle set c t.next_fetch.pc (references_of set c t.rows t.references)))))
      (λ _. omega arith)
    where
      one_most : (b : Bool) → one b ≤ 1
      one_most true = omega arith
      one_most false = omega arith

      more : (r : Row) → count_by p (r ∷ t.rows) ≤ 1 + count_by p t.rows
      more r = omega (arith, count_cons p r t.rows, one_most (p r))

  -- What is at most n after every whole cycle is at most n wherever a run ends.
  pub record Counted (p : ℕ → Row → Bool) (n : ℕ) : Type 0 where
    pub none : (c x : ℕ) (r : Row) → c ≤ x → Past c r → p x r ≡ false
    pub old : (c x : ℕ) (r s : Row) → x < c → Changed c r s → p x s ≡ true → p x r ≡ true
    pub fresh : (c x : ℕ) (u : NextFetch) (look : Look) (queued : ℕ) → x < c → p x (fetched_row set c u look queued) ≡ false
    pub up_to : (c row : ℕ) → count_by (p c) (sweep (commit_up_to set row c) (table set c).rows) ≤ n
    pub marks : (c : ℕ) → count_by (p c) (after_dispatch c).rows ≤ n
    pub now : (c : ℕ) → count_by (p c) (table set (suc c)).rows ≤ n

  module _ (p : ℕ → Row → Bool) (n : ℕ) (k : Counted p n) where
    no_later : (c x : ℕ) (rows : List Row) → c ≤ x → Each (λ _. Past c) rows → count_by (p x) rows ≤ n
    no_later c x rows le past = omega (arith, count_zero (p x) rows (each_of (λ _. Past c) (λ _ o. p x o ≡ false) (λ older r h. k.none c x r le h) rows past))

    split : (c x : ℕ) → (x < c) ⊎ ((x ≡ c) ⊎ (suc c ≤ x))
    split c x = by_case (cases_lt x c) (cases_lt c x)
      where
        by_case : (x < c) ⊎ (c ≤ x) → (c < x) ⊎ (x ≤ c) → (x < c) ⊎ ((x ≡ c) ⊎ (suc c ≤ x))
        by_case (inl a) b = inl a
        by_case (inr a) (inl b) = inr (inr (omega arith))
        by_case (inr a) (inr b) = inr (inl (omega arith))

    counted_table : (c x : ℕ) → count_by (p x) (table set c).rows ≤ n
    counted_table zero x = omega arith
    counted_table (suc c) x = by_time (split c x) (counted_table c x)
      where
        by_time : (x < c) ⊎ ((x ≡ c) ⊎ (suc c ≤ x)) → count_by (p x) (table set c).rows ≤ n → count_by (p x) (table set (suc c)).rows ≤ n
        by_time (inl lt) ih =
            omega (arith, ih, fetched_same (p x) c (λ u look queued. k.fresh c x u look queued lt) set.config.decode (after_dispatch c), less_marks c (p x) (λ r s ch h. k.old c x r s lt ch h))
        by_time (inr (inl e)) ih = subst (λ y. count_by (p y) (table set (suc c)).rows ≤ n) (sym e) (k.now c)
        by_time (inr (inr le)) ih = no_later (suc c) x (table set (suc c)).rows le (past_table (suc c))

    pub counted_at : (e : Extent) (c x : ℕ) → count_by (p x) (rows_at set e c) ≤ n
    counted_at Whole c x = counted_table c x
    counted_at (AtCommit row) c x = by_time (split c x)
      where
        by_time : (x < c) ⊎ ((x ≡ c) ⊎ (suc c ≤ x)) → count_by (p x) (rows_at set (AtCommit row) c) ≤ n
        by_time (inl lt) = omega (arith, counted_table c x, less_up_to c (p x) (λ r s ch h. k.old c x r s lt ch h) row)
        by_time (inr (inl e)) = subst (λ y. count_by (p y) (rows_at set (AtCommit row) c) ≤ n) (sym e) (k.up_to c row)
        by_time (inr (inr le)) = no_later (suc c) x (rows_at set (AtCommit row) c) le (kept_up_to set row c (λ _. Past (suc c)) (past_kept c) (table set c).rows (past_before c))
    counted_at AtStop c x = by_time (split c x)
      where
        by_time : (x < c) ⊎ ((x ≡ c) ⊎ (suc c ≤ x)) → count_by (p x) (rows_at set AtStop c) ≤ n
        by_time (inl lt) = omega (arith, counted_table c x, less_marks c (p x) (λ r s ch h. k.old c x r s lt ch h))
        by_time (inr (inl e)) = subst (λ y. count_by (p y) (rows_at set AtStop c) ≤ n) (sym e) (k.marks c)
        by_time (inr (inr le)) = no_later (suc c) x (rows_at set AtStop c) le (kept_marks set c (λ _. Past (suc c)) (past_kept c) (table set c) (past_before c))
