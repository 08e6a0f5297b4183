-- Rows that have committed or were squashed hold up nothing behind them.
use Rattle.std.proofs.Common.{◌≡◌, ℕ, ◌<◌, ◌≤◌, Bool, true, false, cond, List, [], ◌∷◌, Option, Some, None, refl, ap, ◌∙◌, arith}
use Rattle.std.specs.Prelude.{◌&&◌, not, is_none, is_some, find, count_by}
use Rattle.std.specs.List.{list_any, list_all}
use Rattle.std.proofs.lemmas.Bool.{cond_both, and_parts, and_right, and_left, and_from, ltb-true, lt-ltb, not-true, cond-false, false_from_ne_true}
use Rattle.std.proofs.lemmas.Bool.Decides.{nat_tests}
use Rattle.std.proofs.lemmas.List.Sums.{sum_by-cons}
use Rattle.mem_hier.specs.Replay.{Reference}
use Rattle.pisa_isa.specs.declared.places.Place.{Place}
use Rattle.ooo_table.specs.Row.{Row, is_at, is_before, sweep}
use Rattle.ooo_table.specs.Execution.{same_place}
use Rattle.ooo_table.specs.Table.{Setting}
use Rattle.ooo_table.specs.Path.{execution, loads}
use Rattle.ooo_table.specs.Done.{finished, has_produced, have_produced, unsquashed_before, waiting, live}
use Rattle.ooo_table.specs.Commit.{commit_row, commits}
use Rattle.ooo_table.specs.Recovery.{squash_row, recovers}
use Rattle.ooo_table.specs.Issue.{issue_row, issues, accesses}
use Rattle.ooo_table.specs.Dispatch.{dispatch_row, dispatches}
use Rattle.ooo_table.specs.Later.{Each, Where}

-- a row that is over before cycle c, for a row behind it with its fetch at f
pub record Over (set : Setting) (c f : ℕ) (o : Row) : Type 0 where
  pub dispatched : Where o.dispatched (λ d. d < c)
  pub issued : Where o.issued (λ i. i < c)
  pub access : Where o.access (λ a. a.at < c)
  pub committed : Where o.committed (λ x. x < c)
  pub left : o.fetched.right ≡ true → is_some o.committed ≡ true
  pub came : o.fetched.right ≡ true → is_some o.dispatched ≡ true
  pub began : o.fetched.right ≡ true → is_some o.issued ≡ true
  pub read : o.fetched.right ≡ true → loads set o ≡ true → is_some o.access ≡ true
  pub done : o.fetched.right ≡ true → is_before c (finished set o) ≡ true
  pub gone : o.fetched.right ≡ false → (x : ℕ) × (o.squashed ≡ Some x) × (x ≤ f)

-- all of these are over
abbrev pub AllOver : Setting → ℕ → ℕ → List Row → Type 0
AllOver set c f rows = Each (λ _ o. Over set c f o) rows

pub not_at : (c : ℕ) (m : Option ℕ) → Where m (λ d. d < c) → is_at c m ≡ false
not_at c None h = refl
not_at c (Some d) h = grind (arith, nat_tests)

none_not : {A : Type 0} (m : Option A) → is_some m ≡ true → is_none m ≡ false
none_not None h = absurd cc
none_not (Some x) h = refl

pub count_none : (p : Row → Bool) (rows : List Row) → Each (λ _ o. p o ≡ false) rows → count_by p rows ≡ 0
count_none p [] h = refl
count_none p (r ∷ rows) h = omega (arith, count_none p rows h.1, sum_by-cons (λ x. cond {A = ℕ} (p x) 1 0) r rows, ap (λ b. cond {A = ℕ} b 1 0) h.0)

pub each_map : (P Q : Row → Type 0) → ((o : Row) → P o → Q o) → (rows : List Row) → Each (λ _. P) rows → Each (λ _. Q) rows
each_map P Q f [] h = tt
each_map P Q f (r ∷ rows) h = (f r h.0, each_map P Q f rows h.1)

pub all_from : (p : Row → Bool) (rows : List Row) → Each (λ _ o. p o ≡ true) rows → list_all p rows ≡ true
all_from p [] h = refl
all_from p (r ∷ rows) h = and_from _ _ h.0 (all_from p rows h.1)

pub any_from : (p : Row → Bool) (rows : List Row) → Each (λ _ o. p o ≡ false) rows → list_any p rows ≡ false
any_from p [] h = refl
any_from p (r ∷ rows) h = rw (h.0, any_from p rows h.1) refl

module _ (set : Setting) (c f : ℕ) where
  pub either_way : (P : Type 0) (o : Row) → (o.fetched.right ≡ true → P) → (o.fetched.right ≡ false → P) → P
  either_way P o state off = by_case o.fetched.right refl
    where
      by_case : (b : Bool) → o.fetched.right ≡ b → P
      by_case true e = state e
      by_case false e = off e

  pub gone_none : (o : Row) → Over set c f o → o.fetched.right ≡ false → is_none o.squashed ≡ false
  gone_none o v w = ap is_none (v.gone w).1

  pub not_live : (o : Row) → Over set c f o → live o ≡ false
  not_live o v =
      either_way (live o ≡ false) o
      (λ w. and_left (is_some o.dispatched && is_none o.committed) (is_none o.squashed) (and_right (is_some o.dispatched) (is_none o.committed) (none_not _ (v.left w))))
      (λ w. and_right (is_some o.dispatched && is_none o.committed) (is_none o.squashed) (gone_none o v w))

  pub not_waiting : (o : Row) → Over set c f o → waiting o ≡ false
  not_waiting o v =
      either_way (waiting o ≡ false) o
      (λ w. and_left (is_none o.dispatched) (is_none o.squashed) (none_not _ (v.came w)))
      (λ w. and_right (is_none o.dispatched) (is_none o.squashed) (gone_none o v w))

  -- why it gets no mark
  some_none : {A : Type 0} (m : Option A) → is_some m ≡ true → is_none m ≡ true → ⊥
  some_none m h k = both (none_not m h) k
    where
      both : {b : Bool} → b ≡ false → b ≡ true → ⊥
      both e g = cc

  both' : {b : Bool} → b ≡ false → b ≡ true → ⊥
  both' e g = cc

  -- commit, issue and dispatch leave it as it is
  pub commit_same : (before : List Row) (o : Row) → Over set c f o → commit_row set c before o ≡ o
  commit_same before o v = cond-false (commits set c before o) (record o { committed = Some c }) o (false_from_ne_true _ (λ h. some_none o.committed (v.left (right_of h)) (unset h)))
    where
      right_of : commits set c before o ≡ true → o.fetched.right ≡ true
      right_of h = grind (arith, and_parts)

      unset : commits set c before o ≡ true → is_none o.committed ≡ true
      unset h = grind (arith, and_parts)

  pub dispatch_same : (before : List Row) (o : Row) → Over set c f o → dispatch_row set c before o ≡ o
  dispatch_same before o v = cond-false (dispatches set c before o) (record o { dispatched = Some c }) o (false_from_ne_true _ (λ h. both' (not_waiting o v) (waits h)))
    where
      waits : dispatches set c before o ≡ true → waiting o ≡ true
      waits h = grind (arith, and_parts)

  pub issue_same : (base : List Reference) (start before : List Row) (o : Row) → Over set c f o → issue_row set c base start before o ≡ o
  issue_same base start before o v =
      cond-false (issues set c start before o) _ _ (false_from_ne_true _ (λ h. not_issued h))
      ∙ cond-false (accesses set c start before o) _ o (false_from_ne_true _ (λ h. not_read h))
    where
      not_issued : issues set c start before o ≡ true → ⊥
      not_issued h =
          let unissued : is_none o.issued ≡ true = grind (arith, and_parts) in
          let stands : is_none o.squashed ≡ true = grind (arith, and_parts) in
          either_way ⊥ o (λ w. some_none o.issued (v.began w) unissued) (λ w. both' (gone_none o v w) stands)

      not_read : accesses set c start before o ≡ true → ⊥
      not_read h =
          let unread : is_none o.access ≡ true = grind (arith, and_parts) in
          let stands : is_none o.squashed ≡ true = grind (arith, and_parts) in
          let is_load : loads set o ≡ true = grind (arith, and_parts) in
          either_way ⊥ o (λ w. some_none o.access (v.read w is_load) unread) (λ w. both' (gone_none o v w) stands)

  -- a squash leaves it over
  squash_over : (before : List Row) (o : Row) → Over set c f o → Over set c f (squash_row set c before o)
  squash_over before o v =
      cond_both (list_any (recovers set c) before && is_none o.squashed) (record o { squashed = Some c }) o (Over set c f)
      (λ e. record {
        dispatched = v.dispatched;
        issued = v.issued;
        access = v.access;
        committed = v.committed;
        left = v.left;
        came = v.came;
        began = v.began;
        read = v.read;
        done = v.done;
        gone = λ w. absurd (both' (gone_none o v w) (and_parts _ _ e).1);
      })
      (λ _. v)

  -- hence rows that are over stay over
  pub swept_same : (g : List Row → Row → Row) → ((before : List Row) (o : Row) → Over set c f o → g before o ≡ o) → (rows : List Row) → AllOver set c f rows → sweep g rows ≡ rows
  swept_same g same [] h = refl
  swept_same g same (o ∷ rows) h = ap (λ l. g l o ∷ l) (swept_same g same rows h.1) ∙ ap (λ x. x ∷ rows) (same rows o h.0)

  pub swept_over : (rows : List Row) → AllOver set c f rows → AllOver set c f (sweep (squash_row set c) rows)
  swept_over [] h = tt
  swept_over (o ∷ rows) h = (squash_over (sweep (squash_row set c) rows) o h.0, swept_over rows h.1)

  -- the row behind them finds all its producers done
  found_ready : (n : ℕ) (q : Row → Bool) (rows : List Row) → AllOver set c f rows → c ≤ n
      → ((o : Row) → Over set c f o → q o ≡ true → o.fetched.right ≡ true) → has_produced set n (find q rows) ≡ true
  found_ready n q [] h le rightly = refl
  found_ready n q (o ∷ rows) h le rightly = by_case (q o) refl (found_ready n q rows h.1 le rightly)
    where
      later : (m : Option ℕ) → is_before c m ≡ true → is_before n m ≡ true
      later None k = absurd cc
      later (Some t) k = let lt : t < c = ltb-true _ _ k in lt-ltb t n (omega arith)

      by_case : (b : Bool) → q o ≡ b → has_produced set n (find q rows) ≡ true → has_produced set n (cond b (Some o) (find q rows)) ≡ true
      by_case true e ih = later (finished set o) (h.0.done (rightly o h.0 e))
      by_case false e ih = ih

  pub all_ready : (n d : ℕ) (rows : List Row) (r : Row) (places : List Place) → AllOver set c f rows → c ≤ n → r.dispatched ≡ Some d → f < d → have_produced set n rows r places ≡ true
  all_ready n d rows r [] h le e lt = refl
  all_ready n d rows r (p ∷ places) h le e lt =
      and_from _ _ (rw e (found_ready n _ rows h le rightly)) (all_ready n d rows r places h le e lt)
    where
      rightly : (o : Row) → Over set c f o → (list_any (λ w. same_place w p) (execution set o).writes && is_some o.dispatched && unsquashed_before (Some d) o) ≡ true → o.fetched.right ≡ true
      rightly o v k = either_way (o.fetched.right ≡ true) o (λ w. w) (λ w. absurd (stood (v.gone w) (and_parts (list_any (λ w. same_place w p) (execution set o).writes && is_some o.dispatched) (unsquashed_before (Some d) o) k).1))
        where
          stood : (x : ℕ) × (o.squashed ≡ Some x) × (x ≤ f) → not (is_before d o.squashed) ≡ true → ⊥
          stood (x, e, le) k = let g : is_before d o.squashed ≡ true = rw e (lt-ltb x d (omega arith)) in both' (not-true _ k) g
