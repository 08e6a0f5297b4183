-- The rows at an end lie between those of the cycle before and those of the whole cycle.
use Rattle.std.proofs.Common.{◌≡◌, ℕ, suc, ◌<◌, ◌≤◌, List, [], ◌∷◌, ◌++◌, Option, Some, None, refl, sym, ap, subst, arith, inl, inr}
use Rattle.std.specs.Prelude.{◌⊎◌, nat_le, length, true}
use Rattle.std.specs.List.{AllZip}
use Rattle.std.proofs.lemmas.Bool.{cond_both, cond-true, leb-true, le-leb}
use Rattle.ooo_table.specs.Row.{Row, sweep}
use Rattle.ooo_table.specs.Table.{Setting, Table}
use Rattle.ooo_table.specs.Commit.{commit, commit_row, commits}
use Rattle.ooo_table.specs.Recovery.{recover, squash_row}
use Rattle.ooo_table.specs.References.{store_references}
use Rattle.ooo_table.specs.Issue.{issue, issue_row}
use Rattle.ooo_table.specs.Dispatch.{dispatch, dispatch_row}
use Rattle.ooo_table.specs.Cycle.{table}
use Rattle.ooo_table.specs.Ends.{Extent, Whole, AtCommit, AtStop, rows_at, commit_up_to}
use Rattle.ooo_table.specs.Later.{Each, Where, Past, Later, Grew}
use Rattle.ooo_table.specs.Legal.{Happened}
use Rattle.ooo_table.proofs.Order.{Changed}
use Rattle.ooo_table.proofs.RowFacts.{changed_commit, changed_squash, changed_issue, changed_dispatch}
use Rattle.ooo_table.proofs.Marks.{later_refl, later_commit, later_squash, later_issue, later_dispatch, zip_sweep, zip_refl, zip_trans, fetch_adds, marked_zip, table_grows}
use Rattle.ooo_table.proofs.Kept.{kept_marks, each_of}
use Rattle.ooo_table.proofs.Counts.{past_kept, past_table, past_before}

module _ (set : Setting) where
  later_up_to : (row c : ℕ) (older : List Row) (r : Row) → Later r (commit_up_to set row c older r)
  later_up_to row c older r = cond_both (nat_le (length older) row) (commit_row set c older r) r (Later r) (λ _. later_commit set c older r) (λ _. later_refl r)

  pub swept_length : (f : List Row → Row → Row) (rows : List Row) → length (sweep f rows) ≡ length rows
  swept_length f [] = refl
  swept_length f (r ∷ rows) = ap (λ n. suc n) (swept_length f rows)

  -- a commit stage that is cut off does, up to the last row, what the whole one does
  pub same_commits : (row c : ℕ) (rows : List Row) → length rows ≤ suc row → sweep (commit_up_to set row c) rows ≡ sweep (commit_row set c) rows
  same_commits row c [] le = refl
  same_commits row c (r ∷ rows) le =
      turn (sweep (commit_up_to set row c) rows) (sweep (commit_row set c) rows) (same_commits row c rows (omega (arith, le))) (omega (arith, le, swept_length (commit_up_to set row c) rows))
    where
      turn : (a b : List Row) → a ≡ b → length a ≤ row → (commit_up_to set row c a r ∷ a) ≡ (commit_row set c b r ∷ b)
      turn a b e h = subst (λ b. (commit_up_to set row c a r ∷ a) ≡ (commit_row set c b r ∷ b)) e
          (ap (λ s. s ∷ a) (cond-true (nat_le (length a) row) (commit_row set c a r) r (le-leb (length a) row h)))

  -- and nothing that the whole one doesn't
  fewer_commits : (row c : ℕ) (rows : List Row) → AllZip Later (sweep (commit_up_to set row c) rows) (sweep (commit_row set c) rows)
  fewer_commits row c [] = tt
  fewer_commits row c (r ∷ rows) = (turn, fewer_commits row c rows)
    where
      a : List Row
      a = sweep (commit_up_to set row c) rows

      same : nat_le (length a) row ≡ true → a ≡ sweep (commit_row set c) rows
      same e = let le : length a ≤ row = leb-true (length a) row e in same_commits row c rows (omega (arith, le, swept_length (commit_up_to set row c) rows))

      turn : Later (commit_up_to set row c a r) (commit_row set c (sweep (commit_row set c) rows) r)
      turn =
          cond_both (nat_le (length a) row) (commit_row set c a r) r (λ s. Later s (commit_row set c (sweep (commit_row set c) rows) r))
          (λ e. subst (λ b. Later (commit_row set c a r) (commit_row set c b r)) (same e) (later_refl (commit_row set c a r)))
          (λ _. later_commit set c (sweep (commit_row set c) rows) r)

  -- the stages behind it
  rest_zip : (c : ℕ) (t : Table) → AllZip Later t.rows (dispatch set c (issue set c (recover set c t))).rows
  rest_zip c t =
      let two = recover set c t in
      let three = issue set c two in
      zip_trans _ _ _ (zip_sweep (squash_row set c) (later_squash set c) t.rows)
      (zip_trans _ _ _ (zip_sweep _ (later_issue set c (store_references set c two.rows two.references) two.rows) two.rows)
      (zip_sweep (dispatch_row set c) (later_dispatch set c) three.rows))

  grew_fetched : (c : ℕ) (rows : List Row) → AllZip Later rows (rows_at set AtStop c) → Grew rows (table set (suc c)).rows
  grew_fetched c rows zip = together (fetch_adds set set.config.decode c (dispatch set c (issue set c (recover set c (commit set c (table set c))))))
    where
      together : (fresh : List Row) × ((table set (suc c)).rows ≡ fresh ++ rows_at set AtStop c) → Grew rows (table set (suc c)).rows
      together (fresh, e) = (fresh, rows_at set AtStop c, e, zip)

  pub ends_between : (e : Extent) (c : ℕ) → Grew (table set c).rows (rows_at set e c) × Grew (rows_at set e c) (table set (suc c)).rows
  ends_between Whole c = (([], (table set c).rows, refl, zip_refl (table set c).rows), table_grows set c)
  ends_between (AtCommit row) c = (
    ([], rows_at set (AtCommit row) c, refl, zip_sweep (commit_up_to set row c) (later_up_to row c) (table set c).rows),
    grew_fetched c (rows_at set (AtCommit row) c) (zip_trans _ _ _ (fewer_commits row c (table set c).rows) (rest_zip c (commit set c (table set c)))),
  )
  ends_between AtStop c = (([], rows_at set AtStop c, refl, marked_zip set c (table set c)), grew_fetched c (rows_at set AtStop c) (zip_refl (rows_at set AtStop c)))

  -- of which cycles the marks are
  commits_alone : (row c : ℕ) (rows : List Row) → Each (λ _. Past c) rows → Each (Happened (AtCommit row) c) (sweep (commit_up_to set row c) rows)
  commits_alone row c [] h = tt
  commits_alone row c (r ∷ rows) h = (turn, commits_alone row c rows h.1)
    where
      a : List Row
      a = sweep (commit_up_to set row c) rows

      others : Past c (record r { committed = None })
      others = record { fetched = h.0.fetched; dispatched = h.0.dispatched; issued = h.0.issued; access = h.0.access; committed = tt; squashed = h.0.squashed }

      old : (m : Option ℕ) → Where m (λ x. x < c) → Where m (λ x. (x < c) ⊎ ((x ≡ c) × (length a ≤ row)))
      old None w = tt
      old (Some x) w = inl w

      kept : Happened (AtCommit row) c a r
      kept = (others, old r.committed h.0.committed)

      turn : Happened (AtCommit row) c a (commit_up_to set row c a r)
      turn =
          cond_both (nat_le (length a) row) (commit_row set c a r) r (Happened (AtCommit row) c a)
          (λ e. cond_both (commits set c a r) (record r { committed = Some c }) r (Happened (AtCommit row) c a) (λ _. (others, inr (refl, leb-true (length a) row e))) (λ _. kept))
          (λ _. kept)

  early : (c : ℕ) (f : List Row → Row → Row) → ((older : List Row) (r : Row) → Changed c r (f older r)) → (rows : List Row) → Each (λ _ r. r.fetched.at < c) rows → Each (λ _ r. r.fetched.at < c) (sweep f rows)
  early c f changed [] h = tt
  early c f changed (r ∷ rows) h = (subst (λ w. w.at < c) (sym (changed (sweep f rows) r).fetched) h.0, early c f changed rows h.1)

  both_of : (P Q : List Row → Row → Type 0) (rows : List Row) → Each P rows → Each Q rows → Each (λ older r. P older r × Q older r) rows
  both_of P Q [] h k = tt
  both_of P Q (r ∷ rows) h k = ((h.0, k.0), both_of P Q rows h.1 k.1)

  none_fetched : (c : ℕ) → Each (λ _ r. r.fetched.at < c) (rows_at set AtStop c)
  none_fetched c =
      let one = commit set c (table set c) in
      let two = recover set c one in
      let three = issue set c two in
      let base = store_references set c two.rows two.references in
      early c (dispatch_row set c) (changed_dispatch set c) three.rows
      (early c (issue_row set c base two.rows) (changed_issue set c base two.rows) two.rows
      (early c (squash_row set c) (changed_squash set c) one.rows
      (early c (commit_row set c) (changed_commit set c) (table set c).rows
      (each_of (λ _. Past c) (λ _ r. r.fetched.at < c) (λ older r h. h.fetched) (table set c).rows (past_table set c)))))

  pub happened_at : (e : Extent) (c : ℕ) → Each (Happened e c) (rows_at set e c)
  happened_at Whole c = past_table set c
  happened_at (AtCommit row) c = commits_alone row c (table set c).rows (past_table set c)
  happened_at AtStop c =
      both_of (λ _. Past (suc c)) (λ _ r. r.fetched.at < c) (rows_at set AtStop c) (kept_marks set c (λ _. Past (suc c)) (past_kept set c) (table set c) (past_before set c)) (none_fetched c)
