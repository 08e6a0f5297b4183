-- Marks never change, and rows never go.
use Rattle.std.proofs.Common.{◌≡◌, ℕ, zero, suc, true, List, [], ◌∷◌, ◌++◌, Option, Some, None, refl, sym, ◌∙◌, subst, arith, append_assoc}
use Rattle.std.specs.Prelude.{◌&&◌, is_none}
use Rattle.std.specs.List.{AllZip, list_any}
use Rattle.std.proofs.lemmas.Bool.{cond_both, and_parts}
use Rattle.mem_hier.specs.Replay.{Reference}
use Rattle.ooo_table.specs.Row.{Row, sweep, MemoryAccess}
use Rattle.ooo_table.specs.Table.{Setting, Table}
use Rattle.ooo_table.specs.Commit.{commit, commits, commit_row}
use Rattle.ooo_table.specs.Recovery.{recover, squash_row, recovers}
use Rattle.ooo_table.specs.References.{store_references}
use Rattle.ooo_table.specs.Issue.{issue, issues, accesses, issue_row, access_of}
use Rattle.ooo_table.specs.Dispatch.{dispatch, dispatches, dispatch_row}
use Rattle.ooo_table.specs.Fetch.{fetch_up_to, fetch_one, may_fetch}
use Rattle.ooo_table.specs.Cycle.{table, cycle}
use Rattle.ooo_table.specs.Later.{Stays, Later, Grew}

pub stays_refl : {A : Type 0} (m : Option A) → Stays m m
stays_refl None = tt
stays_refl (Some c) = refl

pub stays_none : {A : Type 0} (m n : Option A) → m ≡ None → Stays m n
stays_none None n e = tt
stays_none (Some c) n e = absurd cc

pub stays_trans : {A : Type 0} (a b c : Option A) → Stays a b → Stays b c → Stays a c
stays_trans None b c p q = tt
stays_trans (Some x) b c p q = let at : Stays (Some x) c = subst (λ b. Stays b c) p q in at

pub none_of : {A : Type 0} (o : Option A) → is_none o ≡ true → o ≡ None
none_of None e = refl
none_of (Some c) e = absurd cc

pub later_refl : (r : Row) → Later r r
later_refl r =
    record {
      fetched = refl;
      dispatched = stays_refl _;
      issued = stays_refl _;
      access = stays_refl _;
      committed = stays_refl _;
      squashed = stays_refl _;
    }

pub later_trans : (r s t : Row) → Later r s → Later s t → Later r t
later_trans r s t p q =
    record {
      fetched = q.fetched ∙ p.fetched;
      dispatched = stays_trans _ _ _ p.dispatched q.dispatched;
      issued = stays_trans _ _ _ p.issued q.issued;
      access = stays_trans _ _ _ p.access q.access;
      committed = stays_trans _ _ _ p.committed q.committed;
      squashed = stays_trans _ _ _ p.squashed q.squashed;
    }

-- a sweep adds marks where each of its turns does
pub zip_sweep : (f : List Row → Row → Row) → ((older : List Row) (r : Row) → Later r (f older r)) → (rows : List Row) → AllZip Later rows (sweep f rows)
zip_sweep f later [] = tt
zip_sweep f later (r ∷ older) = (later (sweep f older) r, zip_sweep f later older)

pub zip_refl : (rows : List Row) → AllZip Later rows rows
zip_refl [] = tt
zip_refl (r ∷ rows) = (later_refl r, zip_refl rows)

pub zip_trans : (a b c : List Row) → AllZip Later a b → AllZip Later b c → AllZip Later a c
zip_trans [] [] [] p q = tt
zip_trans (r ∷ a) (s ∷ b) (t ∷ c) p q = (later_trans r s t p.0 q.0, zip_trans a b c p.1 q.1)
zip_trans [] [] (t ∷ c) p q = absurd q
zip_trans [] (s ∷ b) c p q = absurd p
zip_trans (r ∷ a) [] c p q = absurd p
zip_trans (r ∷ a) (s ∷ b) [] p q = absurd q

-- a turn adds a mark, or one of two
committed_later : (r : Row) (c : ℕ) → r.committed ≡ None → Later r (record r { committed = Some c })
committed_later r c e =
    record {
      fetched = refl;
      dispatched = stays_refl _;
      issued = stays_refl _;
      access = stays_refl _;
      committed = stays_none _ _ e;
      squashed = stays_refl _;
    }

squashed_later : (r : Row) (c : ℕ) → r.squashed ≡ None → Later r (record r { squashed = Some c })
squashed_later r c e =
    record {
      fetched = refl;
      dispatched = stays_refl _;
      issued = stays_refl _;
      access = stays_refl _;
      committed = stays_refl _;
      squashed = stays_none _ _ e;
    }

dispatched_later : (r : Row) (c : ℕ) → r.dispatched ≡ None → Later r (record r { dispatched = Some c })
dispatched_later r c e =
    record {
      fetched = refl;
      dispatched = stays_none _ _ e;
      issued = stays_refl _;
      access = stays_refl _;
      committed = stays_refl _;
      squashed = stays_refl _;
    }

issued_later : (r : Row) (c : ℕ) → r.issued ≡ None → Later r (record r { issued = Some c })
issued_later r c e =
    record {
      fetched = refl;
      dispatched = stays_refl _;
      issued = stays_none _ _ e;
      access = stays_refl _;
      committed = stays_refl _;
      squashed = stays_refl _;
    }

accessed_later : (r : Row) (a : MemoryAccess) → r.access ≡ None → Later r (record r { access = Some a })
accessed_later r a e =
    record {
      fetched = refl;
      dispatched = stays_refl _;
      issued = stays_refl _;
      access = stays_none _ _ e;
      committed = stays_refl _;
      squashed = stays_refl _;
    }

module _ (set : Setting) where
  pub later_commit : (c : ℕ) (older : List Row) (r : Row) → Later r (commit_row set c older r)
  later_commit c older r =
      cond_both (commits set c older r) (record r { committed = Some c }) r (Later r)
      (λ e. committed_later r c (unset e)) (λ _. later_refl r)
    where
      unset : commits set c older r ≡ true → r.committed ≡ None
      unset e = grind (arith, none_of, and_parts)

  pub later_squash : (c : ℕ) (older : List Row) (r : Row) → Later r (squash_row set c older r)
  later_squash c older r =
      cond_both (list_any (recovers set c) older && is_none r.squashed) (record r { squashed = Some c }) r (Later r)
      (λ e. squashed_later r c (none_of _ (and_parts _ _ e).1)) (λ _. later_refl r)

  pub later_dispatch : (c : ℕ) (older : List Row) (r : Row) → Later r (dispatch_row set c older r)
  later_dispatch c older r =
      cond_both (dispatches set c older r) (record r { dispatched = Some c }) r (Later r)
      (λ e. dispatched_later r c (unset e)) (λ _. later_refl r)
    where
      unset : dispatches set c older r ≡ true → r.dispatched ≡ None
      unset e = grind (arith, none_of, and_parts)

  pub later_issue : (c : ℕ) (base : List Reference) (start older : List Row) (r : Row) → Later r (issue_row set c base start older r)
  later_issue c base start older r =
      cond_both (issues set c start older r) (record r { issued = Some c }) _ (Later r)
      (λ e. issued_later r c (unissued e))
      (λ _. cond_both (accesses set c start older r) (record r { access = Some (access_of set c base older r) }) r (Later r)
      (λ e. accessed_later r _ (unread e)) (λ _. later_refl r))
    where
      unissued : issues set c start older r ≡ true → r.issued ≡ None
      unissued e = grind (arith, none_of, and_parts)

      unread : accesses set c start older r ≡ true → r.access ≡ None
      unread e = grind (arith, none_of, and_parts)

  adds_more : (rows : List Row) (r : Row) (all : List Row) → (fresh : List Row) × (all ≡ fresh ++ (r ∷ rows)) → (fresh : List Row) × (all ≡ fresh ++ rows)
  adds_more rows r all (fresh, e) = (fresh ++ r ∷ [], e ∙ sym (append_assoc fresh (r ∷ []) rows))

  pub fetch_adds : (n c : ℕ) (t : Table) → (fresh : List Row) × ((fetch_up_to set n c t).rows ≡ fresh ++ t.rows)
  fetch_adds zero c t = ([], refl)
  fetch_adds (suc n) c t =
      cond_both (may_fetch set c t) (fetch_up_to set n c (fetch_one set c t)) t (λ u. (fresh : List Row) × (u.rows ≡ fresh ++ t.rows))
      (λ _. adds_more t.rows _ _ (fetch_adds n c (fetch_one set c t))) (λ _. ([], refl))

  -- the rows of a cycle before its fetches
  abbrev pub marked : ℕ → Table → Table
  marked c t = dispatch set c (issue set c (recover set c (commit set c t)))

  pub marked_zip : (c : ℕ) (t : Table) → AllZip Later t.rows (marked c t).rows
  marked_zip c t =
      let one = commit set c t in
      let two = recover set c one in
      let three = issue set c two in
      zip_trans _ _ _ (zip_sweep (commit_row set c) (later_commit c) t.rows)
      (zip_trans _ _ _ (zip_sweep (squash_row set c) (later_squash c) one.rows)
      (zip_trans _ _ _ (zip_sweep _ (later_issue c (store_references set c two.rows two.references) two.rows) two.rows)
      (zip_sweep (dispatch_row set c) (later_dispatch c) three.rows)))

  pub cycle_grows : (c : ℕ) (t : Table) → Grew t.rows (cycle set c t).rows
  cycle_grows c t = together (fetch_adds set.config.decode c (marked c t))
    where
      together : (fresh : List Row) × ((cycle set c t).rows ≡ fresh ++ (marked c t).rows) → Grew t.rows (cycle set c t).rows
      together (fresh, e) = (fresh, (marked c t).rows, e, marked_zip c t)

  pub table_grows : (c : ℕ) → Grew (table set c).rows (table set (suc c)).rows
  table_grows c = cycle_grows c (table set c)
